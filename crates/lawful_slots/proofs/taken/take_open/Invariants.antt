-- `take_open` meets its contract. The loop's invariant: the slots are taken too that one of the first j numbers stands on.
-- Assumes nothing.
use mathlib.Core.Path.{◌≡◌}
use Prim.Native.Nat.{◌≤◌}
use lib.ListN.{length}
use Rattle.std.specs.Prelude.{Some}
use Rattle.lawful_slots.specs.Uses.{OpenedBy}
use Rattle.lawful_slots.proofs.taken.take_open.Given as goal

abbrev pub invariant-loop-j : goal.invariant-loop-j
invariant-loop-j l = (length l.taken ≡ 4128) × OpenedBy l.words l.heads l.initial.taken l.taken l.j (Some l.more) × (l.more ≤ l.j)
