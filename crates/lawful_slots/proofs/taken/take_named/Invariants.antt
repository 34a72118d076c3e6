-- `take_named` meets its contract. The loop's invariant: the slots are taken that the first i records name.
-- Assumes nothing.
use mathlib.Core.Path.{◌≡◌}
use lib.ListN.{length}
use Rattle.lawful_slots.specs.Uses.{filled}
use Rattle.lawful_slots.proofs.Taking.{NamedTo}
use Rattle.lawful_slots.proofs.taken.take_named.Given as goal

abbrev pub invariant-loop-w : goal.invariant-loop-w
invariant-loop-w l = (length l.taken ≡ 4128) × NamedTo l.recs l.heads l.taken l.w-index × (filled l.taken ≡ l.w-index)
