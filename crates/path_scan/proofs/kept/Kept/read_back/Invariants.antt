-- `Kept::read_back` meets its contract. The loop's invariant: what was read keeps names whose text is `len` long.
use mathlib.Core.List.{List}
use mathlib.Core.Path.{◌≡◌}
use Prim.Native.Nat.{◌+◌, ◌≤◌}
use lib.ListN.{length}
use Rattle.path.specs.Path.{Name, body}
use Rattle.path.proofs.Reading.{Read}
use Rattle.path_scan.specs.Left.{rest, FrontOf}
use Rattle.path_scan.proofs.kept.Kept.read_back.Given as goal

abbrev pub invariant-loop-start : goal.invariant-loop-start
invariant-loop-start l =
    (kept : List Name) × FrontOf l.text l.names.left × (l.names.strike ≡ l.strike) × Read l.strike l.text l.behind (rest l.names.left) l.names.skip kept
    × (l.len ≡ length (body kept)) × (l.len + rest l.names.left ≤ length l.text + 1)
