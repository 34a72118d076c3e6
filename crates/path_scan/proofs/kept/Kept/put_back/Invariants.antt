-- `Kept::put_back` meets its contract. The loop's invariant: the names kept of what was read are stored from `at` to `end`.
use mathlib.Core.List.{List}
use mathlib.Core.Path.{◌≡◌}
use lib.ListN.{length}
use Rattle.path.specs.Path.{Name}
use Rattle.path.proofs.Reading.{Read}
use Rattle.path.proofs.Storing.{Stored}
use Rattle.path_scan.specs.Left.{rest, FrontOf}
use Rattle.path_scan.proofs.kept.Kept.put_back.Given as goal

abbrev pub invariant-loop-start : goal.invariant-loop-start
invariant-loop-start l =
    (kept : List Name) × FrontOf l.self.text.now l.start-iterator.left × (l.start-iterator.strike ≡ l.self.strike)
    × Read l.self.strike l.self.text.now l.self.behind (rest l.start-iterator.left) l.start-iterator.skip kept
    × Stored l.initial.out l.out l.at l.end kept × (length l.out ≡ length l.initial.out)
