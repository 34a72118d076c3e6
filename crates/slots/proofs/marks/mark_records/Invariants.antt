-- `mark_records` meets its contract. The loop's invariant: the marks say how often the first i records name each slot.
-- Assumes nothing.
use mathlib.Core.Path.{◌≡◌}
use lib.ListN.{length}
use Rattle.slots.proofs.Counting.{Said}
use Rattle.slots.proofs.marks.mark_records.Given as goal

abbrev pub invariant-loop-w : goal.invariant-loop-w
invariant-loop-w l = (length l.marks ≡ 4128) × Said l.recs l.marks l.w-index
