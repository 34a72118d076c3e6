-- `mark_numbers` meets its contract. The loop's invariant: the marks have 2 more where one of the first j numbers stands.
-- Assumes nothing.
use mathlib.Core.Path.{◌≡◌}
use lib.ListN.{length}
use Rattle.slots.proofs.Counting.{Added}
use Rattle.slots.proofs.marks.mark_numbers.Given as goal

abbrev pub invariant-loop-j : goal.invariant-loop-j
invariant-loop-j l = (length l.marks ≡ 4128) × Added l.words l.initial.marks l.marks l.j
