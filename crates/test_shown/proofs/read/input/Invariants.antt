-- What is left of the slice falls at each read.
use Rattle.std.proofs.Common.{length, ◌-◌, ◌≤◌}
use Rattle.test_shown.proofs.read.input.Given as goal

abbrev pub invariant-loop-n : goal.invariant-loop-n
invariant-loop-n g l = l.n ≤ length l.into

abbrev pub decreases-loop-n : goal.decreases-loop-n
decreases-loop-n g l = length l.initial.into - l.n
