use Rattle.std.proofs.Common.{length}
use Rattle.test_shown.proofs.decode.decode_behind.Given as goal

-- what is left of the argument grows shorter
abbrev pub decreases-loop-rest : goal.decreases-loop-rest
decreases-loop-rest l = length l.rest
