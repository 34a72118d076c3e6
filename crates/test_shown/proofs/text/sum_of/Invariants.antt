use Rattle.std.proofs.Common.{◌≤◌}
use Rattle.test_shown.proofs.text.sum_of.Given as goal

abbrev pub invariant-loop-byte : goal.invariant-loop-byte
invariant-loop-byte l = l.sum ≤ 4294967290
