-- `probe_normalize` meets its contract.
use native.Mathlib.Omega.{arith}
use Rattle.test_probe.proofs.Laws.{answers-short, answers-formed}
use Rattle.test_probe.proofs.probe_normalize.Goals as goal

pub returns-then-out-lt-LONGEST_PATH : goal.returns-then-out-lt-LONGEST_PATH
returns-then-out-lt-LONGEST_PATH c = answers-short _ _ (omega arith)

pub returns : goal.returns
returns c = answers-formed (omega arith) c.normalize_path.ensures c.number.ensures
