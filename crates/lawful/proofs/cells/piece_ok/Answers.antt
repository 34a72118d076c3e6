-- `piece_ok` meets its contract, test by test.
-- Assumes nothing.
use native.Mathlib.Omega.{arith}
use Rattle.std.proofs.lemmas.Bool.Decides.{nat_tests}
use Rattle.lawful_entries.proofs.Walking.{form-ok, form-bad}
use Rattle.lawful.proofs.cells.piece_ok.Goals as goal

pub returns-then-n-le-LONGEST_NAME : goal.returns-then-n-le-LONGEST_NAME
returns-then-n-le-LONGEST_NAME c = grind (arith, nat_tests, form-ok, form-bad)

pub returns-else-n-le-LONGEST_NAME : goal.returns-else-n-le-LONGEST_NAME
returns-else-n-le-LONGEST_NAME c = grind (arith, nat_tests, form-ok, form-bad)
