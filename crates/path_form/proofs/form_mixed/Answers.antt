-- `path_form::form_mixed` meets its contract.
use native.Mathlib.Omega.{arith}
use Rattle.path.proofs.Forming.{forms-long, forms_one}
use Rattle.path_form.proofs.form_mixed.Goals as goal

pub returns-then-kept-gt-LONGEST_PATH : goal.returns-then-kept-gt-LONGEST_PATH
returns-then-kept-gt-LONGEST_PATH c = forms-long _ _ (omega (arith, c.read_back-kept.ensures.measured.long))

pub returns : goal.returns
returns c =
    let e = c.read_back-kept.ensures in
    forms_one _ _ _ _ e.measured.long (omega arith) (rw (e.given.0, e.given.1, e.given.2) at c.put.ensures)
