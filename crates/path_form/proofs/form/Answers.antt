-- `path_form::form` meets its contract: the part of a plain text is stored, a slash in front.
use mathlib.Core.Path.{◌≡◌, sym}
use Prim.Native.Nat.{◌+◌}
use native.Mathlib.Omega.{arith}
use lib.ListN.{length}
use Rattle.path.specs.Path.{body}
use Rattle.path.specs.Backward.{sifted}
use Rattle.path.proofs.Following.{plain-stored}
use Rattle.path.proofs.Forming.{forms-long, forms_one}
use Rattle.path_scan.proofs.Trimming.{part_body, part-long}
use Rattle.path_form.proofs.form.Goals.{In-Some}
use Rattle.path_form.proofs.form.Goals as goal

-- the length of what is kept
size : (c : In-Some) → let a = c.args in length c.in-Some.names.now + 1 ≡ length (body (sifted a.strike 0 a.path.now).kept)
size c = part-long _ _ _ _ (c.in-Some.ensures c.args.strike)

pub returns-then-names-ge-LONGEST_PATH : goal.returns-then-names-ge-LONGEST_PATH
returns-then-names-ge-LONGEST_PATH c = forms-long _ _ (omega (arith, size (goal.at.returns-then-names-ge-LONGEST_PATH c).In-Some, c.if-names-ge-LONGEST_PATH.true))

pub returns-in-Some : goal.returns-in-Some
returns-in-Some c =
    let l = size (goal.at.returns-in-Some c).In-Some in
    forms_one _ _ _ _ l (omega (arith, c.if-names-ge-LONGEST_PATH.false))
    (plain-stored _ _ _ _ _ 0 (sym (part_body _ _ _ _ (c.in-Some.ensures c.args.strike))) (omega (arith, l)) (omega (arith, l)) c.put_name.ensures)
