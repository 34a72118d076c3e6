-- `path_form::join` meets its contract: the two measures are the two parts of the path's text.
use mathlib.Core.Path.{sym}
use mathlib.Core.Bool.{true}
use native.Mathlib.Omega.{arith}
use Rattle.path.specs.Backward.{sifted}
use Rattle.path.specs.Path.{body}
use Rattle.path.proofs.Forming.{forms_same, joined, both_long, forms_both}
use Rattle.path_form.proofs.join.Goals as goal

pub returns-then-first-gt-LONGEST_PATH : goal.returns-then-first-gt-LONGEST_PATH
returns-then-first-gt-LONGEST_PATH c =
    let last = c.measure-last.ensures.measured in let first = c.measure-first.ensures.measured in
    forms_same (sym (joined _ _ _ last.drops))
    (both_long (body (sifted true c.measure-last.result.skip c.args.dir.now).kept) (body (sifted true 0 c.args.path.now).kept) _ _ first.long (omega arith))

pub returns-then-first-last : goal.returns-then-first-last
returns-then-first-last c =
    let last = c.measure-last.ensures.measured in let first = c.measure-first.ensures.measured in
    forms_same (sym (joined _ _ _ last.drops))
    (both_long (body (sifted true c.measure-last.result.skip c.args.dir.now).kept) (body (sifted true 0 c.args.path.now).kept) _ _ first.long (omega (arith, last.long)))

pub returns : goal.returns
returns c =
    let last = c.measure-last.ensures.measured in let first = c.measure-first.ensures.measured in
    let e = c.measure-last.ensures.given in
    let f = c.measure-first.ensures.given in
    forms_same (sym (joined _ _ _ last.drops))
    (forms_both (body (sifted true c.measure-last.result.skip c.args.dir.now).kept) (body (sifted true 0 c.args.path.now).kept) _ _ _ _ _ first.long last.long
    (omega arith) (rw (e.0, e.1, e.2) at c.put.ensures) (rw (f.0, f.1, f.2) at c.put-2.ensures) (omega arith))
