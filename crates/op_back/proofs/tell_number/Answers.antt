-- `tell_number` meets its contract, by whether the number is open.
-- Assumes nothing.
use Rattle.std.proofs.Common.{◌≡◌, ℕ, Option, rules, refl, ap, ◌∙◌, subst}
use Rattle.std.specs.Prelude.{Some, None, Err}
use Rattle.std.specs.Option.{ok_or}
use Rattle.layout.specs.Lent.{with_paths}
use Rattle.refusal.specs.declared.Refusal.TheVariants.{BadNumber}
use Rattle.store.specs.Shows.{NumberIs}
use Rattle.op.proofs.Calling.{not-zero}
use Rattle.op_back.proofs.Backs.{number-err, number-closed, number-plain, number_short, number-told}
use Rattle.op_back.proofs.tell_number.Goals.{In_ok-place}
use Rattle.op_back.proofs.tell_number.Goals as goal

pub returns-in_err-place : goal.returns-in_err-place
returns-in_err-place c =
    let n : c.open.result ≡ None = search rules in
    let v : c.ok_or.result ≡ Err BadNumber = c.ok_or.ensures.value ∙ ap (λ (o : Option ℕ). ok_or o BadNumber) n in
    let b : c.in_err-place.field-0.0 ≡ BadNumber = let k = c.in_err-place.was in cc in
    λ st s h. number-err _ _ c.from_residual.ensures.1 (rw b (number-closed (subst (NumberIs s _) n (c.open.ensures (with_paths c.args.paths.now st) s h))))

-- the number is open at the place
opened : (c : In_ok-place) → c.open.result ≡ Some c.in_ok-place.place
opened c = search rules

pub put_path-requires : goal.put_path-requires
put_path-requires c =
    let p = c.requires in
    number-plain p.1 _ _ (subst (NumberIs p.1 _) (opened (goal.at.put_path-requires c).In_ok-place) (c.open.ensures (with_paths c.args.paths.now p.0) p.1 p.2)) (c.kept.ensures p.0 p.1 p.2)

pub returns-in_err-put_path : goal.returns-in_err-put_path
returns-in_err-put_path c =
    λ st s h.
    number-err _ _ c.from_residual-in_err-put_path.ensures.1 (number_short s _ _ (subst (NumberIs s _) (opened (goal.at.returns-in_err-put_path c).In_ok-place) (c.open.ensures (with_paths c.args.paths.now st) s h)) (c.kept.ensures st s h) c.args.position.now c.in_err-put_path.ensures (not-zero _))

pub returns : goal.returns
returns c =
    λ st s h.
    number-told s _ _ (subst (NumberIs s _) (opened (goal.at.returns c).In_ok-place) (c.open.ensures (with_paths c.args.paths.now st) s h)) (c.kept.ensures st s h) c.args.position.now c.in_ok-put_path.ensures refl
