-- `form` meets its contract, by how the path is taken.
-- Assumes nothing.
use mathlib.Core.Path.{◌≡◌, sym, ◌∙◌}
use native.Mathlib.Omega.{arith}
use lib.ListN.{length}
use borrow.Author.Tests.{eqb-true, eqb-false}
use Rattle.op.specs.Beginning.{Stops}
use Rattle.op.specs.declared.begin.Sort.TheVariants.{Named}
use Rattle.op.proofs.Beginning.{given_none, as_taken, stops_at, stops-long}
use Rattle.op.proofs.Doing.{passed_on}
use Rattle.op.proofs.begin.form.Goals.{In_default, in_default-via-in-Named+else-is_empty, in_default-via-in_default}
use Rattle.op.proofs.begin.form.Goals as goal

pub returns-in-Named : goal.returns-in-Named
returns-in-Named c = λ st s h. given_none s _ _ _ c.in-Named.is (eqb-true _ _ (sym c.is_empty.ensures ∙ c.if-is_empty.true))

-- a path that is empty is taken as any is
filled : (c : In_default) → c.args.sort ≡ Named → length c.args.path.now ≡ 0 → ⊥
filled c e z = elim c.in_default.branch [ in_default-via-in-Named+else-is_empty w ↦ eqb-false _ _ (sym w.is_empty.ensures ∙ w.if-is_empty.false) z | in_default-via-in_default w ↦ w.in_default.not-Named e ]

pub returns-in_err-absolute_in-in_default : goal.returns-in_err-absolute_in-in_default
returns-in_err-absolute_in-in_default c =
    λ st s h. passed_on c.from_residual.ensures.1 (Stops s _ _ _) (as_taken s _ _ _ _ (filled (goal.at.returns-in_err-absolute_in-in_default c).In_default) (stops-long (c.in_err-absolute_in-in_default.ensures st s h)))

pub returns-in_ok-absolute_in-in_default : goal.returns-in_ok-absolute_in-in_default
returns-in_ok-absolute_in-in_default c = λ st s h. as_taken s _ _ _ _ (filled (goal.at.returns-in_ok-absolute_in-in_default c).In_default) (stops_at (c.in_ok-absolute_in-in_default.ensures st s h) (omega (arith, c.absolute_in.auto.out)))
