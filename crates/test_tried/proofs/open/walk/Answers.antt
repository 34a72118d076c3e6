-- `walk` meets its contract. The loop's invariant: the names that were passed lead to the record.
-- Assumes nothing.
use mathlib.Core.List.{◌∷◌}
use mathlib.Core.Path.{refl, sym, ap, ◌∙◌}
use native.Mathlib.Omega.{arith}
use lib.Dec.{eqb}
use lib.ListN.{length}
use Rattle.std.proofs.Common.{rules, tests}
use Rattle.std.proofs.lemmas.Iterator.Consumers.{YieldsList-turn, YieldsList-end}
use Rattle.std.proofs.lemmas.Iterator.Splits.{YieldsList-from_slice_split}
use Rattle.std.proofs.lemmas.List.{length_push}
use Rattle.layout.specs.Lent.{lent_by}
use Rattle.lawful.proofs.KeptPaths.{pieces-split}
use Rattle.test_tried.proofs.Walked.{walked_none, walked_more, led_none, led_all}
use Rattle.test_tried.proofs.open.walk.Goals as goal

pub returns-in_default : goal.returns-in_default
returns-in_default c = led_none (lent_by c.args.lent) c.requires c.args.path.now c.in_default.ensures.cases (omega (arith, c.if-lent-eq0.false))

pub loop-name-init : goal.loop-name-init
loop-name-init c = walked_none (lent_by c.args.lent) c.requires _ (omega (arith, c.if-lent-eq0.false))

pub loop-name-preserved : goal.loop-name-preserved
loop-name-preserved c =
    let g = c.into_iter-name-iterator.ensures.into_iter_gives in
    let t = YieldsList-turn
    (YieldsList-from_slice_split _ (λ b. eqb b 47) _ refl (ap (λ s. s.done) g ∙ c.split-name-items.ensures.done) (ap (λ s. s.pred) g ∙ c.split-name-items.ensures.closure) (λ x b q k. search (rules, tests)))
    c.loop-name.yielded _ c.loop-name.yielded_by _ _ c.in-Some-name.name c.in-Some-name.is c.next.ensures.steps in
    walked_more c.loop-name.invariant (length_push c.loop-name.yielded c.in-Some-name.name) (rw (← pieces-split c.into_iter-name-iterator.result.rest.now) t) c.in_ok-i.ensures

pub returns : goal.returns
returns c =
    let g = c.into_iter-name-iterator.ensures.into_iter_gives in
    let e = c.in-Some.ensures.cases in
    let t = YieldsList-end
    (YieldsList-from_slice_split _ (λ b. eqb b 47) _ refl (ap (λ s. s.done) g ∙ c.split-name-items.ensures.done) (ap (λ s. s.pred) g ∙ c.split-name-items.ensures.closure) (λ x b q k. search (rules, tests)))
    c.loop-name.yielded _ c.loop-name.yielded_by _ _ c.in-None.is c.next.ensures.steps in
    let r = ap (λ s. s.rest.now) g ∙ c.split-name-items.ensures.rest in
    led_all (e.0 ∙ (λ i. c.if-first-ne47.false i ∷ sym r i)) c.loop-name.invariant (t.1 ∙ ap length (pieces-split c.into_iter-name-iterator.result.rest.now))
