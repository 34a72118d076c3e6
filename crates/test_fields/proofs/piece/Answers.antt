use Rattle.std.proofs.Common.{rules, tests, ◌≡◌, ◌==◌, [], ℕ, List, Option, None, Some}
use Rattle.std.specs.List.{slice_get, slice_split}
use Rattle.std.specs.Option.{UnwrapsOrElse, option_map, unwrap_or}
use Rattle.std.proofs.lemmas.Iterator.Consumers.{nth_from_yields_List}
use Rattle.std.proofs.lemmas.Iterator.Splits.{YieldsList-from_slice_split}
use Rattle.std.proofs.lemmas.Option.{unwrap_or-slice_get}
use Rattle.test_fields.proofs.piece.Goals as goal
use mathlib.Core.Path.{ap, ◌∙◌}

-- what stands in place of nothing is no bytes
or_empty : {A : Type 0} (v : A → List ℕ) (o : Option A) (x : A) → UnwrapsOrElse o (λ y. v y ≡ []) x → v x ≡ unwrap_or (option_map v o) []
or_empty v None x u = u
or_empty v (Some y) x u = ap v u

-- piece k of those that `split` yields, and the closure tests for that byte
pub returns : goal.returns
returns c =
    let pieces = slice_split (λ byte. byte == c.args.at) c.args.text.now in
    let piece : option_map (λ x. x.now) c.nth.result ≡ slice_get pieces c.args.k =
    nth_from_yields_List _ _ _ c.nth.ensures.ran
    (YieldsList-from_slice_split _ _ c.args.text.now c.split.ensures.rest c.split.ensures.done c.split.ensures.closure
    (λ x r q k. search (rules, tests))) in
    or_empty (λ x. x.now) c.nth.result c.unwrap_or_default.result c.unwrap_or_default.ensures ∙ ap (λ o. unwrap_or o []) piece
    ∙ unwrap_or-slice_get pieces c.args.k []
