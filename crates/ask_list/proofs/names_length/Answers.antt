-- `names_length` meets its contract. Assumes nothing.
use mathlib.Core.Path.{sym, ap, ◌∙◌}
use native.Mathlib.Omega.{arith}
use Rattle.std.specs.List.{sum_by}
use Rattle.std.proofs.Common.{rules}
use Rattle.std.proofs.lemmas.Iterator.{YieldsList-from_map}
use Rattle.std.proofs.lemmas.Iterator.Consumers.{YieldsList-from_first, YieldsList-at, sum_by_from_yields_List, fits_by_from_yields_list}
use Rattle.ask_list.proofs.Entered.{left_in, text_size, few}
use Rattle.ask_list.proofs.Given.{by_records, length-told}
use Rattle.ask_list.proofs.names_length.Goals as goal

pub sum-requires-clause-fits : goal.sum-requires-clause-fits
sum-requires-clause-fits c =
    let b = c.below.result in
    fits_by_from_yields_list text_size _ _ _ (YieldsList-from_map _ text_size (YieldsList-at c.map.ensures.source (YieldsList-from_first (λ x. x) left_in _ c.below.ensures)) c.map.ensures.closure (λ x r q k. search rules))
    (rw (sym c.below.ensures) (omega (arith, b.fits.0, (few b.depth b.left.now b.spot).sizes)))

pub returns : goal.returns
returns c =
    λ st e l p a.
    let s = c.args.spot in
    sum_by_from_yields_List text_size _ _ _ c.sum.ensures.ran (YieldsList-from_map _ text_size (YieldsList-at c.map.ensures.source (YieldsList-from_first (λ x. x) left_in _ c.below.ensures)) c.map.ensures.closure (λ x r q k. search rules))
    ∙ ap (sum_by text_size) (by_records st l s p a c.args.records.now e) ∙ length-told st l s p a
