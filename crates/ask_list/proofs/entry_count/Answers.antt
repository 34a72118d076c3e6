-- `entry_count` meets its contract. Assumes nothing.
use mathlib.Core.Logic.{inl}
use mathlib.Core.Path.{ap, ◌∙◌}
use native.Mathlib.Omega.{arith}
use lib.ListN.{length}
use Rattle.std.proofs.lemmas.Iterator.Consumers.{YieldsList-from_first, count_from_yields_List}
use Rattle.ask_list.proofs.Entered.{left_in, few}
use Rattle.ask_list.proofs.Given.{by_records, count-told}
use Rattle.ask_list.proofs.entry_count.Goals as goal

pub count-requires-clause-fits : goal.count-requires-clause-fits
count-requires-clause-fits c = let b = c.below.result in inl (omega (arith, b.fits.0, (few b.depth b.left.now b.spot).count))

pub returns : goal.returns
returns c =
    λ st e l p a.
    let s = c.args.spot in
    count_from_yields_List _ _ c.count.ensures.ran (YieldsList-from_first (λ x. x) left_in _ c.below.ensures)
    ∙ ap length (by_records st l s p a c.args.records.now e) ∙ count-told st l s p a
