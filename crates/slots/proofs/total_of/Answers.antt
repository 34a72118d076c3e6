-- `slots::total_of` meets its contract. Assumes nothing.
use mathlib.Core.Path.{◌≡◌, ◌∙◌}
use Rattle.std.proofs.Common.{rules}
use Rattle.std.proofs.iter.runs.Made.{chains}
use Rattle.std.proofs.lemmas.Iterator.{YieldsList-from_map, YieldsList-from_slice}
use Rattle.std.proofs.lemmas.Iterator.Consumers.{YieldsList-at, fits_by_from_yields_list}
use Rattle.std.specs.List.{sum_by}
use Rattle.layout.specs.Fields.{len_of}
use Rattle.slots.proofs.Totals.{sum-total}
use Rattle.slots.proofs.total_of.Goals as goal

pub sum-requires-clause-fits : goal.sum-requires-clause-fits
sum-requires-clause-fits c =
    fits_by_from_yields_list len_of c.args.heads.now _ _ (YieldsList-from_map _ len_of (YieldsList-at c.map.ensures.source (YieldsList-from_slice c.args.heads.now c.iter.ensures.rest)) c.map.ensures.closure (λ x r q k. search rules))
    (rw (sum-total c.args.heads.now) c.requires)

pub returns : goal.returns
returns c =
    let e : c.sum.result ≡ sum_by len_of c.args.heads.now = search (rules, chains) in
    e ∙ sum-total c.args.heads.now
