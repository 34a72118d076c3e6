-- `in_use` meets its contract: there are no more words that are not 0 than words. Assumes nothing.
use mathlib.Core.Bool.{not, cond}
use native.Mathlib.Omega.{arith}
use lib.Dec.{eqb}
use Rattle.std.proofs.Common.{rules, tests}
use Rattle.std.proofs.lemmas.Iterator.{YieldsList-from_map, YieldsList-from_slice}
use Rattle.std.proofs.lemmas.Iterator.Consumers.{YieldsList-at, fits_by_from_yields_list}
use Rattle.std.proofs.lemmas.List.Sums.{count_by-le-length}
use Rattle.lawful_slots.proofs.taken.in_use.Goals as goal

pub sum-requires-clause-fits : goal.sum-requires-clause-fits
sum-requires-clause-fits c =
    let hs = c.args.heads.now in
    fits_by_from_yields_list (λ h. cond (not (eqb h 0)) 1 0) hs _ _ (YieldsList-from_map _ (λ h. cond (not (eqb h 0)) 1 0) (YieldsList-at c.map.ensures.source (YieldsList-from_slice hs c.iter.ensures.rest)) c.map.ensures.closure (λ x r q k. search (rules, tests)))
    (omega (arith, count_by-le-length (λ h. not (eqb h 0)) hs, c.well_formed))
