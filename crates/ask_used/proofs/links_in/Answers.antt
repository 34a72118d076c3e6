-- `links_in` meets its contract. Assumes nothing.
use mathlib.Core.Path.{◌∙◌}
use Prim.Native.Nat.{◌<◌}
use lib.ListN.{length}
use Rattle.std.proofs.Common.{rules}
use Rattle.std.proofs.lemmas.List.{get_or_default}
use Rattle.std.proofs.lemmas.Iterator.{YieldsList-from_slice}
use Rattle.std.proofs.lemmas.Iterator.Adapters.{serves_from_places}
use Rattle.std.proofs.lemmas.Iterator.Consumers.{YieldsList-at, YieldsList-from_filter, count_from_yields_List}
use Rattle.layout.specs.Fields.{slot_of}
use Rattle.ask_used.proofs.Used.{link_test, links-are, links-slotted, links-told}
use Rattle.ask_used.proofs.links_in.Goals as goal

pub count-requires-clause-can : goal.count-requires-clause-can
count-requires-clause-can c = (tt, tt, serves_from_places (YieldsList-at c.filter.ensures.source (YieldsList-from_slice c.args.records.now c.iter.ensures.rest)) (λ x q k. search rules) (λ x k l e. let s : slot_of x.now < length c.args.heads.now = rw (e ∙ get_or_default c.args.records.now k x.now 0 l) (links-slotted c.args.records.now c.args.heads.now c.requires k l) in search rules))

pub returns : goal.returns
returns c =
    λ st e f l.
    count_from_yields_List _ _ c.count.ensures.ran (YieldsList-from_filter _ (link_test c.args.heads.now) (YieldsList-at c.filter.ensures.source (YieldsList-from_slice c.args.records.now c.iter.ensures.rest)) c.filter.ensures.closure (λ x r q k. search rules))
    ∙ links-are c.args.heads.now c.args.records.now ∙ links-told c.args.records.now c.args.heads.now st e f l
