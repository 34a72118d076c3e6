-- `leads` meets its contract: nothing is hidden, and the bound is the number of links.
-- Assumes nothing.
use Rattle.model.specs.Calls.States.{world_of}
use Rattle.op.proofs.Leading.{asked_whole, same_leads}
use Rattle.op.proofs.at.leads.Goals as goal

pub leads-requires : goal.leads-requires
leads-requires c = rw c.whole.ensures.tree c.requires

pub returns : goal.returns
returns c =
    let w = c.whole.ensures in
    let l = rw (w.tree, w.hidden) at c.leads.ensures in
    λ st s h. same_leads (w.bound st s h) (l st s h (world_of s) (asked_whole _ s h))
