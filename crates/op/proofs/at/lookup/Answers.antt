-- `lookup` meets its contract: nothing is hidden, and the bound is the number of links.
-- Assumes nothing.
use Rattle.model.specs.Calls.States.{world_of}
use Rattle.op.proofs.Leading.{asked_whole, same_looks}
use Rattle.op.proofs.at.lookup.Goals as goal

pub lookup_entry_detail-requires : goal.lookup_entry_detail-requires
lookup_entry_detail-requires c = rw c.whole.ensures.tree c.requires

pub returns : goal.returns
returns c =
    let w = c.whole.ensures in
    let l = rw (w.tree, w.hidden) at c.lookup_entry_detail.ensures in
    λ st s h. same_looks (w.bound st s h) (l st s h (world_of s) (asked_whole _ s h))
