-- `no_follow` meets its contract: nothing is hidden.
-- Assumes nothing.
use Rattle.model.specs.Calls.States.{world_of}
use Rattle.op.proofs.Leading.{asked_whole}
use Rattle.op.proofs.at.no_follow.Goals as goal

pub returns : goal.returns
returns c = λ st s h. c.lookup_entry_detail_no_follow.ensures st s h (world_of s) (asked_whole _ s h)
