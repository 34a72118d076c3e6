-- `jobtree_read_link` meets its contract: the call, and both working buffers cleared.
-- Assumes nothing.
use Rattle.op.proofs.Calling.{answers_finished}
use Rattle.jobtree.proofs.look.jobtree_read_link.Goals as goal

pub returns : goal.returns
returns c = answers_finished c.read_link.ensures _ c.read_link.auto.first c.finish.ensures.first c.finish.ensures.second c.finish.ensures.number
