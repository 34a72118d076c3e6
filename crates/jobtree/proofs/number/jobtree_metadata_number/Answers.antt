-- `jobtree_metadata_number` meets its contract: the call, and both working buffers cleared.
-- Assumes nothing.
use Rattle.op.proofs.Calling.{answers_finished}
use Rattle.jobtree.proofs.number.jobtree_metadata_number.Goals as goal

pub returns : goal.returns
returns c = answers_finished c.metadata_number.ensures _ c.metadata_number.auto.first c.finish.ensures.first c.finish.ensures.second c.finish.ensures.number
