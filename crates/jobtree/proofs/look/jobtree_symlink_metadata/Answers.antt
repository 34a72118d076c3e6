-- `jobtree_symlink_metadata` meets its contract: the call, and both working buffers cleared.
-- Assumes nothing.
use Rattle.op.proofs.Calling.{answers_finished}
use Rattle.jobtree.proofs.look.jobtree_symlink_metadata.Goals as goal

pub returns : goal.returns
returns c = answers_finished c.symlink_metadata.ensures _ c.symlink_metadata.auto.first c.finish.ensures.first c.finish.ensures.second c.finish.ensures.number
