-- `jobtree_set_current_dir` meets its contract: the call, and both working buffers cleared.
-- Assumes nothing.
use Rattle.op.proofs.Calling.{answers_finished}
use Rattle.jobtree.proofs.state.jobtree_set_current_dir.Goals as goal

pub returns : goal.returns
returns c = answers_finished c.set_current_dir-r.ensures _ c.set_current_dir-r.auto.first c.finish.ensures.first c.finish.ensures.second c.finish.ensures.number
