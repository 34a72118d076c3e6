-- `set_umask_to` meets its contract.
-- Assumes nothing.
use Rattle.op.proofs.Writing.{number-written}
use Rattle.model.specs.Calls.States.{world_of}
use Rattle.op.proofs.Doing.{does-done}
use Rattle.op_state.proofs.Setting.{umask-run}
use Rattle.op_state.proofs.set_umask_to.Goals as goal

pub returns : goal.returns
returns c = λ st s h. does-done _ s _ _ _ (umask-run _ _ (world_of s) (c.mask-old.ensures st s h)) (c.umask.ensures st s h) _ _ (number-written _ c.args.number.now)
