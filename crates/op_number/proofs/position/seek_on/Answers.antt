-- `seek_on` meets its contract: a number is taken for the origin that it stands for.
-- Assumes nothing.
use Rattle.op.proofs.Calling.{same_run}
use Rattle.op_number.proofs.Seeking.{origin_run}
use Rattle.op_number.proofs.position.seek_on.Goals as goal

pub returns : goal.returns
returns c = λ st s h o. same_run (origin_run _ _ _ _ c.from.ensures) (c.seek_by.ensures st s h o)
