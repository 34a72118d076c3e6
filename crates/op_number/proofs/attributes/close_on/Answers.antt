-- `close_on` meets its contract: one edit.
-- Assumes nothing.
use Rattle.op_number.proofs.Changing.{does-closed}
use Rattle.op_number.proofs.attributes.close_on.Goals as goal

pub returns : goal.returns
returns c = λ st s h o. does-closed s _ _ (c.close.ensures st s h o)
