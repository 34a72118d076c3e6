-- `set_mode_on` meets its contract: one edit.
-- Assumes nothing.
use Rattle.op_number.proofs.Changing.{does-mode}
use Rattle.op_number.proofs.attributes.set_mode_on.Goals as goal

pub returns : goal.returns
returns c = λ st s h o. does-mode s _ _ _ (c.chmod_held.ensures st s h o)
