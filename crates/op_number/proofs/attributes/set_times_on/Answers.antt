-- `set_times_on` meets its contract: one edit, with each time that is given.
-- Assumes nothing.
use Rattle.op_number.proofs.Changing.{does-times}
use Rattle.op_number.proofs.attributes.set_times_on.Goals as goal

pub returns : goal.returns
returns c = λ st s h o. does-times s _ _ _ _ (c.touch_held.ensures st s h o)
