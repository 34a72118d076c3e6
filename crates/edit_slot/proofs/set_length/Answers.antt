-- `set_length` meets its contract: the bytes that are left or extended are put in the slot.
-- Assumes nothing.
use Rattle.edit_slot.proofs.Putting.{asked, length-changes}
use Rattle.edit_slot.proofs.set_length.Goals as goal

pub resize-requires : goal.resize-requires
resize-requires c = asked _ c.requires.1 _ _ c.requires.2

pub returns : goal.returns
returns c st l r = length-changes _ l _ _ r _ _ _ c.resize.ensures
