-- `set_mode` meets its contract: the word with another mode is another mode.
-- Assumes nothing.
use Rattle.edit_slot.proofs.Metadata.{mode-changes}
use Rattle.edit_slot.proofs.set_mode.Goals as goal

pub returns : goal.returns
returns c st l = rw c.put_mode.ensures (mode-changes _ l _ c.requires _)
