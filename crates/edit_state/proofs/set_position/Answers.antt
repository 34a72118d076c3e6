-- `set_position` meets its contract. Assumes nothing.
use Rattle.edit_state.proofs.Setting.{seek-spells}
use Rattle.edit_state.proofs.set_position.Goals as goal

pub returns : goal.returns
returns c st l = seek-spells _ l _ _ c.requires.1
