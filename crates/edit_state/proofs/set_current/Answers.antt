-- `set_current` meets its contract. Assumes nothing.
use native.Mathlib.Omega.{arith}
use Rattle.edit_state.proofs.Cells.{cell-fits}
use Rattle.edit_state.proofs.Setting.{go-spells}
use Rattle.edit_state.proofs.set_current.Goals as goal

pub copy_into-requires : goal.copy_into-requires
copy_into-requires c = omega (arith, c.requires.1, cell-fits _ c.requires.2)

pub returns : goal.returns
returns c st l = go-spells _ l _ c.requires.2 _ c.copy_into.ensures
