-- `set_umask` meets its contract. Assumes nothing.
use native.Mathlib.Omega.{arith}
use Rattle.edit_state.proofs.Setting.{umask-spells}
use Rattle.edit_state.proofs.set_umask.Goals as goal

pub returns : goal.returns
returns c st l = rw c.from.ensures (umask-spells _ l _ (omega arith))
