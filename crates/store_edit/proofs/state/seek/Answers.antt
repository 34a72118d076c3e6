-- `seek` meets its contract: the edit spells the edited state of the one that is read back, so the store shows it of every other.
-- Assumes nothing.
use mathlib.Core.List.{[], ◌∷◌}
use mathlib.Core.Path.{refl}
use Rattle.model.specs.Prog.{seek}
use Rattle.store_edit.proofs.Carrying.{trimmed, shows_same}
use Rattle.store_edit.proofs.state.seek.Goals as goal

pub returns : goal.returns
returns c st s h = shows_same (seek c.args.n c.args.k ∷ []) h (c.set_position.ensures (trimmed h) h.roomy.lawful) refl refl
