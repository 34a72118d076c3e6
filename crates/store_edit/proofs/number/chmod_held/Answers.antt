-- `chmod_held` meets its contract: the edit spells the changed state of the one that is read back, so the store shows it of every other.
-- Assumes nothing.
use mathlib.Core.List.{[], ◌∷◌}
use mathlib.Core.Path.{refl}
use Rattle.model.specs.Tree.{chmod}
use Rattle.model.specs.Prog.{change_held}
use Rattle.store_edit.proofs.Carrying.{trimmed, shows_whole}
use Rattle.store_edit.proofs.number.chmod_held.Goals as goal

pub returns : goal.returns
returns c st s h o =
    let g = c.args in
    let k = c.held_slot.ensures in
    let x = c.set_mode in
    shows_whole (change_held g.n (chmod g.m) ∷ []) h ((x.ensures (trimmed h) h.roomy.lawful).by_number g.n k.0 k.1) x.auto.heads refl
