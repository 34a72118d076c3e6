-- `touch_held` meets its contract: the edit spells the changed state of the one that is read back, so the store shows it of every other.
-- Assumes nothing.
use mathlib.Core.List.{[], ◌∷◌}
use mathlib.Core.Path.{refl}
use native.Mathlib.Omega.{arith}
use Rattle.model.specs.Tree.{touch_some}
use Rattle.model.specs.Prog.{change_held}
use Rattle.edit_slot.specs.Times.{in_model}
use Rattle.store_edit.proofs.Carrying.{trimmed, shows_same}
use Rattle.store_edit.proofs.Entering.{open_at}
use Rattle.store_edit.proofs.number.touch_held.Goals as goal

pub returns : goal.returns
returns c st s h o =
    let g = c.args in
    let k = c.held_slot.ensures in
    let x = c.set_some_times.ensures (trimmed h) h.roomy.lawful (omega (arith, k.1, (open_at _ s h g.n o).1.low)) in
    shows_same (change_held g.n (touch_some (in_model g.given.accessed) (in_model g.given.modified)) ∷ []) h (x.by_number g.n k.0 k.1) refl refl
