-- `resize_held` meets its contract: the state with so many bytes fits, so there is room for them.
-- Assumes nothing.
use mathlib.Core.List.{[], ◌∷◌}
use mathlib.Core.Path.{refl, ap}
use Rattle.text.specs.Utf8.{Bytes}
use Rattle.model.specs.Tree.{resize}
use Rattle.model.specs.Prog.{change_held}
use Rattle.model.specs.Operations.Numbers.{resized}
use Rattle.store_edit.proofs.Carrying.{shown, trimmed, shows_whole}
use Rattle.store_edit.proofs.Entering.{same_change}
use Rattle.store_edit.proofs.Fitting.{held_is, held-slot, resize-may}
use Rattle.store_edit.proofs.number.resize_held.Goals as goal

pub held_slot-requires : goal.held_slot-requires
held_slot-requires c = let q = c.requires in (shown q.2, q.1, q.2, held_is q.2 c.args.n q.3.0 q.3.1.has)

pub set_length-requires : goal.set_length-requires
set_length-requires c = let q = c.requires in (trimmed q.2, q.2.roomy.lawful, resize-may q.2 q.3.1 c.held_slot.ensures.1)

pub returns : goal.returns
unfolding resized
returns c st s b h m =
    let g = c.args in
    let k = c.held_slot.ensures in
    let w = c.set_length in
    let x = same_change (ap (λ (t : Bytes). resize (resized g.size t)) (held-slot h g.n b m.has _ k.1)) (w.ensures (trimmed h) h.roomy.lawful (resize-may h m k.1)) in
    shows_whole (change_held g.n (resize (resized g.size b)) ∷ []) h (x.by_number g.n k.0 k.1) w.auto.heads refl
