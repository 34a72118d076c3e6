-- `write` meets its contract: the state with the new bytes fits, so there is room for them, and no entry is moved.
-- Assumes nothing.
use mathlib.Core.List.{[], ◌∷◌}
use mathlib.Core.Path.{refl}
use mir.Syntax.{w64}
use mir.ValLaws.{to_z-of_z}
use Rattle.model.specs.Tree.{write}
use Rattle.model.specs.Prog.{change}
use Rattle.store_edit.proofs.Carrying.{shown, trimmed, shows_whole, spots_same}
use Rattle.store_edit.proofs.Entering.{spot_has, same_change}
use Rattle.store_edit.proofs.Fitting.{write-room}
use Rattle.store_edit.proofs.slot.write.Goals as goal

pub set_contents-requires : goal.set_contents-requires
set_contents-requires c = let q = c.requires in (trimmed q.2, q.2.roomy.lawful, write-room q.2 q.3.1 q.3.2 c.slot_of-slot.ensures)

pub returns : goal.returns
returns c st s p h a m =
    let g = c.args in
    let k = c.slot_of-slot.ensures in
    let w = c.set_contents in
    let x = same_change (λ z. write g.contents.now (to_z-of_z w64 g.t c.ranges.t z)) (w.ensures (trimmed h) h.roomy.lawful (write-room h a m k)) in
    let y = x.by_name p (spot_has h a k) in
    record {
      shows = shows_whole (change p (write g.contents.now g.t) ∷ []) h y w.auto.heads refl;
      spots = λ spot q b. spots_same (shown h) y.lawful x.rows refl refl spot q b;
    }
