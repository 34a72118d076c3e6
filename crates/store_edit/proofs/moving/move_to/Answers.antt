-- `move_to` meets its contract: the place is one where the entry may be moved, and the state with it there fits.
-- Assumes nothing.
use mathlib.Core.List.{[], ◌∷◌, ◌++◌}
use mathlib.Core.Path.{refl}
use Rattle.model.specs.Prog.{take, give}
use Rattle.store_edit.proofs.Blocks.{block_told}
use Rattle.store_edit.proofs.Carrying.{trimmed, shows_same}
use Rattle.store_edit.proofs.Ways.{move-way, way-spells}
use Rattle.store_edit.proofs.moving.move_to.Goals as goal

pub move_entry-requires : goal.move_entry-requires
move_entry-requires c = let q = c.requires.0 in (trimmed q.2, q.2.roomy.lawful, (move-way q.2 q.3.2 q.3.3 c.requires.1 (block_told q.2 q.3.2 c.live.ensures c.block_end-end.ensures)).may)

pub returns : goal.returns
returns c st s p d h a m =
    let w = move-way h a m c.requires.1 (block_told h a c.live.ensures c.block_end-end.ensures) in
    let x = c.move_entry in
    shows_same (take p ∷ give (d ++ (c.args.name.now ∷ [])) ∷ []) h (way-spells w p a.path (x.ensures (trimmed h) h.roomy.lawful w.may)) refl x.auto.records
