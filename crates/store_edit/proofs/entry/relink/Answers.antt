-- `relink` meets its contract: once the entry is out its place is free, and the tree with the link there is the one with the link over it.
-- Assumes nothing.
use mathlib.Core.List.{[], ◌∷◌, ◌++◌}
use Rattle.model.specs.Prog.{remove}
use Rattle.model.specs.Calls.States.{edited}
use Rattle.edit_entry.specs.Made.{fresh_meta}
use Rattle.store_edit.proofs.Carrying.{shown}
use Rattle.store_edit.proofs.Replacing.{replace-may, replaced}
use Rattle.store_edit.proofs.entry.relink.Goals as goal

pub remove-requires : goal.remove-requires
remove-requires c = let q = c.requires.0 in (shown q.2, q.1, q.2, (q.3.0, c.args.name.now, q.3.1))

pub insert-link-requires : goal.insert-link-requires
insert-link-requires c =
    let q = c.requires.0 in
    let g = c.args in
    let r = c.remove.ensures (shown q.2) q.1 q.3.0 g.name.now q.2 q.3.1 in
    let m = replace-may q.2 g.spot q.3.0 g.name.now q.3.1 (fresh_meta g.new) g.target.now q.3.2 r _ c.depth_of-depth.ensures in
    ((q.0, edited (remove (q.3.0 ++ (g.name.now ∷ []))) q.1, r.shows, (q.3.0, m)), c.requires.1, c.requires.2)

pub returns : goal.returns
returns c st s d h a f =
    let g = c.args in
    let p = d ++ (g.name.now ∷ []) in
    let r = c.remove.ensures (shown h) s d g.name.now h a in
    let m = replace-may h g.spot d g.name.now a (fresh_meta g.new) g.target.now f r _ c.depth_of-depth.ensures in
    let k = c.insert-link.ensures st (edited (remove p) s) d r.shows m in
    record { shows = replaced h g.spot p a (fresh_meta g.new) g.target.now f _ r.shows.shaped k.shows; stands = k.stands }
