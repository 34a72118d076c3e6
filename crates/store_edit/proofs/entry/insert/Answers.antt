-- `insert` meets its contract: a slot is reserved, the entry is put at its place, free slots at the end are given up.
-- Assumes nothing.
use mathlib.Core.List.{[], ◌∷◌, ◌++◌}
use mathlib.Core.Path.{refl}
use native.Mathlib.Omega.{arith}
use Rattle.edit_entry.specs.Made.{insertion}
use Rattle.store_edit.proofs.Carrying.{shows_whole, roomy_of}
use Rattle.store_edit.proofs.Inserting.{insert-may, stands-new}
use Rattle.store_edit.proofs.Resizing.{reserved, released}
use Rattle.store_edit.proofs.entry.insert.Goals as goal

pub reserve-requires : goal.reserve-requires
reserve-requires c = roomy_of c.requires.0.2.roomy

pub slice_bounds-insert_entry-end : goal.slice_bounds-insert_entry-end
slice_bounds-insert_entry-end c = (reserved c.requires.0.2 c.reserve.ensures).within

pub slice_bounds-insert_entry-end-2 : goal.slice_bounds-insert_entry-end-2
slice_bounds-insert_entry-end-2 c = (reserved c.requires.0.2 c.reserve.ensures).part

pub insert_entry-requires : goal.insert_entry-requires
insert_entry-requires c =
    let q = c.requires in
    let r = reserved q.0.2 c.reserve.ensures in
    (q.0.0, r.shows.roomy.lawful, (q.0.3.0, insert-may q.0.2 r.is refl refl c.args.made c.args.new q.1 q.2 q.0.3.1))

pub release-requires : goal.release-requires
release-requires c =
    let q = c.requires in
    let g = c.args in
    let r = reserved q.0.2 c.reserve.ensures in
    let x = c.insert_entry in
    let z = x.ensures q.0.0 r.shows.roomy.lawful q.0.3.0 (insert-may q.0.2 r.is refl refl g.made g.new q.1 q.2 q.0.3.1) in
    roomy_of (shows_whole (insertion g.made g.new (q.0.3.0 ++ (g.name.now ∷ [])) ∷ []) r.shows z.spells x.auto.heads (omega arith)).roomy

pub returns : goal.returns
returns c st s d h f =
    let g = c.args in
    let q = c.requires in
    let r = reserved h c.reserve.ensures in
    let m = insert-may h r.is refl refl g.made g.new q.1 q.2 f in
    let x = c.insert_entry in
    let z = x.ensures st r.shows.roomy.lawful d m in
    let k = released (shows_whole (insertion g.made g.new (d ++ (g.name.now ∷ [])) ∷ []) r.shows z.spells x.auto.heads (omega arith)) c.release.ensures in
    record { shows = k.shows; stands = k.stands _ _ (stands-new h r.is refl refl g.gap f.free.vacant m z) }
