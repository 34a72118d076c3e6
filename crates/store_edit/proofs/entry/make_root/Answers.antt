-- `make_root` meets its contract: a slot is reserved, the root is the first record, free slots at the end are given up.
-- Assumes nothing.
use mathlib.Core.List.{[], ◌∷◌}
use native.Mathlib.Omega.{arith}
use Rattle.model.specs.Prog.{make}
use Rattle.edit_entry.specs.Made.{fresh_meta}
use Rattle.store_edit.proofs.Carrying.{shows_whole, roomy_of}
use Rattle.store_edit.proofs.Resizing.{reserved, released}
use Rattle.store_edit.proofs.Rooting.{root-may, stands-root}
use Rattle.store_edit.proofs.entry.make_root.Goals as goal

pub reserve-requires : goal.reserve-requires
reserve-requires c = roomy_of c.requires.2.roomy

pub slice_bounds-insert_root-end : goal.slice_bounds-insert_root-end
slice_bounds-insert_root-end c = (reserved c.requires.2 c.reserve.ensures).within

pub slice_bounds-insert_root-end-2 : goal.slice_bounds-insert_root-end-2
slice_bounds-insert_root-end-2 c = (reserved c.requires.2 c.reserve.ensures).part

pub insert_root-requires : goal.insert_root-requires
insert_root-requires c =
    let q = c.requires in
    let r = reserved q.2 c.reserve.ensures in
    (q.0, r.shows.roomy.lawful, root-may q.2 r.is (fresh_meta c.args.new) q.3)

pub release-requires : goal.release-requires
release-requires c =
    let q = c.requires in
    let r = reserved q.2 c.reserve.ensures in
    let x = c.insert_root in
    roomy_of (shows_whole (make [] (fresh_meta c.args.new) ∷ []) r.shows (x.ensures q.0 r.shows.roomy.lawful) x.auto.heads (omega arith)).roomy

pub returns : goal.returns
returns c st s h f =
    let r = reserved h c.reserve.ensures in
    let x = c.insert_root in
    let z = x.ensures st r.shows.roomy.lawful in
    let k = released (shows_whole (make [] (fresh_meta c.args.new) ∷ []) r.shows z x.auto.heads (omega arith)) c.release.ensures in
    record { shows = k.shows; stands = k.stands _ _ (stands-root r.shows c.args.new z) }
