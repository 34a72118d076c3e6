-- `insert_made` meets its contract: a slot is reserved, and what is left is a store.
-- Assumes nothing.
use mathlib.Core.Path.{sym}
use native.Mathlib.Omega.{arith}
use lib.Seq.{length-take-le}
use Rattle.edit_room.proofs.Parting.{part_within}
use Rattle.test_tried.proofs.Asking.{stored, roomy-again}
use Rattle.test_tried.proofs.entry.insert_made.Goals as goal

pub reserve-requires : goal.reserve-requires
reserve-requires c = (stored c.requires, c.requires)

pub slice_bounds-insert_exact-end : goal.slice_bounds-insert_exact-end
slice_bounds-insert_exact-end c = part_within _ (c.reserve.ensures (stored c.requires) c.requires).resized.roomy

pub slice_bounds-insert_exact-end-2 : goal.slice_bounds-insert_exact-end-2
slice_bounds-insert_exact-end-2 c = sym (length-take-le _ _ (part_within _ (c.reserve.ensures (stored c.requires) c.requires).resized.roomy))

pub insert_exact-done-requires : goal.insert_exact-done-requires
insert_exact-done-requires c =
    let v = c.reserve.ensures (stored c.requires) c.requires in
    (v.resized.roomy.lawful, λ h. v.free (omega (arith, h, v.resized.words 2 (λ e. omega arith), v.resized.words 0 (λ e. omega arith))))

pub release-requires : goal.release-requires
release-requires c =
    let v = c.reserve.ensures (stored c.requires) c.requires in
    let x = c.insert_exact-done in
    let y = roomy-again v.resized.roomy x.auto.heads (omega arith) x.ensures in
    (stored y, y)

pub returns : goal.returns
returns c =
    let v = c.reserve.ensures (stored c.requires) c.requires in
    let x = c.insert_exact-done in
    let y = roomy-again v.resized.roomy x.auto.heads (omega arith) x.ensures in
    (c.release.ensures (stored y) y).resized.roomy
