-- `try_root` is safe: the store is lawful, and empty.
-- Assumes nothing.
use mathlib.Core.Path.{◌∙◌, sym}
use native.Mathlib.Omega.{arith}
use lib.Seq.{length-take-le}
use Rattle.edit_room.proofs.Parting.{part_within}
use Rattle.test_tried.proofs.Asking.{stored, roomy-again}
use Rattle.test_tried.proofs.entry.try_root.Goals as goal

pub reserve-requires : goal.reserve-requires
reserve-requires c = let r = c.ready.ensures c.if-not-ready.false in (stored r, r)

pub slice_bounds-insert_root-end : goal.slice_bounds-insert_root-end
slice_bounds-insert_root-end c = let r = c.ready.ensures c.if-not-ready.false in part_within _ (c.reserve.ensures (stored r) r).resized.roomy

pub slice_bounds-insert_root-end-2 : goal.slice_bounds-insert_root-end-2
slice_bounds-insert_root-end-2 c = let r = c.ready.ensures c.if-not-ready.false in sym (length-take-le _ _ (part_within _ (c.reserve.ensures (stored r) r).resized.roomy))

pub insert_root-requires : goal.insert_root-requires
insert_root-requires c =
    let r = c.ready.ensures c.if-not-ready.false in
    let v = c.reserve.ensures (stored r) r in
    let z = c.if-words-ne0.false in
    (stored r, v.resized.roomy.lawful, record { empty = v.resized.words 2 (λ e. omega arith) ∙ z; free = v.free (omega (arith, z, r.lawful.entry_limit.0)) })

pub release-requires : goal.release-requires
release-requires c =
    let r = c.ready.ensures c.if-not-ready.false in
    let v = c.reserve.ensures (stored r) r in
    let x = c.insert_root in
    let y = roomy-again v.resized.roomy x.auto.heads (omega arith) (x.ensures (stored r) v.resized.roomy.lawful).lawful in
    (stored y, y)
