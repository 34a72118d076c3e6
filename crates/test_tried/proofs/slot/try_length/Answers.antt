-- `try_length` is safe: the slot is a file's, and the bytes are within the limit.
-- Assumes nothing.
use Rattle.edit_room.specs.Extents.{trim}
use Rattle.test_tried.proofs.Asking.{stored}
use Rattle.test_tried.proofs.slot.try_length.Goals as goal

pub set_length-requires : goal.set_length-requires
set_length-requires c = let r = c.ready.ensures c.if-not-ready.false in (trim (stored r), r.lawful, c.in-Some.ensures.2)
