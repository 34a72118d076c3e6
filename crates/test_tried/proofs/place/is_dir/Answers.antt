-- `is_dir` meets its contract: the slot of a record is one of the slots.
-- Assumes nothing.
use native.Mathlib.Omega.{arith}
use Rattle.ask_find.proofs.Records.{slot-low}
use Rattle.layout.specs.Lent.{lent_by}
use Rattle.test_tried.proofs.place.is_dir.Goals as goal

pub bounds-lent-slot : goal.bounds-lent-slot
bounds-lent-slot c = omega (arith, slot-low (lent_by c.args.lent) c.requires c.args.i (omega (arith, c.if-lent-i.false)), c.slot_of-slot.ensures)
