-- `file_slot` meets its contract: the record that the path leads to is the entry at the path.
-- Assumes nothing.
use native.Mathlib.Omega.{arith}
use Rattle.layout.specs.Lent.{lent_by}
use Rattle.ask_find.proofs.Records.{slot-low}
use Rattle.layout.specs.declared.kind.Kind.TheVariants.{File}
use Rattle.layout.proofs.Kinded.{kind-is}
use Rattle.test_tried.proofs.Walked.{if-file, file_at_lem}
use Rattle.test_tried.proofs.open.file_slot.Goals as goal

pub bounds-lent-slot : goal.bounds-lent-slot
bounds-lent-slot c = omega (arith, slot-low (lent_by c.args.lent) c.requires.0 c.in_ok-i.i c.in_ok-i.ensures.within, c.slot_of-slot.ensures)

pub returns : goal.returns
returns c =
    let st = lent_by c.args.lent in
    let i = c.in_ok-i.ensures in
    let low = slot-low st c.requires.0 c.in_ok-i.i i.within in
    let is = c.slot_of-slot.ensures in
    rw c.then_some.ensures
    (if-file st c.args.path.now _ _ (λ e. (omega (arith, low, is), file_at_lem st c.requires.0 c.args.path.now c.in_ok-i.i _ c.requires.1 i is (kind-is File _ c.of.ensures c.eq.ensures e))))
