-- `mark_records` meets its contract. The loop's invariant: the marks say how often the records so far name each slot.
-- Assumes nothing.
use native.Mathlib.Omega.{arith}
use lib.ListN.{length-set}
use lib.Seq.{take_all}
use Rattle.slots.proofs.Counting.{said_none, said_more, said-twice}
use Rattle.slots.proofs.marks.mark_records.Goals as goal

pub loop-w-init : goal.loop-w-init
loop-w-init c = (c.requires.1, said_none c.args.recs.now c.args.marks.now c.requires.2)

pub bounds-marks-s : goal.bounds-marks-s
bounds-marks-s c = rw c.slot_of-s.ensures (c.requires.0 c.loop-w.w-index c.loop-w-test.true)

pub returns-then-marks-s-ne0 : goal.returns-then-marks-s-ne0
returns-then-marks-s-ne0 c =
    let a = c.args in let l = c.loop-w in
    let o = c.requires.0 l.w-index c.loop-w-test.true in
    ((l.w-index, c.loop-w-test.true, said-twice a.recs.now l.marks l.w-index c.loop-w-test.true (omega arith) l.invariant.1 (rw c.slot_of-s.ensures at c.if-marks-s-ne0.true)), l.invariant.0)

pub bounds-marks-s-in-loop-w : goal.bounds-marks-s-in-loop-w
bounds-marks-s-in-loop-w c = rw c.slot_of-s.ensures (c.requires.0 c.loop-w.w-index c.loop-w-test.true)

pub loop-w-preserved : goal.loop-w-preserved
loop-w-preserved c =
    let a = c.args in let l = c.loop-w in
    let o = c.requires.0 l.w-index c.loop-w-test.true in
    (simp length-set l.invariant.0, rw c.slot_of-s.ensures (said_more a.recs.now l.marks l.w-index c.loop-w-test.true (omega arith) l.invariant.1 (rw c.slot_of-s.ensures at c.if-marks-s-ne0.false)))

pub returns : goal.returns
returns c = let l = c.loop-w in ((λ k. rw (take_all l.w-index c.args.recs.now (omega arith)) at (l.invariant.1 k)), l.invariant.0)
