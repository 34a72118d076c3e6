-- `mark_numbers` meets its contract. The loop's invariant: the marks have 2 more where one of the first j numbers stands.
-- Assumes nothing.
use mathlib.Core.Path.{◌≡◌}
use native.Mathlib.Omega.{arith}
use Prim.Native.Nat.{suc, ◌+◌, ◌-◌, ◌*◌}
use lib.ListN.{get_or, length-set}
use Rattle.layout.proofs.Held.{closed-word, open-word}
use Rattle.slots.proofs.Counting.{added_none, added-closed, added-again, added_more}
use Rattle.slots.proofs.marks.mark_numbers.Goals.{In-Some}
use Rattle.slots.proofs.marks.mark_numbers.Goals as goal

pub loop-j-init : goal.loop-j-init
loop-j-init c = (c.requires.2, added_none c.args.words.now c.args.marks.now)

pub loop-j-preserved-in_default : goal.loop-j-preserved-in_default
loop-j-preserved-in_default c =
    let a = c.args in let l = c.loop-j in
    (l.invariant.0, added-closed a.words.now a.marks.now l.marks l.j l.invariant.1 (closed-word _ c.in_default.ensures))

-- the number's word
word : (c : In-Some) → get_or c.args.words.now (5 + 3 * c.loop-j.j) 0 ≡ suc c.in-Some.s
word c = open-word _ _ c.in-Some.ensures

slot : (c : In-Some) → get_or c.args.words.now (5 + 3 * c.loop-j.j) 0 - 1 ≡ c.in-Some.s
slot c = omega (arith, word c)

pub bounds-marks-s : goal.bounds-marks-s
bounds-marks-s c = let l = c.loop-j in omega (arith, c.requires.1 l.j (omega arith), word (goal.at.bounds-marks-s c).In-Some)

pub loop-j-preserved-then-m-ge2 : goal.loop-j-preserved-then-m-ge2
loop-j-preserved-then-m-ge2 c =
    let a = c.args in let l = c.loop-j in
    let i = (goal.at.loop-j-preserved-then-m-ge2 c).In-Some in
    (l.invariant.0, added-again a.words.now a.marks.now l.marks l.j l.invariant.1 c.requires.3 (omega (arith, word i)) (rw (slot i) c.if-m-ge2.true))

pub bounds-marks-s-in-loop-j : goal.bounds-marks-s-in-loop-j
bounds-marks-s-in-loop-j c = let l = c.loop-j in omega (arith, c.requires.1 l.j (omega arith), word (goal.at.bounds-marks-s-in-loop-j c).In-Some)

pub loop-j-preserved : goal.loop-j-preserved
loop-j-preserved c =
    let a = c.args in let l = c.loop-j in
    let i = (goal.at.loop-j-preserved c).In-Some in
    let o = c.requires.1 l.j (omega arith) in
    (simp length-set l.invariant.0, rw (slot i) at (added_more a.words.now a.marks.now l.marks l.j l.invariant.1 c.requires.3 (omega (arith, word i)) (omega arith) (rw (slot i) c.if-m-ge2.false)))

pub returns : goal.returns
returns c = let l = c.loop-j in let e : l.j ≡ 32 = omega arith in (rw e at l.invariant.1, l.invariant.0)
