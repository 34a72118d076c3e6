-- `take_open` meets its contract. The loop's invariant: the slots are taken too that one of the first j numbers stands on.
-- Assumes nothing.
use mathlib.Core.Path.{◌≡◌}
use Prim.Native.Nat.{suc, ◌+◌, ◌-◌, ◌*◌}
use native.Mathlib.Omega.{arith}
use lib.ListN.{get_or, length-set}
use Rattle.layout.specs.declared.kind.Kind.TheVariants.{File}
use Rattle.layout.proofs.Held.{closed-word, open-word}
use Rattle.layout.proofs.Kinded.{kind-differs, kind-same}
use Rattle.lawful_slots.proofs.Taking.{opened_none, opened-closed, opened-far, opened-wrong, opened-again, opened-more}
use Rattle.lawful_slots.proofs.taken.take_open.Goals.{In-Some, then-taken-k-eq0, else-taken-k-eq0}
use Rattle.lawful_slots.proofs.taken.take_open.Goals as goal

-- the number's word, and the slot
word : (c : In-Some) → get_or c.args.words.now (5 + 3 * c.loop-j.j) 0 ≡ suc c.in-Some.k
word c = open-word _ _ c.in-Some.ensures

slot : (c : In-Some) → get_or c.args.words.now (5 + 3 * c.loop-j.j) 0 - 1 ≡ c.in-Some.k
slot c = omega (arith, word c)

pub loop-j-init : goal.loop-j-init
loop-j-init c = (c.requires.2, opened_none c.args.words.now c.args.heads.now c.args.taken.now, omega arith)

pub loop-j-preserved-in_default : goal.loop-j-preserved-in_default
loop-j-preserved-in_default c =
    let a = c.args in let l = c.loop-j in
    (l.invariant.0, opened-closed a.words.now a.heads.now a.taken.now l.taken l.j l.more l.invariant.1 (closed-word _ c.in_default.ensures), omega arith)

pub loop-j-preserved-then-heads-k : goal.loop-j-preserved-then-heads-k
loop-j-preserved-then-heads-k c =
    let a = c.args in let l = c.loop-j in let i = (goal.at.loop-j-preserved-then-heads-k c).In-Some in
    (l.invariant.0, opened-far a.words.now a.heads.now a.taken.now l.taken l.j l.more l.invariant.1 (omega (arith, word i)), omega arith)

pub returns-then-ne : goal.returns-then-ne
returns-then-ne c =
    let a = c.args in let l = c.loop-j in let i = (goal.at.returns-then-ne c).In-Some in
    let f = kind-differs File _ c.of.ensures c.ne.ensures c.if-ne.true in
    (opened-wrong a.words.now a.heads.now a.taken.now l.taken l.j l.more (omega arith) (omega (arith, word i)) (omega (arith, word i)) (rw (slot i) f), l.invariant.0, tt)

pub loop-j-preserved : goal.loop-j-preserved
loop-j-preserved c =
    let a = c.args in let l = c.loop-j in let i = (goal.at.loop-j-preserved c).In-Some in
    let f = kind-same File _ c.of.ensures c.ne.ensures c.if-ne.false in
    elim c.if-taken-k-eq0.branch [
      | then-taken-k-eq0 w ↦ rw (w.taken-is, w.more-is) (simp length-set l.invariant.0, rw (slot i) at (opened-more a.words.now a.heads.now a.taken.now l.taken l.j l.more l.invariant.1 (omega (arith, word i)) (omega (arith, word i)) (rw (slot i) f) (omega (arith, slot i)) (rw (slot i) w.if-taken-k-eq0.true)), omega arith)
      | else-taken-k-eq0 w ↦ rw (w.taken-is, w.more-is) (l.invariant.0, opened-again a.words.now a.heads.now a.taken.now l.taken l.j l.more l.invariant.1 (omega (arith, word i)) (omega (arith, word i)) (rw (slot i) f) c.requires.3 (rw (slot i) w.if-taken-k-eq0.false), omega arith)
    ]
