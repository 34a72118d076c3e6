-- `take_named` meets its contract. The loop's invariant: the slots are taken that the first i records name.
-- Assumes nothing.
use mathlib.Core.Path.{sym, ◌∙◌, subst}
use native.Mathlib.Omega.{arith}
use lib.Dec.{T}
use lib.ListN.{length-set}
use Rattle.lawful_slots.proofs.Taking.{named_none, named_more, named-filled, named-twice, named-wrong}
use Rattle.lawful_slots.proofs.taken.take_named.Goals.{then-taken-s-ne0-via-then-taken-s-ne0, then-taken-s-ne0-via-else-taken-s-ne0+then-not-entry_word}
use Rattle.lawful_slots.proofs.taken.take_named.Goals as goal

pub loop-w-init : goal.loop-w-init
loop-w-init c = (c.requires.2, named_none c.args.recs.now c.args.heads.now c.args.taken.now c.requires.3, c.requires.4)

pub returns-then-taken-s-ne0 : goal.returns-then-taken-s-ne0
returns-then-taken-s-ne0 c =
    let a = c.args in let l = c.loop-w in let o = c.requires.1 l.w-index (omega arith) in
    elim c.then-taken-s-ne0.branch [
      | then-taken-s-ne0-via-then-taken-s-ne0 w ↦ (named-twice a.recs.now a.heads.now l.taken l.w-index (omega arith) (omega arith) l.invariant.1 c.requires.1 (rw c.slot_of-s.ensures at w.if-taken-s-ne0.true), l.invariant.0)
      | then-taken-s-ne0-via-else-taken-s-ne0+then-not-entry_word w ↦ (named-wrong a.recs.now a.heads.now l.taken l.w-index (omega arith) (omega arith) l.invariant.1 c.requires.1 (rw c.slot_of-s.ensures at (sym w.entry_word.ensures ∙ w.if-not-entry_word.true)), l.invariant.0)
    ]

pub loop-w-preserved : goal.loop-w-preserved
loop-w-preserved c =
    let a = c.args in let l = c.loop-w in let o = c.requires.1 l.w-index (omega arith) in
    let free = rw c.slot_of-s.ensures at c.if-taken-s-ne0.false in
    let word = rw c.slot_of-s.ensures at (sym c.entry_word.ensures ∙ c.if-not-entry_word.false) in
    rw c.slot_of-s.ensures (
      simp length-set l.invariant.0,
      named_more a.recs.now a.heads.now l.taken l.w-index (omega arith) (omega arith) l.invariant.1 free (subst T (sym word) tt),
      named-filled a.recs.now a.heads.now l.taken l.w-index (omega arith) (omega arith) l.invariant.1 free l.invariant.2,
    )
