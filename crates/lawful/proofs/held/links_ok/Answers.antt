-- `links_ok` meets its contract. The loop's invariant: the slots that are left decide, and their bytes stand in `rest`.
-- Assumes nothing.
use mathlib.Core.Path.{sym}
use native.Mathlib.Omega.{arith}
use Rattle.std.proofs.Common.{rules}
use Rattle.layout.specs.declared.kind.Kind.TheVariants.{Link}
use Rattle.layout.proofs.Kinded.{kind-is, kind-other}
use Rattle.lawful.proofs.Slotting.{linked-bad, linked-other, linked_on}
use Rattle.lawful.proofs.Sums.{total_next}
use Rattle.lawful.proofs.held.links_ok.Goals.{else-eq-via-then-eq+else-not-target_ok, else-eq-via-else-eq}
use Rattle.lawful.proofs.held.links_ok.Goals as goal

pub split_at-requires : goal.split_at-requires
split_at-requires c = omega (arith, total_next c.args.heads.now c.loop-h.h-index (omega arith))

pub returns-then-not-target_ok : goal.returns-then-not-target_ok
returns-then-not-target_ok c =
    let l = c.loop-h in let s = c.split_at.result in
    linked-bad c.args.heads.now c.args.contents.now l.h-index l.rest.now l.invariant (omega arith) s.0.now s.1.now (search rules) (search rules) (kind-is Link _ c.of.ensures c.eq.ensures c.if-eq.true) (sym c.if-not-target_ok.ensures)

pub loop-h-preserved : goal.loop-h-preserved
loop-h-preserved c =
    let h = c.args.heads.now in let l = c.loop-h in let s = c.split_at.result in
    elim c.else-eq.branch [
      | else-eq-via-then-eq+else-not-target_ok w ↦ linked_on h c.args.contents.now l.h-index l.rest.now l.invariant (omega arith) s.0.now s.1.now (search rules) (search rules) (kind-is Link _ c.of.ensures c.eq.ensures w.if-eq.true) (sym w.if-not-target_ok.ensures)
      | else-eq-via-else-eq w ↦ linked-other h c.args.contents.now l.h-index l.rest.now l.invariant (omega arith) s.0.now s.1.now (search rules) (search rules) (λ e. kind-other Link _ c.of.ensures c.eq.ensures w.if-eq.false e)
    ]
