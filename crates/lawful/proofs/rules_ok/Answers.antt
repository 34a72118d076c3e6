-- `rules_ok` meets its contract: the limits, then the lengths, then the parts that the limits ask.
-- Assumes nothing.
use native.Mathlib.Omega.{arith}
use lib.ListN.{get_or}
use lib.Seq.{length-take-le}
use Rattle.layout.specs.Lent.{lent_by}
use Rattle.lawful.proofs.Whole.{pass-limits, pass-parts}
use Rattle.lawful.proofs.rules_ok.Goals.{then-not-limits_ok-via-then-not-limits_ok, then-not-limits_ok-via-else-not-limits_ok+then-not-is_long}
use Rattle.lawful.proofs.rules_ok.Goals as goal

pub returns-then-not-limits_ok : goal.returns-then-not-limits_ok
returns-then-not-limits_ok c =
    elim c.then-not-limits_ok.branch [
      | then-not-limits_ok-via-then-not-limits_ok w ↦ pass-limits (lent_by c.args.s) (w.if-not-limits_ok.ensures)
      | then-not-limits_ok-via-else-not-limits_ok+then-not-is_long w ↦ λ k. w.if-not-is_long.ensures k.0
    ]

pub parts_ok-requires : goal.parts_ok-requires
parts_ok-requires c =
    let s = c.args.s in let m = c.if-not-limits_ok.ensures in let l = c.if-not-is_long.ensures in (
      omega (arith, length-take-le 102 s.words.now m.words),
      omega (arith, length-take-le (get_or s.words.now 2 0) s.records.now (omega (arith, m.counted, l.records)), m.counted, m.entry_limit.1),
      omega (arith, length-take-le (get_or s.words.now 101 0) s.heads.now (omega (arith, m.slotted, l.heads)), m.slotted, m.entry_limit.1),
      omega (arith, length-take-le 33792 s.paths.now l.paths),
      omega (arith, length-take-le (get_or s.words.now 1 0) s.bytes.now l.bytes, m.byte_limit.1),
    )

pub returns : goal.returns
returns c = pass-parts (lent_by c.args.s) (c.if-not-limits_ok.ensures) (c.if-not-is_long.ensures) c.parts_ok.result c.parts_ok.ensures
