-- `names_text` meets its contract. The loop's invariant: the names of the records that are left, which stand in `rest`, decide.
-- Assumes nothing.
use mathlib.Core.Bool.{true, false}
use mathlib.Core.Path.{sym, ◌∙◌}
use native.Mathlib.Numerals.{add-one}
use native.Mathlib.Omega.{arith}
use Rattle.std.proofs.Common.{rules}
use Rattle.lawful_entries.proofs.Looking.{total_at, text_step, text-end}
use Rattle.lawful_entries.proofs.looks.names_text.Goals as goal

pub split_at-requires : goal.split_at-requires
split_at-requires c = omega (arith, total_at c.args.recs.now c.loop-w.w-index (omega arith))

pub returns-then-not-text_ok : goal.returns-then-not-text_ok
returns-then-not-text_ok c =
    let l = c.loop-w in let s = c.split_at.result in
    sym (l.invariant.1 ∙ text_step c.args.recs.now l.w-index (omega arith) l.rest.now s.0.now s.1.now false (search rules) (search rules) c.if-not-text_ok.ensures)

pub loop-w-preserved : goal.loop-w-preserved
loop-w-preserved c =
    let l = c.loop-w in let s = c.split_at.result in (
      rw add-one (omega (arith, total_at c.args.recs.now l.w-index (omega arith))),
      l.invariant.1 ∙ text_step c.args.recs.now l.w-index (omega arith) l.rest.now s.0.now s.1.now true (search rules) (search rules) c.if-not-text_ok.ensures,
    )

pub returns : goal.returns
returns c = let l = c.loop-w in sym (l.invariant.1 ∙ text-end c.args.recs.now l.rest.now l.w-index (omega arith))
