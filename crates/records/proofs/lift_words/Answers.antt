-- `records::lift_words` meets its contract: each word of the part is lifted. Assumes nothing.
use native.Mathlib.Omega.{arith}
use Rattle.std.proofs.Common.{rules}
use Rattle.std.proofs.lemmas.List.Edits.{map_over_more}
use Rattle.records.specs.Blocks.{lift}
use Rattle.records.proofs.Lifts.{change-part, next-liftable}
use Rattle.records.proofs.lift_words.Goals as goal

pub overflow_sub-w-in-loop-w : goal.overflow_sub-w-in-loop-w
overflow_sub-w-in-loop-w c =
    let a = c.args in
    let r = next-liftable (lift a.up a.down) a.records.now c.loop-w.w-items a.block.start a.block.end c.loop-w.w-index a.up a.down c.loop-w-test.true c.loop-w.invariant c.requires.3 in
    omega (arith, r.low)

pub overflow_add-w-in-loop-w : goal.overflow_add-w-in-loop-w
overflow_add-w-in-loop-w c =
    let a = c.args in
    let r = next-liftable (lift a.up a.down) a.records.now c.loop-w.w-items a.block.start a.block.end c.loop-w.w-index a.up a.down c.loop-w-test.true c.loop-w.invariant c.requires.3 in
    omega (arith, r.low, r.high)

pub loop-w-preserved : goal.loop-w-preserved
loop-w-preserved c = map_over_more (lift c.args.up c.args.down) _ c.loop-w.w-items c.loop-w.w-index _ c.loop-w-test.true c.loop-w.invariant (search rules)

pub returns : goal.returns
returns c = change-part (lift c.args.up c.args.down) c.args.records.now c.loop-w.w-items c.args.block.start c.args.block.end c.loop-w.w-index c.requires.0 c.loop-w-test.false c.loop-w.invariant
