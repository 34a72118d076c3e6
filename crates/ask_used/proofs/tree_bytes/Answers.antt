-- `tree_bytes` meets its contract: s has the bytes of the entries passed. Assumes nothing.
use native.Mathlib.Nat.{zero-add}
use native.Mathlib.Omega.{arith}
use Rattle.ask_used.proofs.Totals.{sizes-le, sizes-end, Pass, pass}
use Rattle.ask_used.proofs.tree_bytes.Goals.{After-entry_total-e}
use Rattle.ask_used.proofs.tree_bytes.Goals as goal

pub loop-k-init : goal.loop-k-init
loop-k-init c = (omega arith, zero-add _)

pub entry_total-e-requires : goal.entry_total-e-requires
entry_total-e-requires c = (c.requires.0, c.loop-k-test.true, c.requires.1)

-- the entry that is added, with all below it
added : (c : After-entry_total-e) → Pass c.args.heads.now c.args.records.now c.loop-k.k c.entry_total-e.result.bytes c.entry_total-e.result.next
added c = pass c.args.heads.now c.args.records.now c.loop-k.k _ _ c.loop-k-test.true c.entry_total-e.ensures.0 c.entry_total-e.ensures.1

pub overflow_add-s : goal.overflow_add-s
overflow_add-s c = let w = added (goal.at.overflow_add-s c).After-entry_total-e in omega (arith, sizes-le c.args.heads.now c.args.records.now)

pub loop-k-smaller : goal.loop-k-smaller
loop-k-smaller c = let w = added (goal.at.loop-k-smaller c).After-entry_total-e in omega arith

pub loop-k-preserved : goal.loop-k-preserved
loop-k-preserved c = let w = added (goal.at.loop-k-preserved c).After-entry_total-e in omega arith

pub returns : goal.returns
returns c =
    let a = c.args in
    omega (arith, c.loop-k.invariant.1, sizes-end a.records.now a.heads.now c.loop-k.k (omega arith))
