-- `slots::sweep` meets its contract: the slots from k on are done, and what stands in front of src is untouched. Assumes nothing.
use mathlib.Core.Path.{◌≡◌}
use native.Mathlib.Omega.{arith}
use Rattle.slots.proofs.Sweeps.{Ready, sweep-start, sweep-pre, sweep_next, sweep-done}
use Rattle.slots.proofs.sweep.Goals.{In-loop-k}
use Rattle.slots.proofs.sweep.Goals as goal

pub loop-k-init : goal.loop-k-init
loop-k-init c = sweep-start c.args.heads.now c.args.bytes.now c.args.marks.now c.requires.0 c.requires.1

-- what a step asks for holds before each
ready : (c : In-loop-k) → let l = c.loop-k in Ready l.heads l.bytes l.src l.dst l.k
ready c =
    let a = c.args in
    let l = c.loop-k in
    sweep-pre a.heads.now a.bytes.now a.marks.now l.heads l.bytes l.src l.dst c.requires.0 c.requires.1 l.k c.loop-k-test.true (omega arith) l.invariant

pub sweep_step-dst-requires : goal.sweep_step-dst-requires
sweep_step-dst-requires c = let w = ready (goal.at.sweep_step-dst-requires c).In-loop-k in (omega arith, w.low, w.mid, w.high)

pub overflow_sub-src : goal.overflow_sub-src
overflow_sub-src c = let w = ready (goal.at.overflow_sub-src c).In-loop-k in omega (arith, w.low)

pub loop-k-preserved : goal.loop-k-preserved
loop-k-preserved c =
    let a = c.args in
    let l = c.loop-k in
    let s = c.sweep_step-dst in
    rw c.len_of-len.ensures (sweep_next a.heads.now a.bytes.now a.marks.now l.heads l.bytes l.src l.dst c.requires.0 c.requires.1 s.new.heads s.new.bytes l.k s.result c.loop-k-test.true (omega arith) l.invariant s.ensures)

pub returns : goal.returns
returns c =
    let a = c.args in
    let l = c.loop-k in
    let z : l.k ≡ 0 = omega arith in
    sweep-done a.heads.now a.bytes.now a.marks.now l.heads l.bytes l.src l.dst c.requires.1 (omega arith) (rw z at l.invariant)
