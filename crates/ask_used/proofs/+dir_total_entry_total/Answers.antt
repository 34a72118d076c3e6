-- `dir_total` and `entry_total` meet their contracts: what an entry and all below it have, and its record's span, is what is passed.
-- Assumes nothing.
use mathlib.Core.Path.{◌∙◌, ap}
use Prim.Native.Nat.{ℕ, ◌+◌}
use native.Mathlib.Omega.{arith}
use Rattle.ask_find.specs.Spans.{span}
use Rattle.ask_used.specs.Totals.{below}
use lib.ListN.{drop}
use Rattle.ask_find.proofs.Spans.{span-end, span_out}
use Rattle.ask_used.proofs.Totals.{below-fits, below_end, below_out, turn, turn_one}
use Rattle.ask_used.proofs.+dir_total_entry_total.Goals as goal

pub dir_total-loop-j-init : goal.dir_total-loop-j-init
dir_total-loop-j-init t c = omega arith

pub dir_total-returns-then-t-d : goal.dir_total-returns-then-t-d
dir_total-returns-then-t-d t c =
    let a = c.args in
    let l = c.loop-j in
    let p = c.requires in
    omega (arith, l.invariant.2, l.invariant.3, below_out a.records.now a.heads.now a.d l.j c.loop-j-test.true (omega arith), span_out a.records.now a.d l.j c.loop-j-test.true (omega arith))

pub dir_total-entry_bytes-s-requires : goal.dir_total-entry_bytes-s-requires
dir_total-entry_bytes-s-requires t c =
    let a = c.args in
    let p = c.requires in
    p.2 c.loop-j.j c.loop-j-test.true

pub dir_total-overflow_add-s : goal.dir_total-overflow_add-s
dir_total-overflow_add-s t c =
    let a = c.args in
    let l = c.loop-j in
    let p = c.requires in
    let w = turn_one a.heads.now a.records.now a.d l.j c.entry_bytes-s.result c.loop-j-test.true (omega arith) c.entry_bytes-s.ensures in
    omega (arith, below-fits a.records.now a.heads.now a.d a.i)

pub dir_total-loop-j-preserved-then-is_leaf : goal.dir_total-loop-j-preserved-then-is_leaf
dir_total-loop-j-preserved-then-is_leaf t c =
    let a = c.args in
    let l = c.loop-j in
    let p = c.requires in
    let w = turn_one a.heads.now a.records.now a.d l.j c.entry_bytes-s.result c.loop-j-test.true (omega arith) c.entry_bytes-s.ensures in
    omega arith

pub dir_total-entry_total-e-requires : goal.dir_total-entry_total-e-requires
dir_total-entry_total-e-requires t c = let p = c.requires in (omega arith, (p.0, omega arith, p.2))

pub dir_total-overflow_add-s-in-loop-j : goal.dir_total-overflow_add-s-in-loop-j
dir_total-overflow_add-s-in-loop-j t c =
    let a = c.args in
    let l = c.loop-j in
    let p = c.requires in
    let e = c.entry_total-e in
    let w = turn a.heads.now a.records.now a.d l.j e.result.bytes e.result.next c.loop-j-test.true (omega arith) e.ensures.0 e.ensures.1 in
    omega (arith, below-fits a.records.now a.heads.now a.d a.i)

pub dir_total-loop-j-smaller : goal.dir_total-loop-j-smaller
dir_total-loop-j-smaller t c =
    let a = c.args in
    let l = c.loop-j in
    let p = c.requires in
    let e = c.entry_total-e in
    let w = turn a.heads.now a.records.now a.d l.j e.result.bytes e.result.next c.loop-j-test.true (omega arith) e.ensures.0 e.ensures.1 in
    omega arith

pub dir_total-loop-j-preserved : goal.dir_total-loop-j-preserved
dir_total-loop-j-preserved t c =
    let a = c.args in
    let l = c.loop-j in
    let p = c.requires in
    let e = c.entry_total-e in
    let w = turn a.heads.now a.records.now a.d l.j e.result.bytes e.result.next c.loop-j-test.true (omega arith) e.ensures.0 e.ensures.1 in
    omega arith

pub dir_total-returns : goal.dir_total-returns
dir_total-returns t c =
    let a = c.args in
    let l = c.loop-j in
    let p = c.requires in
    omega (arith, l.invariant.2, l.invariant.3, below_end a.records.now a.heads.now a.d l.j (omega arith), span-end a.records.now a.d l.j (omega arith))

pub entry_total-entry_bytes-own-requires : goal.entry_total-entry_bytes-own-requires
entry_total-entry_bytes-own-requires t c =
    let a = c.args in
    let p = c.requires in
    p.2 a.i p.1

pub entry_total-dir_total-r-requires : goal.entry_total-dir_total-r-requires
entry_total-dir_total-r-requires t c = let p = c.requires in (omega arith, (p.0, omega arith, p.2))

pub entry_total-overflow_add-result : goal.entry_total-overflow_add-result
entry_total-overflow_add-result t c =
    let a = c.args in
    omega (arith, below-fits a.records.now a.heads.now c.depth_of.result (a.i + 1), c.entry_bytes-own.ensures)

pub entry_total-returns : goal.entry_total-returns
entry_total-returns t c =
    let a = c.args in
    let e = c.depth_of.ensures in
    let r = c.dir_total-r.ensures in
    (omega (arith, c.entry_bytes-own.ensures, r.0, ap (λ (d : ℕ). below a.heads.now d (drop (a.i + 1) a.records.now)) e), r.1 ∙ ap (λ (d : ℕ). a.i + 1 + span d (drop (a.i + 1) a.records.now)) e)
