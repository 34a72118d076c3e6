-- `slots::resize` meets its contract: the two sums say where the bytes of the slot stand. Assumes nothing.
use mathlib.Core.Path.{refl}
use Rattle.slots.proofs.Change.{cut-put, grow-put}
use Rattle.slots.proofs.resize.Goals as goal

pub returns-then-n-old : goal.returns-then-n-old
returns-then-n-old c =
    let a = c.args in
    let r = c.requires in
    let all = c.total_of-all in
    let before = c.sum_to-before in
    let gap = c.open_gap in
    let o = c.len_of-old.ensures in
    rw o (cut-put a.heads.now a.bytes.now _ a.k a.n all.result before.result r.2 r.0 (rw o at c.if-n-old.true) all.ensures before.ensures (rw o at gap.ensures) gap.auto.s)

pub returns : goal.returns
returns c =
    let a = c.args in
    let r = c.requires in
    let all = c.total_of-all in
    let before = c.sum_to-before in
    let gap = c.close_gap in
    let o = c.len_of-old.ensures in
    rw o (grow-put a.heads.now a.bytes.now gap.new.s c.fill.new.self _ a.k a.n all.result before.result r.2 r.0 (rw o at c.if-n-old.false) r.1 r.3 all.ensures before.ensures (rw o at gap.ensures) (rw o at (c.fill.ensures.after (λ y h. h))) refl)
