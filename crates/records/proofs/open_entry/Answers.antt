-- `records::open_entry` meets its contract: both gaps are where the names before the k-th end. Assumes nothing.
use mathlib.Core.Path.{◌∙◌, refl}
use Prim.Native.Nat.{◌+◌}
use lib.ListN.{length-set}
use Rattle.records.proofs.Entries.{total-sum}
use Rattle.records.proofs.Opens.{opened_all}
use Rattle.records.proofs.open_entry.Goals as goal

pub returns : goal.returns
returns c =
    let a = c.args in
    let p = c.requires in
    let o = c.names_of-o in
    let z = c.names_of in
    let gap = c.open_gap in
    let copy = c.copy_into in
    let up = c.open_gap-2 in
    opened_all
    a.records.now
    a.bytes.now
    up.new.s
    gap.new.s
    _
    copy.new.dst
    a.name.now
    a.count
    a.k
    a.word
    o.result
    (o.result + z.result)
    p.0
    p.1
    p.3
    p.4
    o.ensures
    (total-sum a.records.now a.k a.count o.result z.result p.0 o.ensures z.ensures)
    gap.ensures
    copy.ensures
    (copy.auto.dst ∙ gap.auto.s)
    up.ensures
    refl
    (length-set up.new.s a.k a.word ∙ up.auto.s)
