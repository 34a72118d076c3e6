-- `records::close_entries` meets its contract: both gaps are those of the block. Assumes nothing.
use mathlib.Core.Path.{ap}
use Prim.Native.Nat.{◌+◌}
use native.Mathlib.Omega.{arith}
use lib.ListN.{length}
use lib.Seq.{take-length}
use Rattle.layout.specs.Rows.{name_total}
use Rattle.records.proofs.Entries.{total-sum}
use Rattle.records.proofs.Closes.{closed_all}
use Rattle.records.proofs.close_entries.Goals as goal

pub returns : goal.returns
returns c =
    let a = c.args in
    let p = c.requires in
    let o = c.names_of-o in
    let n = c.names_of-n in
    let z = c.names_of in
    let gap = c.close_gap in
    let low = c.close_gap-2 in
    let all = ap name_total (take-length a.records.now) in
    let m = total-sum a.records.now a.block.start a.block.end o.result n.result p.0 o.ensures n.ensures in
    closed_all
    a.records.now
    a.bytes.now
    low.new.s
    gap.new.s
    (length a.records.now)
    a.block.start
    a.block.end
    o.result
    (o.result + n.result)
    (o.result + n.result + z.result)
    p.0
    p.1
    (omega arith)
    (omega (arith, all, p.3))
    o.ensures
    m
    (total-sum a.records.now a.block.end (length a.records.now) (o.result + n.result) z.result p.1 m z.ensures)
    gap.ensures
    gap.auto.s
    low.ensures
    low.auto.s
