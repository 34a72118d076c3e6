-- `records::swing` meets its contract: the names of a part stand where the sums of the lengths before say. Assumes nothing.
use mathlib.Core.Path.{◌∙◌}
use Prim.Native.Nat.{◌+◌}
use native.Mathlib.Omega.{arith}
use Rattle.blocks.specs.Turn.{turned}
use Rattle.records.proofs.Entries.{total_on, total-sum}
use Rattle.records.proofs.swing.Goals as goal

pub overflow_add-y : goal.overflow_add-y
overflow_add-y c =
    let a = c.args in
    omega (arith, total_on a.records.now a.a a.m c.requires.0, total_on a.records.now a.m a.e c.requires.1, c.names_of-x.ensures, c.names_of.ensures, c.requires.4)

pub returns : goal.returns
returns c =
    let a = c.args in
    let p = c.requires in
    let x = c.names_of-x in
    let y = c.names_of in
    let z = c.names_of-2 in
    let m = total-sum a.records.now a.a a.m x.result y.result p.0 x.ensures y.ensures in
    let e = total-sum a.records.now a.m a.e (x.result + y.result) z.result p.1 m z.ensures in
    (c.turn.ensures, c.turn-2.ensures ∙ (λ i. turned a.bytes.now (x.ensures i) (m i) (e i)))
