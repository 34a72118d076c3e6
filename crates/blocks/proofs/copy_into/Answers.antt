-- `blocks::copy_into` meets its contract. Assumes nothing.
use mathlib.Core.Path.{◌∙◌, sym, ap}
use mathlib.Core.List.{List}
use Prim.Native.Nat.{◌+◌}
use native.Mathlib.Numerals.{add-one}
use native.Mathlib.Omega.{arith}
use lib.ListN.{set}
use lib.Seq.{paste, paste-zero, paste-suc}
use Rattle.blocks.proofs.copy_into.Goals as goal

pub loop-j-init : goal.loop-j-init
loop-j-init g c = paste-zero c.args.dst.now c.args.at c.args.src.now

pub loop-j-preserved : goal.loop-j-preserved
loop-j-preserved g c =
    let l = c.loop-j in
    let a = c.args in
    let x = c.index-src-j.result in
    ap (λ (r : List _). set r (a.at + l.j) x) l.invariant
    ∙ ap (λ z. set (paste a.dst.now a.at a.src.now l.j) (a.at + l.j) z) c.index-src-j.is
    ∙ paste-suc a.dst.now a.at a.src.now l.j x (omega (arith, c.requires, c.loop-j-test.true)) c.loop-j-test.true
    ∙ ap (paste a.dst.now a.at a.src.now) (sym (add-one l.j))
