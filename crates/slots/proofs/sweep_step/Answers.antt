-- `slots::sweep_step` meets its contract: one way for each case of the mark. Assumes nothing.
use mathlib.Core.Path.{◌≡◌, ◌∙◌, refl, sym, ap}
use Prim.Native.Nat.{ℕ, ◌+◌, ◌-◌}
use native.Mathlib.Omega.{arith}
use borrow.Author.Tests.{eq-eqb, ne_eqb}
use lib.ListN.{get_or}
use lib.Seq.{set-get_or}
use Rattle.blocks.specs.Moved.{moved}
use Rattle.layout.specs.Fields.{len_of}
use Rattle.slots.proofs.sweep_step.Goals as goal

pub returns-then-keep-eq0 : goal.returns-then-keep-eq0
returns-then-keep-eq0 c =
    let e = eq-eqb c.args.keep 0 c.if-keep-eq0.true in
    record { heads = rw e; bytes = rw e; next = rw e }

pub returns : goal.returns
returns c =
    let a = c.args in
    let e = ne_eqb a.keep 0 c.if-keep-eq0.false in
    let l : ℕ = len_of (get_or a.heads.now a.i 0) in
    let n = c.len_of-len.ensures in
    let z : a.src - (a.src - l) ≡ l = omega arith in
    record {
      heads = rw e (sym (set-get_or a.heads.now a.i 0));
      bytes = rw e (rw n at c.open_gap.ensures ∙ ap (moved a.bytes.now (a.src - l) (a.src - l + (a.dst - a.src))) z);
      next = rw (e, n) refl;
    }
