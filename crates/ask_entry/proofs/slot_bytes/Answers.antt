-- `slot_bytes` meets its contract: the sum is that of the slot and all behind it. Assumes nothing.
use mathlib.Core.List.{[]}
use mathlib.Core.Path.{◌≡◌, sym, ◌∙◌, ap}
use Prim.Native.Nat.{ℕ, ◌-◌}
use lib.ListN.{length, take, drop, get_or-eq_default}
use lib.Seq.{take-length}
use native.Mathlib.Omega.{arith}
use Rattle.layout.specs.Slots.{total, contents}
use Rattle.slots.proofs.Contents.{length-contents}
use Rattle.ask_entry.proofs.Places.{total_from, to_end, bytes-place}
use Rattle.ask_entry.proofs.slot_bytes.Goals.{After-sum_to}
use Rattle.ask_entry.proofs.slot_bytes.Goals as goal

pub returns-then-heads-k : goal.returns-then-heads-k
returns-then-heads-k c = let g = c.args in sym (get_or-eq_default (contents g.heads.now g.bytes.now) [] {n = g.k} (omega (arith, length-contents g.heads.now g.bytes.now, c.if-heads-k.true)))

pub sum_to-requires : goal.sum_to-requires
sum_to-requires c =
    let g = c.args in
    (omega arith, omega (arith, c.requires, ap total (to_end g.heads.now g.k), (total_from g.heads.now g.k (omega (arith, c.if-heads-k.false))).0, c.well_formed))

-- what `sum_to` answers
behind : (c : After-sum_to) → c.sum_to.result ≡ total (drop c.args.k c.args.heads.now)
behind c =
    let g = c.args in
    c.sum_to.ensures ∙ ap total (take-length (take (length g.heads.now - g.k) (drop g.k g.heads.now)) ∙ to_end g.heads.now g.k)

pub overflow_sub-a : goal.overflow_sub-a
overflow_sub-a c =
    let g = c.args in
    omega (arith, c.requires, behind c, (total_from g.heads.now g.k (omega (arith, c.if-heads-k.false))).0)

pub returns : goal.returns
returns c =
    let g = c.args in
    let n = length g.bytes.now in
    let e : n - c.sum_to.result ≡ n - total (drop g.k g.heads.now) = ap (λ (m : ℕ). n - m) (behind (goal.at.returns c).After-sum_to) in
    c.part.ensures ∙ (λ i. take (c.len_of.ensures i) (drop (e i) g.bytes.now)) ∙ bytes-place g.heads.now g.bytes.now g.k (omega (arith, c.if-heads-k.false)) c.requires
