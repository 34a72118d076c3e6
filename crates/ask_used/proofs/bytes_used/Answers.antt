-- `bytes_used` meets its contract: where every number is closed, no removed file is left. Assumes nothing.
use mathlib.Core.Path.{◌≡◌, sym, ap, ◌∙◌}
use mathlib.Core.List.{List}
use Prim.Native.Nat.{ℕ, ◌+◌}
use lib.ListN.{length, get_or}
use lib.Seq.{length-take-le}
use native.Mathlib.Omega.{arith}
use Rattle.ask_used.proofs.Used.{Fine, fine, used-closed, used_all}
use Rattle.ask_used.proofs.bytes_used.Goals.{Start}
use Rattle.ask_used.proofs.bytes_used.Goals as goal

-- what the slices have
at-hand : (c : Start) → let a = c.args in Fine (get_or a.words.now 2 0) a.records.now a.heads.now
at-hand c =
    let a = c.args in
    let h = c.requires in
    fine h.store h.lawful (get_or a.words.now 2 0) a.records.now a.heads.now (ap (λ (us : List ℕ). get_or us 2 0) h.words) h.records h.heads

wide : (c : Start) → length c.args.words.now ≡ 102
wide c = sym (ap length c.requires.words) ∙ c.requires.lawful.exact.words

-- two parts of a sum
both : {a b c d e : ℕ} → a ≡ c → b ≡ d → c + d ≡ e → a + b ≡ e
both {a} {b} {c} {d} {e} f g h = ap (λ (n : ℕ). n + b) f ∙ (ap (λ (n : ℕ). c + n) g ∙ h)

pub bounds-words-2 : goal.bounds-words-2
bounds-words-2 c = omega (arith, wide (goal.at.bounds-words-2 c).Start)

pub tree_bytes-tree-requires : goal.tree_bytes-tree-requires
tree_bytes-tree-requires c = let f = at-hand (goal.at.tree_bytes-tree-requires c).Start in (omega (arith, f.few, length-take-le _ c.args.records.now f.long), f.slots)

pub none_open-requires : goal.none_open-requires
none_open-requires c = omega (arith, wide (goal.at.none_open-requires c).Start)

pub returns-then-none_open : goal.returns-then-none_open
returns-then-none_open c = λ st e f g l. let a = c.args in c.tree_bytes-tree.ensures ∙ used-closed a.words.now a.records.now a.heads.now st e f g l (c.none_open.ensures c.if-none_open.true)

pub slice_bounds-live-end : goal.slice_bounds-live-end
slice_bounds-live-end c = sym (length-take-le _ _ (at-hand (goal.at.slice_bounds-live-end c).Start).long)

pub removed_bytes-requires : goal.removed_bytes-requires
removed_bytes-requires c = let f = at-hand (goal.at.removed_bytes-requires c).Start in (f.heads, f.slots, f.once)

pub overflow_add-result : goal.overflow_add-result
overflow_add-result c = omega (arith, c.tree_bytes-tree.ensures, c.removed_bytes.ensures, (at-hand (goal.at.overflow_add-result c).Start).small)

pub returns : goal.returns
returns c = λ st e f g l. let a = c.args in both c.tree_bytes-tree.ensures c.removed_bytes.ensures (used_all a.words.now a.records.now a.heads.now st e f g l)
