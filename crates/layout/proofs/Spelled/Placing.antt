-- The entries of the store of a state are those of the state, in order, with the slots for the numbers of the files.
-- Assumes nothing.
use mathlib.Core.Bool.{cond}
use mathlib.Core.List.{List, [], ◌∷◌}
use mathlib.Core.Path.{◌≡◌, refl, sym, ap, ◌∙◌, subst}
use Prim.Native.Nat.{ℕ, suc, ◌+◌, ◌≤◌, ◌<◌}
use native.Mathlib.Decide.{ℕ_discrete}
use native.Mathlib.Omega.{arith}
use lib.Dec.{T, eqb}
use lib.ListN.{length}
use borrow.Author.Tests.{eq-eqb, ne_eqb}
use Rattle.model.specs.Tree.{Node, dir, file, link, Entries}
use Rattle.model.specs.Calls.States.{State}
use Rattle.model.specs.Rules.{Obeys}
use Rattle.layout.specs.Rows.{Row, tree_from}
use Rattle.layout.specs.Store.{slots_for, rows_of, meta_at, bytes_at, kind_at, node_at, state}
use Rattle.layout.specs.Lawful.{rows_ok, uses}
use Rattle.layout.proofs.Slotted.{dir_at, file_at_lem, link_at}
use Rattle.layout.proofs.Spelled.Housing.{Is, free, a_dir, a_link, named, loose, is}
use Rattle.layout.proofs.Spelled.Items.{Item, node_in, home}
use Rattle.layout.proofs.Climbing.{Ascends}
use Rattle.layout.proofs.Spelled.Stored.{rows_in, heads_of, spell, rows-read, heads-length, kind-back, meta-back, bytes_back}
use Rattle.layout.proofs.Spelled.Tracing.{rows_from, renamed, kind_num, Holds, Fit, Rows, tree-rows}

-- what holds place by place
holds_from : (kind : ℕ → ℕ) (f : ℕ → Node) (g : Node → Node) (k : ℕ) (t : Entries)
    → ((i : ℕ) → i < length t → (kind (k + i) ≡ kind_num (node_in t i)) × (f (k + i) ≡ g (node_in t i))) → Holds kind f g k t
holds_from kind f g k [] h = tt
holds_from kind f g k (e ∷ t) h =
    let z : k + 0 ≡ k = omega arith in
    let a = h 0 (omega arith) in (
      ap kind (sym z) ∙ a.0,
      ap f (sym z) ∙ a.1,
      holds_from kind f g (suc k) t (λ i b.
          let y : k + suc i ≡ suc k + i = omega arith in
          let c = h (suc i) (omega arith) in
          (ap kind (sym y) ∙ c.0, ap f (sym y) ∙ c.1)),
    )

-- ---- how many rows have a slot

uses-before : (i k : ℕ) (t : Entries) → k < i → uses k (rows_from i t) ≡ 0
unfolding uses rows_from
uses-before i k [] h = refl
uses-before i k (e ∷ t) h = rw (ne_eqb i k (λ z. omega arith)) (omega (arith, uses-before (suc i) k t (omega arith)))

pub uses_past : (i k : ℕ) (t : Entries) → i + length t ≤ k → uses k (rows_from i t) ≡ 0
unfolding uses rows_from
uses_past i k [] h = refl
uses_past i k (e ∷ t) h = rw (ne_eqb i k (λ z. omega arith)) (omega (arith, uses_past (suc i) k t (omega arith)))

pub uses-in : (i k : ℕ) (t : Entries) → i ≤ k → k < i + length t → uses k (rows_from i t) ≡ 1
unfolding uses rows_from
uses-in i k [] a b = absurd (omega arith)
uses-in i k (e ∷ t) a b = go (ℕ_discrete i k) (uses-in (suc i) k t)
  where
    go : Dec (i ≡ k) → (suc i ≤ k → k < suc i + length t → uses k (rows_from (suc i) t) ≡ 1) → cond (eqb i k) 1 0 + uses k (rows_from (suc i) t) ≡ 1
    go (yes z) ih = rw (eq-eqb i k z) (omega (arith, uses-before (suc i) k t (omega arith)))
    go (no z) ih = rw (ne_eqb i k z) (omega (arith, ih (omega arith) (omega arith)))

module _ (s : State) where
  -- a node with the slot for the number of its file
  abbrev pub placed : Node → Node
  placed (dir m) = dir m
  placed (file j) = file (home s j)
  placed (link m t) = link m t

  module _ (o : Obeys s) where
    -- ---- what the slot of an entry holds

    entry-holds : (k : ℕ) → k < length s.tree → Is s o k → (kind_at (spell s) k ≡ kind_num (node_in s.tree k)) × (node_at (spell s) k ≡ placed (node_in s.tree k))
    entry-holds k h (free e g) = absurd (omega arith)
    entry-holds k h (loose j f x e y u g) = absurd (omega arith)
    entry-holds k h (a_dir m n e g) =
        let low : k < slots_for s.most = omega (arith, o.entries_fit) in
        let kd : kind_at (spell s) k ≡ 1 = kind-back s o k low ∙ ap (λ (i : Item). i.kind) e in
        (kd ∙ ap kind_num (sym n), dir_at (spell s) k kd ∙ ap dir (meta-back s o k low ∙ ap (λ (i : Item). i.meta) e) ∙ ap placed (sym n))
    entry-holds k h (a_link m t n e g) =
        let low : k < slots_for s.most = omega (arith, o.entries_fit) in
        let kd : kind_at (spell s) k ≡ 3 = kind-back s o k low ∙ ap (λ (i : Item). i.kind) e in
        let a : meta_at (spell s) k ≡ m = meta-back s o k low ∙ ap (λ (i : Item). i.meta) e in
        let b : bytes_at (spell s) k ≡ t = bytes_back s o k low ∙ ap (λ (i : Item). i.bytes) e in
        (kd ∙ ap kind_num (sym n), link_at (spell s) k kd ∙ (λ i. link (a i) (b i)) ∙ ap placed (sym n))
    entry-holds k h (named j f x n e y g) =
        let low : k < slots_for s.most = omega (arith, o.entries_fit) in
        let kd : kind_at (spell s) k ≡ 2 = kind-back s o k low ∙ ap (λ (i : Item). i.kind) e in
        (kd ∙ ap kind_num (sym n), file_at_lem (spell s) k kd ∙ ap file (sym y) ∙ ap placed (sym n))

    module _ (a : Ascends s.tree) where
      all_rows : Rows s o (kind_at (spell s)) (slots_for s.most) (omega (arith, o.entry_limit.1)) (node_at (spell s)) placed s.tree
      all_rows =
          tree-rows s o (kind_at (spell s)) (slots_for s.most) (omega (arith, o.entry_limit.1)) (node_at (spell s)) placed a (omega (arith, o.entries_fit))
          (holds_from (kind_at (spell s)) (node_at (spell s)) placed 0 s.tree
          (λ i h. let z : 0 + i ≡ i = omega arith in
          let g = entry-holds i h (is s o i) in
          (ap (kind_at (spell s)) z ∙ g.0, ap (node_at (spell s)) z ∙ g.1)))

      pub rows_fit_lem : Fit (rows_in s)
      rows_fit_lem = all_rows.fit

      pub rows_are : rows_of (spell s) ≡ rows_in s
      rows_are = rows-read s rows_fit_lem

      pub entries-ok : T (rows_ok (kind_at (spell s)) (length (heads_of s)) (rows_of (spell s)))
      entries-ok =
          subst (λ (rs : List Row). T (rows_ok (kind_at (spell s)) (length (heads_of s)) rs)) (sym rows_are)
          (subst (λ (n : ℕ). T (rows_ok (kind_at (spell s)) n (rows_in s))) (sym (heads-length s)) all_rows.ok)

      pub tree-back : (state (spell s)).tree ≡ renamed placed s.tree
      tree-back = ap (tree_from (node_at (spell s)) []) rows_are ∙ all_rows.tree
