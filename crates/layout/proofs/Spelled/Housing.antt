-- Each file of a state has one slot: that of its name, or that of the first number open on it. So slots and files are one to one.
-- Assumes nothing.
use mathlib.Core.Bool.{Bool, true, false, ◌&&◌, cond, not, false≢true}
use mathlib.Core.Logic.{◌⊎◌, inl, inr}
use mathlib.Core.Option.{Option, none, some}
use mathlib.Core.Path.{◌≡◌, refl, sym, ap, ◌∙◌, subst}
use Prim.Native.Nat.{ℕ, ◌+◌, ◌-◌, ◌≤◌, ◌<◌}
use native.Mathlib.Omega.{arith}
use lib.Dec.{T, eqb, ltb}
use lib.ListN.{length}
use borrow.Author.Tests.{eq-eqb, eqb-true, ltb-true, ltb-false}
use Rattle.text.specs.Utf8.{Bytes}
use Rattle.model.specs.Tree.{Meta, File, Node, dir, file, link, Open, look, file_of, open_of}
use Rattle.model.specs.Calls.States.{State, is_named, is_held}
use Rattle.model.specs.Rules.{Obeys}
use Rattle.model.proofs.Demand.Contents.{or_elim, at_named, held_by}
use Rattle.model.proofs.Entries.{some_inj, is_true, of_true}
use Rattle.layout.proofs.Spelled.Items.{Item, free_item, file_item, file_or, item_of, on_by, first_on, first_on_lem, node_in, path_in, index_of, index-named, look_in, index_is, item_if, number_by, item, home, item-entry, item-gap, item-number}

module _ (s : State) (o : Obeys s) where
  -- ---- the slot of a file

  -- a number that stands on a file without a name, and the first that does
  first_number : (j : ℕ) (f : File) → file_of s.files j ≡ some f → is_named s.tree j ≡ false
      → (on_by (open_of s.opens (first_on s.opens j 32 0)) j ≡ true) × (first_on s.opens j 32 0 < 32)
  first_number j f e u = go (or_elim (is_named s.tree j) (is_held s.opens j) (o.used j f e))
    where
      go : T (is_named s.tree j) ⊎ T (is_held s.opens j) → (on_by (open_of s.opens (first_on s.opens j 32 0)) j ≡ true) × (first_on s.opens j 32 0 < 32)
      go (inl t) = absurd (false≢true (sym u ∙ is_true (is_named s.tree j) t))
      go (inr t) =
          let h = held_by s.opens o.numbers j t in
          let low = (o.opens h.0 h.1 h.2).0 in
          let g = first_on_lem s.opens j 32 0 h.0 (omega arith) (omega arith) (ap (λ (x : Option Open). on_by x j) h.2 ∙ eq-eqb h.1.id j h.3) in
          (g.0, omega (arith, g.1))

  -- where a file stands
  pub record Stands (j : ℕ) (f : File) : Type 0 where
    pub low : home s j < s.most + 32
    pub item : item s (home s j) ≡ file_item j f

  named-home : (j : ℕ) → is_named s.tree j ≡ true → home s j ≡ index_of s.tree j
  unfolding home
  named-home j u = ap (λ (b : Bool). cond b (index_of s.tree j) (s.most + first_on s.opens j 32 0)) u

  loose-home : (j : ℕ) → is_named s.tree j ≡ false → home s j ≡ s.most + first_on s.opens j 32 0
  unfolding home
  loose-home j u = ap (λ (b : Bool). cond b (index_of s.tree j) (s.most + first_on s.opens j 32 0)) u

  number-item : (j : ℕ) (f : File) → file_of s.files j ≡ some f → is_named s.tree j ≡ false → (x : Option Open) → on_by x j ≡ true
      → number_by s (first_on s.opens j 32 0) x ≡ file_item j f
  number-item j f e u none t = absurd (false≢true t)
  number-item j f e u (some b) t =
      ap (λ (i : ℕ). item_if s (not (is_named s.tree i) && eqb (first_on s.opens i 32 0) (first_on s.opens j 32 0)) (file_or i (file_of s.files i))) (eqb-true b.id j t)
      ∙ rw (u, eq-eqb (first_on s.opens j 32 0) (first_on s.opens j 32 0) refl, e)

  pub stands : (j : ℕ) (f : File) → file_of s.files j ≡ some f → Stands j f
  stands j f e = go (is_named s.tree j) refl
    where
      go : (b : Bool) → is_named s.tree j ≡ b → Stands j f
      go true u =
          let g = index-named s.tree j (of_true u) in
          let h = named-home j u in
          record {
            low = omega (arith, g.0, h, o.entries_fit);
            item = ap (item s) h ∙ item-entry s (index_of s.tree j) g.0 ∙ ap (item_of s.files) g.1 ∙ ap (file_or j) e;
          }
      go false u =
          let g = first_number j f e u in
          let h = loose-home j u in
          record {
            low = omega (arith, g.1, h);
            item = ap (item s) h ∙ item-number s (first_on s.opens j 32 0) o.entries_fit
                ∙ number-item j f e u (open_of s.opens (first_on s.opens j 32 0)) g.0;
          }

  -- files have slots of their own
  pub home_own : (i j : ℕ) (f g : File) → file_of s.files i ≡ some f → file_of s.files j ≡ some g → home s i ≡ home s j → i ≡ j
  home_own i j f g x y e =
      some_inj (ap (λ (t : Item). t.id) (sym (stands i f x).item ∙ ap (item s) e ∙ (stands j g y).item))

  -- ---- what stands in a slot

  pub data Is (k : ℕ) : Type 0 where
    free : item s k ≡ free_item → length s.tree ≤ k → Is k
    a_dir : (m : Meta) → node_in s.tree k ≡ dir m → item s k ≡ item_of s.files (dir m) → k < length s.tree → Is k
    a_link : (m : Meta) (t : Bytes) → node_in s.tree k ≡ link m t → item s k ≡ item_of s.files (link m t) → k < length s.tree → Is k
    named : (j : ℕ) (f : File) → file_of s.files j ≡ some f → node_in s.tree k ≡ file j → item s k ≡ file_item j f → home s j ≡ k → k < length s.tree → Is k
    loose : (j : ℕ) (f : File) → file_of s.files j ≡ some f → item s k ≡ file_item j f → home s j ≡ k → is_named s.tree j ≡ false → length s.tree ≤ k → Is k

  entry_is : (k : ℕ) → k < length s.tree → Is k
  entry_is k h = go (node_in s.tree k) refl
    where
      there : look s.tree (path_in s.tree k) ≡ some (node_in s.tree k)
      there = look_in s.tree o.paths k h

      go : (n : Node) → node_in s.tree k ≡ n → Is k
      go (dir m) e = a_dir m e (item-entry s k h ∙ ap (item_of s.files) e) h
      go (link m t) e = a_link m t e (item-entry s k h ∙ ap (item_of s.files) e) h
      go (file j) e =
          let w = o.nodes (path_in s.tree k) (file j) (there ∙ ap some e) in
          let n = at_named s.tree (path_in s.tree k) j (there ∙ ap some e) in
          named j w.0 w.1 e (item-entry s k h ∙ ap (item_of s.files) e ∙ ap (file_or j) w.1)
          (named-home j (is_true (is_named s.tree j) n) ∙ index_is s.tree o.paths j (λ p q. o.one_name p q j) k h e) h

  number_is : (n : ℕ) → Is (s.most + n)
  number_is n = go (open_of s.opens n) refl
    where
      far : length s.tree ≤ s.most + n
      far = omega (arith, o.entries_fit)

      at : (x : Option Open) → open_of s.opens n ≡ x → item s (s.most + n) ≡ number_by s n x
      at x e = item-number s n o.entries_fit ∙ ap (number_by s n) e

      go : (x : Option Open) → open_of s.opens n ≡ x → Is (s.most + n)
      go none e = free (at none e) far
      go (some b) e = two (is_named s.tree b.id) refl (eqb (first_on s.opens b.id 32 0) n) refl (file_of s.files b.id) refl
        where
          at-file : (u v : Bool) (x : Option File) → is_named s.tree b.id ≡ u → eqb (first_on s.opens b.id 32 0) n ≡ v → file_of s.files b.id ≡ x
              → item s (s.most + n) ≡ item_if s (not u && v) (file_or b.id x)
          at-file u v x p q r = at (some b) e ∙ rw (p, q, r)

          two : (u : Bool) → is_named s.tree b.id ≡ u → (v : Bool) → eqb (first_on s.opens b.id 32 0) n ≡ v → (x : Option File) → file_of s.files b.id ≡ x
              → Is (s.most + n)
          two true p v q x r = free (at-file true v x p q r) far
          two false p false q x r = free (at-file false false x p q r) far
          two false p true q none r = free (at-file false true none p q r) far
          two false p true q (some f) r =
              loose b.id f r (at-file false true (some f) p q r)
              (loose-home b.id p ∙ ap (λ (k : ℕ). s.most + k) (eqb-true (first_on s.opens b.id 32 0) n q)) p far

  pub is : (k : ℕ) → Is k
  is k = go (ltb k (length s.tree)) refl (ltb k s.most) refl
    where
      go : (a : Bool) → ltb k (length s.tree) ≡ a → (b : Bool) → ltb k s.most ≡ b → Is k
      go true x b y = entry_is k (ltb-true k (length s.tree) x)
      go false x true y = free (item-gap s k (ltb-false k (length s.tree) x) (ltb-true k s.most y)) (ltb-false k (length s.tree) x)
      go false x false y =
          let e : s.most + (k - s.most) ≡ k = omega (arith, ltb-false k s.most y) in
          subst (λ (i : ℕ). Is i) e (number_is (k - s.most))
