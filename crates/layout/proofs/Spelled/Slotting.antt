-- The slots and the numbers of the store of a state are as the rules of a store say, and a file of the store is one of the state.
-- Assumes nothing.
use mathlib.Core.Bool.{Bool, false, ◌&&◌, false≢true}
use mathlib.Core.Logic.{◌⊎◌, inl, inr}
use mathlib.Core.Option.{Option, none, some}
use mathlib.Core.Path.{◌≡◌, refl, sym, ap, ◌∙◌, subst}
use Prim.Native.Nat.{ℕ, suc, ◌+◌, ◌≤◌, ◌<◌}
use native.Mathlib.Omega.{arith}
use lib.Dec.{T, eqb, leb, leb→le, le→leb}
use lib.ListN.{length}
use borrow.Author.Tests.{eq-eqb}
use Rattle.text.specs.Utf8.{Bytes}
use Rattle.path.specs.Path.{names, body, same, path_fits}
use Rattle.path.proofs.Laws.{and_both, same_refl, proper-shown, every_map, names-body}
use Rattle.model.specs.Tree.{Path, File, dir, link, Open, file_of, open_of}
use Rattle.model.specs.Calls.States.{State, is_named, is_held}
use Rattle.model.specs.Rules.{path_ok, target_ok, Obeys}
use Rattle.model.proofs.Demand.Contents.{or_elim, or_left, or_right}
use Rattle.model.proofs.Demand.Contents
use Rattle.model.proofs.Entries.{is_true, of_true}
use Rattle.model.proofs.Sound.Paths.{path_names, path-fits, names-parts}
use Rattle.layout.specs.Fields.{len_of}
use Rattle.layout.specs.Store.{holder, kept_length, here_length, cell, slots_for, rows_of, kind_at}
use Rattle.layout.specs.Lawful.{uses, held_from, slot_ok, cell_ok, kept_ok, number_ok}
use Rattle.layout.proofs.Slotted.{SlotOf, free, directory, named, removed, target, slot-back}
use Rattle.layout.proofs.Tables.{held_by, held_number}
use Rattle.layout.proofs.Spelled.Fitting.{node_ok}
use Rattle.layout.proofs.Spelled.Housing
use Rattle.layout.proofs.Spelled.Housing.{Is, is, stands}
use Rattle.layout.proofs.Spelled.Items.{Item, free_item, file_item, item_of, item, home}
use Rattle.layout.proofs.Spelled.Placing.{uses_past, uses-in, rows_are}
use Rattle.layout.proofs.Climbing.{Ascends}
use Rattle.layout.proofs.Worded.{head-length}
use Rattle.layout.proofs.Spelled.Stored.{heads_of, holder_by, spell, here_back, holder-back, kept_back, text-back, heads-length, head-back, kind-back, bytes_back}
use Rattle.layout.proofs.Spelled.Written.{head_of, kept_text, text_of}

-- ---- a path in its cell

pub path-short : (p : Path) → T (path_ok p) → length (body p) ≤ 1024
unfolding path_fits
path-short p t = leb→le (length (body p)) 1024 (path-fits p t)

pub path-back : (p : Path) → T (path_ok p) → names (body p) ≡ p
path-back p t = names-body p (every_map (λ n f. proper-shown n f.proper) p (names-parts p (path_names p t)))

cell-ok : (p : Path) → T (path_ok p) → T (cell_ok (body p))
unfolding cell_ok
cell-ok p t =
    let e = path-back p t in
    and_both (path_ok (names (body p))) (same (body (names (body p))) (body p)) (subst (λ (q : Path). T (path_ok q)) (sym e) t)
    (subst (λ (q : Path). T (same (body q) (body p))) (sym e) (same_refl (body p)))

module _ (s : State) (o : Obeys s) where
  pub kept-ok : (i n : ℕ) (p : Path) → i < 33 → T (path_ok p) → text_of s i ≡ body p → n ≡ length (text_of s i) → T (kept_ok (spell s) i n)
  kept-ok i n p h t e l =
      let short : length (text_of s i) ≤ 1024 = omega (arith, ap length e, path-short p t) in
      and_both (leb n 1024) (cell_ok (cell (spell s) i n)) (le→leb n 1024 (omega arith))
      (subst (λ (x : Bytes). T (cell_ok x)) (sym (text-back s i n h short l ∙ e)) (cell-ok p t))

  pub here-ok : T (kept_ok (spell s) 0 (here_length (spell s)))
  here-ok = kept-ok 0 (here_length (spell s)) s.here (omega arith) o.current refl (here_back s)

  -- the file of an open number
  opened : (n : ℕ) (b : Open) → open_of s.opens n ≡ some b → (f : File) × (file_of s.files b.id ≡ some f)
  opened n b e = (o.opens n b e).3

  pub number_ok_lem : (n : ℕ) → n < 32 → T (number_ok (spell s) n)
  number_ok_lem n h = go (open_of s.opens n) refl
    where
      tests : Bool
      tests = leb (holder (spell s) n) (length (heads_of s)) && kept_ok (spell s) (suc n) (kept_length (spell s) n)

      go : (x : Option Open) → open_of s.opens n ≡ x → T (number_ok (spell s) n)
      go none e = or_left (eqb (holder (spell s) n) 0) tests (of_true (eq-eqb (holder (spell s) n) 0 (holder-back s n h ∙ ap (holder_by s) e)))
      go (some b) e =
          let f = opened n b e in
          let hold : holder (spell s) n ≡ suc (home s b.id) = holder-back s n h ∙ ap (holder_by s) e in
          or_right (eqb (holder (spell s) n) 0) tests
          (and_both (leb (holder (spell s) n) (length (heads_of s))) (kept_ok (spell s) (suc n) (kept_length (spell s) n))
          (le→leb (holder (spell s) n) (length (heads_of s)) (omega (arith, hold, heads-length s, (stands s o b.id f.0 f.1).low)))
          (kept-ok (suc n) (kept_length (spell s) n) b.kept (omega arith) (o.opens n b e).2 (ap kept_text e) (kept_back s n h)))

  -- ---- who holds a slot

  -- a slot that a number stands on has the number's file
  held-file : (k : ℕ) → T (held_from (spell s) 32 0 k) → (j : ℕ) × (f : File) × (item s k ≡ file_item j f)
  held-file k t = go (open_of s.opens n) refl
    where
      h : (j : ℕ) × (j < 0 + 32) × (holder (spell s) j ≡ suc k)
      h = held_number (spell s) 32 0 k t

      n : ℕ
      n = h.0

      go : (x : Option Open) → open_of s.opens n ≡ x → (j : ℕ) × (f : File) × (item s k ≡ file_item j f)
      go none e = absurd (omega (arith, h.2, holder-back s n (omega (arith, h.1)) ∙ ap (holder_by s) e))
      go (some b) e =
          let f = opened n b e in
          let z : home s b.id ≡ k = omega (arith, h.2, holder-back s n (omega (arith, h.1)) ∙ ap (holder_by s) e) in
          (b.id, f.0, ap (item s) (sym z) ∙ (stands s o b.id f.0 f.1).item)

  not_held : (k : ℕ) → ((item s k).kind ≡ 2 → ⊥) → T (held_from (spell s) 32 0 k) → ⊥
  not_held k n t = let h = held-file k t in n (ap (λ (i : Item). i.kind) h.2)

  -- a file without a name is held
  held-loose : (j : ℕ) (f : File) (k : ℕ) → file_of s.files j ≡ some f → is_named s.tree j ≡ false → home s j ≡ k → T (held_from (spell s) 32 0 k)
  held-loose j f k e u z = go (or_elim (is_named s.tree j) (is_held s.opens j) (o.used j f e))
    where
      go : T (is_named s.tree j) ⊎ T (is_held s.opens j) → T (held_from (spell s) 32 0 k)
      go (inl t) = absurd (false≢true (sym u ∙ is_true (is_named s.tree j) t))
      go (inr t) =
          let h = Contents.held_by s.opens o.numbers j t in
          let low = (o.opens h.0 h.1 h.2).0 in
          held_by (spell s) 32 0 h.0 k (omega arith) (omega arith)
          (holder-back s h.0 (omega arith) ∙ ap (holder_by s) h.2 ∙ ap (λ (i : ℕ). suc (home s i)) h.3 ∙ ap suc z)

  -- ---- each slot

  module _ (a : Ascends s.tree) (k : ℕ) (low : k < slots_for s.most) where
    kind-is : (i : Item) → item s k ≡ i → kind_at (spell s) k ≡ i.kind
    kind-is i e = kind-back s o k low ∙ ap (λ (x : Item). x.kind) e

    no-hold : (i : Item) → item s k ≡ i → (i.kind ≡ 2 → ⊥) → T (held_from (spell s) 32 0 k) → ⊥
    no-hold i e n = not_held k (λ z. n (ap (λ (x : Item). x.kind) (sym e) ∙ z))

    uses-one : k < length s.tree → uses k (rows_of (spell s)) ≡ 1
    uses-one h = ap (uses k) (rows_are s o a) ∙ uses-in 0 k s.tree (omega arith) (omega arith)

    uses_none : length s.tree ≤ k → uses k (rows_of (spell s)) ≡ 0
    uses_none h = ap (uses k) (rows_are s o a) ∙ uses_past 0 k s.tree (omega arith)

    slot_is : Is s o k → SlotOf (spell s) k
    slot_is (Housing.free e h) = free (kind-is free_item e) (head-back s k low ∙ ap head_of e) (uses_none h) (no-hold free_item e (λ z. omega arith))
    slot_is (Housing.a_dir m n e h) =
        directory (kind-is (item_of s.files (dir m)) e) (ap len_of (head-back s k low ∙ ap head_of e) ∙ head-length 0 1 m.mode (omega arith) (omega arith))
        (uses-one h) (no-hold (item_of s.files (dir m)) e (λ z. omega arith))
    slot_is (Housing.a_link m t n e h) =
        target (kind-is (item_of s.files (link m t)) e)
        (subst (λ (x : Bytes). T (target_ok x)) (sym (bytes_back s o k low ∙ ap (λ (i : Item). i.bytes) e)) (node_ok s o k (link m t) h n).1)
        (uses-one h) (no-hold (item_of s.files (link m t)) e (λ z. omega arith))
    slot_is (Housing.named j f x n e y h) = named (kind-is (file_item j f) e) (uses-one h)
    slot_is (Housing.loose j f x e y u h) = removed (kind-is (file_item j f) e) (uses_none h) (held-loose j f k x u y)

    pub slot_ok_lem : T (slot_ok (spell s) k)
    slot_ok_lem = slot-back (spell s) k (slot_is (is s o k))
