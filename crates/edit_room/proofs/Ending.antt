-- Slots behind the last one in use: the rules ask the same without them.
-- Assumes nothing.
use mathlib.Core.Bool.{Bool, true, false, ◌&&◌, ◌||◌, not}
use mathlib.Core.List.{List, [], ◌∷◌}
use mathlib.Core.Path.{◌≡◌, refl, sym, ap, ◌∙◌, subst}
use Prim.Native.Nat.{ℕ, zero, suc, ◌+◌, ◌-◌, ◌*◌, ◌≤◌, ◌<◌}
use native.Mathlib.Omega.{arith}
use lib.Dec.{T, eqb, leb, ltb, eqb→eq}
use lib.ListN.{length, take, drop, get_or, get_or-eq_default}
use lib.Seq.{get_or-take, length-take-le}
use borrow.Author.Tests.{ne_eqb, le-leb, lt-ltb, ltb-true, ltb-false}
use Rattle.text.specs.Utf8.{Bytes}
use Rattle.path.proofs.Laws.{and_left, and_right, and_both}
use Rattle.model.specs.Tree.{Path}
use Rattle.model.specs.Prog.{is_nil}
use Rattle.model.specs.Rules.{name_ok}
use Rattle.layout.specs.Fields.{slot_of, nlen_of, len_of, kind_of}
use Rattle.layout.specs.Rows.{rows, path_of}
use Rattle.layout.specs.Slots.{total, split, start, contents}
use Rattle.layout.specs.Lawful.{follows, entry_ok, walk_ok, root_ok, rows_ok, slot_by}
use Rattle.slots.specs.Uses.{uses_in, stands_from, Within}
use Rattle.lawful_slots.proofs.Taking.{uses_at, uses_none, stands_at}
use Rattle.lawful_entries.specs.Fits.{kind_in, row_at}
use Rattle.lawful.specs.Parts.{kept_in, number_in, Parts}
use Rattle.lawful.proofs.Slotting.{rows_within, number-stands}

-- ---- words that are 0

total-end : (hs : List ℕ) (n : ℕ) → ((k : ℕ) → n ≤ k → get_or hs k 0 ≡ 0) → total (take n hs) ≡ total hs
unfolding total
total-end [] zero z = refl
total-end [] (suc n) z = refl
total-end (h ∷ hs) zero z = let r = total-end hs zero (λ k l. z (suc k) (omega arith)) in omega (arith, z 0 (omega arith))
total-end (h ∷ hs) (suc n) z = let r = total-end hs n (λ k l. z (suc k) (omega arith)) in omega arith

split-end : (hs : List ℕ) (n k : ℕ) (s : Bytes) → k < n → get_or (split (take n hs) s) k [] ≡ get_or (split hs s) k []
unfolding split
split-end hs zero k s l = absurd (omega arith)
split-end [] (suc n) k s l = refl
split-end (h ∷ hs) (suc n) zero s l = refl
split-end (h ∷ hs) (suc n) (suc k) s l = split-end hs n k (drop (len_of h) s) (omega arith)

-- ---- entries

-- the same entries, by another number of slots that has their slots
module _ (kind kind' : ℕ → ℕ) (n n' : ℕ) (same : (k : ℕ) → kind k ≡ kind' k) where
  walk_other : (p : Path) (d : Bool) (ws : List ℕ) (bs : Bytes) → Within n' ws → T (walk_ok kind n p d (rows ws bs)) → T (walk_ok kind' n' p d (rows ws bs))
  unfolding walk_ok rows
  walk_other p d [] bs w h = tt
  walk_other p d (r ∷ ws) bs w h =
      let a = row_at bs r 0 in
      let more = walk_ok kind n (path_of p a) (eqb (kind (slot_of r)) 1) (rows ws (drop (nlen_of r) bs)) in
      let rest = walk_other (path_of p a) (eqb (kind (slot_of r)) 1) ws (drop (nlen_of r) bs) (λ i l. w (suc i) (omega arith)) (and_right (entry_ok n p d a) more h) in
      and_both (entry_ok n' p d a) (walk_ok kind' n' (path_of p a) (eqb (kind' (slot_of r)) 1) (rows ws (drop (nlen_of r) bs)))
      (and_both (ltb (slot_of r) n') (name_ok a.name && follows p d a.depth a.name) (subst T (sym (lt-ltb (slot_of r) n' (w 0 (omega arith)))) tt)
      (and_right (ltb (slot_of r) n) (name_ok a.name && follows p d a.depth a.name) (and_left (entry_ok n p d a) more h)))
      (subst (λ (x : ℕ). T (walk_ok kind' n' (path_of p a) (eqb x 1) (rows ws (drop (nlen_of r) bs)))) (same (slot_of r)) rest)

  rows_other : (ws : List ℕ) (bs : Bytes) → Within n' ws → T (rows_ok kind n (rows ws bs)) → T (rows_ok kind' n' (rows ws bs))
  unfolding rows_ok rows
  rows_other [] bs w h = tt
  rows_other (r ∷ ws) bs w h =
      let a = row_at bs r 0 in
      let s = slot_of r in
      let more = walk_ok kind n [] true (rows ws (drop (nlen_of r) bs)) in
      let root = and_left (root_ok kind n a) more h in
      let at = and_right (eqb a.depth 0) (is_nil a.name && (ltb s n && eqb (kind s) 1)) root in
      let dir = and_right (ltb s n) (eqb (kind s) 1) (and_right (is_nil a.name) (ltb s n && eqb (kind s) 1) at) in
      and_both (root_ok kind' n' a) (walk_ok kind' n' [] true (rows ws (drop (nlen_of r) bs)))
      (and_both (eqb a.depth 0) (is_nil a.name && (ltb s n' && eqb (kind' s) 1)) (and_left (eqb a.depth 0) (is_nil a.name && (ltb s n && eqb (kind s) 1)) root)
      (and_both (is_nil a.name) (ltb s n' && eqb (kind' s) 1) (and_left (is_nil a.name) (ltb s n && eqb (kind s) 1) at)
      (and_both (ltb s n') (eqb (kind' s) 1) (subst T (sym (lt-ltb s n' (w 0 (omega arith)))) tt) (subst (λ (x : ℕ). T (eqb x 1)) (same s) dir))))
      (walk_other [] true ws (drop (nlen_of r) bs) (λ i l. w (suc i) (omega arith)) (and_right (root_ok kind n a) more h))

-- ---- file numbers

-- a number, by another number of slots that has its slot
number_other : (words : List ℕ) (paths : Bytes) (n n' j : ℕ) → get_or words (5 + 3 * j) 0 ≤ n' → T (number_in words paths n j) → T (number_in words paths n' j)
number_other words paths n n' j l t = go (eqb x 0) t
  where
    x : ℕ
    x = get_or words (5 + 3 * j) 0

    kept : Bool
    kept = kept_in paths (suc j) (get_or words (7 + 3 * j) 0)

    go : (b : Bool) → T (b || (leb x n && kept)) → T (b || (leb x n' && kept))
    go true t = tt
    go false t = and_both (leb x n') kept (subst T (sym (le-leb x n' l)) tt) (and_right (leb x n) kept t)

-- none of m numbers from i on stands on a slot behind those that they stand on
stands_none : (words : List ℕ) (n k m i : ℕ) → n ≤ k → ((j : ℕ) → i ≤ j → j < i + m → get_or words (5 + 3 * j) 0 ≤ n) → stands_from words m i k ≡ false
unfolding stands_from
stands_none words n k zero i l f = refl
stands_none words n k (suc m) i l f =
    rw (ne_eqb (get_or words (5 + 3 * i) 0) (suc k) (λ e. omega (arith, f i (omega arith) (omega arith)))) (stands_none words n k m (suc i) l (λ j a b. f j (omega arith) (omega arith)))

-- ---- all

-- a slot whose word is 0 is right where nothing has it
slot_none : (h u : ℕ) (held : Bool) (s : Bytes) → h ≡ 0 → u ≡ 0 → held ≡ false → T (slot_by (kind_of h) h u held s)
slot_none h u held s z e f =
    subst (λ (x : ℕ). T (slot_by (kind_of x) x u held s)) (sym z) (subst (λ (x : ℕ). T (eqb x 0 && not held)) (sym e) (subst (λ (b : Bool). T (not b)) (sym f) tt))

none_slot : (h u : ℕ) (held : Bool) (s : Bytes) → h ≡ 0 → T (slot_by (kind_of h) h u held s) → (u ≡ 0) × (held ≡ false)
none_slot h u held s z t =
    let r : T (eqb u 0 && not held) = subst (λ (x : ℕ). T (slot_by (kind_of x) x u held s)) z t in
    (eqb→eq u 0 (and_left (eqb u 0) (not held) r), go held (and_right (eqb u 0) (not held) r))
  where
    go : (b : Bool) → T (not b) → b ≡ false
    go true t = absurd t
    go false t = refl

module _ (words recs heads : List ℕ) (paths bs : Bytes) (n : ℕ) (l : n ≤ length heads) (z : (k : ℕ) → n ≤ k → get_or heads k 0 ≡ 0) where
  long : length (take n heads) ≡ n
  long = length-take-le n heads l

  pub same_word : (k : ℕ) → get_or (take n heads) k 0 ≡ get_or heads k 0
  same_word k = go (ltb k n) refl
    where
      go : (t : Bool) → ltb k n ≡ t → get_or (take n heads) k 0 ≡ get_or heads k 0
      go true e = get_or-take n heads k 0 (ltb-true k n e)
      go false e = get_or-eq_default (take n heads) 0 (omega (arith, long, ltb-false k n e)) ∙ sym (z k (ltb-false k n e))

  pub same_bytes : (k : ℕ) → k < n → get_or (contents (take n heads) bs) k [] ≡ get_or (contents heads bs) k []
  same_bytes k h = split-end heads n k (drop (start (take n heads) bs) bs) h ∙ ap (λ (t : ℕ). get_or (split heads (drop (length bs - t) bs)) k []) (total-end heads n z)

  same_slot : (k : ℕ) → k < n → slot_by (kind_of (get_or (take n heads) k 0)) (get_or (take n heads) k 0) (uses_in k recs) (stands_from words 32 0 k) (get_or (contents (take n heads) bs) k [])
      ≡ slot_by (kind_of (get_or heads k 0)) (get_or heads k 0) (uses_in k recs) (stands_from words 32 0 k) (get_or (contents heads bs) k [])
  same_slot k h =
      ap (λ (x : ℕ). slot_by (kind_of x) x (uses_in k recs) (stands_from words 32 0 k) (get_or (contents (take n heads) bs) k [])) (same_word k)
      ∙ ap (λ (s : Bytes). slot_by (kind_of (get_or heads k 0)) (get_or heads k 0) (uses_in k recs) (stands_from words 32 0 k) s) (same_bytes k h)

  -- with them
  pub more : Parts words recs (take n heads) paths bs → Parts words recs heads paths bs
  more p = record {
    space = omega (arith, p.space, total-end heads n z);
    entries = rows_other (kind_in (take n heads)) (kind_in heads) (length (take n heads)) (length heads) (λ k. ap kind_of (same_word k)) recs bs (λ i h. omega (arith, within i h)) p.entries;
    kept = record { numbers = λ j h. number_other words paths (length (take n heads)) (length heads) j (omega (arith, stands j h)) (p.kept.numbers j h); here = p.kept.here };
    slots = λ k h. go k (ltb k n) refl;
  }
    where
      within : Within n recs
      within i h = omega (arith, long, rows_within (kind_in (take n heads)) (length (take n heads)) recs bs p.entries i h)

      stands : (j : ℕ) → j < 32 → get_or words (5 + 3 * j) 0 ≤ n
      stands j h = omega (arith, long, number-stands words paths (length (take n heads)) j (p.kept.numbers j h))

      go : (k : ℕ) (t : Bool) → ltb k n ≡ t → T (slot_by (kind_of (get_or heads k 0)) (get_or heads k 0) (uses_in k recs) (stands_from words 32 0 k) (get_or (contents heads bs) k []))
      go k true e = subst T (same_slot k (ltb-true k n e)) (p.slots k (omega (arith, long, ltb-true k n e)))
      go k false e =
          let h : n ≤ k = ltb-false k n e in
          slot_none (get_or heads k 0) (uses_in k recs) (stands_from words 32 0 k) (get_or (contents heads bs) k []) (z k h) (uses_none n k recs within h) (stands_none words n k 32 0 h (λ j a b. stands j (omega arith)))

  -- without them
  pub less : Parts words recs heads paths bs → Parts words recs (take n heads) paths bs
  less p = record {
    space = omega (arith, p.space, total-end heads n z);
    entries = rows_other (kind_in heads) (kind_in (take n heads)) (length heads) (length (take n heads)) (λ k. ap kind_of (sym (same_word k))) recs bs (λ i h. omega (arith, long, within i h)) p.entries;
    kept = record { numbers = λ j h. number_other words paths (length heads) (length (take n heads)) j (omega (arith, long, stands j h)) (p.kept.numbers j h); here = p.kept.here };
    slots = λ k h. subst T (sym (same_slot k (omega (arith, long)))) (p.slots k (omega (arith, long)));
  }
    where
      -- nothing has a slot behind
      none : (k : ℕ) → n ≤ k → k < length heads → (uses_in k recs ≡ 0) × (stands_from words 32 0 k ≡ false)
      none k a b = none_slot (get_or heads k 0) (uses_in k recs) (stands_from words 32 0 k) (get_or (contents heads bs) k []) (z k a) (p.slots k b)

      within : Within n recs
      within i h = go (ltb (slot_of (get_or recs i 0)) n) refl
        where
          go : (t : Bool) → ltb (slot_of (get_or recs i 0)) n ≡ t → slot_of (get_or recs i 0) < n
          go true e = ltb-true (slot_of (get_or recs i 0)) n e
          go false e =
              let s = slot_of (get_or recs i 0) in
              absurd (omega (arith, uses_at recs i h, (none s (ltb-false s n e) (rows_within (kind_in heads) (length heads) recs bs p.entries i h)).0))

      stands : (j : ℕ) → j < 32 → get_or words (5 + 3 * j) 0 ≤ n
      stands j h = go (ltb n (get_or words (5 + 3 * j) 0)) refl
        where
          go : (t : Bool) → ltb n (get_or words (5 + 3 * j) 0) ≡ t → get_or words (5 + 3 * j) 0 ≤ n
          go true e =
              let x = get_or words (5 + 3 * j) 0 in
              let a : n < x = ltb-true n x e in
              let b : x ≤ length heads = number-stands words paths (length heads) j (p.kept.numbers j h) in
              absurd (subst T (sym (stands_at words 32 0 j (x - 1) (omega arith) (omega arith) (omega arith)) ∙ (none (x - 1) (omega arith) (omega arith)).1) tt)
          go false e = ltb-false n (get_or words (5 + 3 * j) 0) e
