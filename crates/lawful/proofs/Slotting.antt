-- A slot is right where it is right without regard to a link's bytes, and a link's bytes are a target.
-- Assumes nothing.
use mathlib.Core.Bool.{Bool, true, false, ◌&&◌, ◌||◌, not, and-true, and_comm}
use mathlib.Core.List.{List, [], ◌∷◌}
use mathlib.Core.Path.{◌≡◌, refl, sym, ap, ◌∙◌, subst}
use Prim.Native.Nat.{ℕ, zero, suc, ◌+◌, ◌*◌, ◌≤◌, ◌<◌}
use native.Mathlib.Numerals.{add-one}
use native.Mathlib.Omega.{arith}
use lib.Dec.{T, eqb, leb, ltb, ltb→lt, leb→le}
use lib.ListN.{length, take, drop, get_or, length-drop, drop_of_length-le}
use lib.Seq.{drop-cons}
use borrow.Author.Tests.{eq-eqb, ne_eqb, le-leb, lt-leb, eqb-true}
use Rattle.text.specs.Utf8.{Bytes, octets, text}
use Rattle.path.specs.Path.{pieces, all_short, lengths_ok}
use Rattle.path.proofs.Laws.{and_left, and_right, and_both}
use Rattle.model.specs.Tree.{Path}
use Rattle.model.specs.Prog.{is_nil}
use Rattle.model.specs.Rules.{name_ok, target_ok}
use Rattle.layout.specs.Fields.{slot_of, nlen_of, len_of, kind_of}
use Rattle.layout.specs.Rows.{rows, path_of}
use Rattle.layout.specs.Slots.{total, split, start, contents}
use Rattle.layout.specs.Lawful.{follows, entry_ok, walk_ok, root_ok, rows_ok, slot_by}
use Rattle.lawful_limits.specs.Settles.{Settles}
use Rattle.slots.specs.Uses.{uses_in, stands_from, Within, Standing}
use Rattle.lawful_slots.specs.Uses.{SlotsRight}
use Rattle.lawful_entries.specs.Fits.{row_at}
use Rattle.lawful.proofs.Sums.{total_next}
use Rattle.lawful.specs.Parts.{kept_in, number_in, Kept, link_by, LinksRight, SlotsHeld}

slot_both : (k h u : ℕ) (held : Bool) (s : Bytes) → slot_by k h u held s ≡ slot_by k h u held [] && link_by k s
unfolding target_ok text octets lengths_ok pieces all_short
slot_both zero h u held s = sym (and-true (eqb h 0 && (eqb u 0 && not held)))
slot_both (suc zero) h u held s = sym (and-true (eqb (len_of h) 0 && (eqb u 1 && not held)))
slot_both (suc (suc zero)) h u held s = sym (and-true (eqb u 1 || (eqb u 0 && held)))
slot_both (suc (suc (suc zero))) h u held s = and_comm (target_ok s) (eqb u 1 && not held)
slot_both (suc (suc (suc (suc k)))) h u held s = refl

module _ (words recs heads : List ℕ) (bs : Bytes) where
  abbrev slot : ℕ → Bytes → Bool
  slot k s = slot_by (kind_of (get_or heads k 0)) (get_or heads k 0) (uses_in k recs) (stands_from words 32 0 k) s

  abbrev at : ℕ → Bytes
  at k = get_or (contents heads bs) k []

  -- one slot that is wrong without regard to bytes
  pub held-bad : (SlotsRight words recs heads → ⊥) → SlotsHeld words recs heads bs → ⊥
  held-bad n s = n (λ k h. and_left (slot k []) (link_by (kind_of (get_or heads k 0)) (at k)) (subst T (slot_both (kind_of (get_or heads k 0)) (get_or heads k 0) (uses_in k recs) (stands_from words 32 0 k) (at k)) (s k h)))

  -- then the links decide
  pub held-links : (r : Bool) → SlotsRight words recs heads → Settles r (LinksRight heads (drop (start heads bs) bs)) → Settles r (SlotsHeld words recs heads bs)
  held-links true w l = λ k h. subst T (sym (slot_both (kind_of (get_or heads k 0)) (get_or heads k 0) (uses_in k recs) (stands_from words 32 0 k) (at k))) (and_both (slot k []) (link_by (kind_of (get_or heads k 0)) (at k)) (w k h) (l k h))
  held-links false w l = λ s. l (λ k h. and_right (slot k []) (link_by (kind_of (get_or heads k 0)) (at k)) (subst T (slot_both (kind_of (get_or heads k 0)) (get_or heads k 0) (uses_in k recs) (stands_from words 32 0 k) (at k)) (s k h)))

-- ---- what the tests before give

walk_within : (kind : ℕ → ℕ) (n : ℕ) (p : Path) (d : Bool) (ws : List ℕ) (bs : Bytes) → T (walk_ok kind n p d (rows ws bs)) → Within n ws
unfolding walk_ok rows
walk_within kind n p d [] bs h i l = absurd (omega arith)
walk_within kind n p d (w ∷ ws) bs h zero l =
    let r = row_at bs w 0 in
    let more = walk_ok kind n (path_of p r) (eqb (kind (slot_of w)) 1) (rows ws (drop (nlen_of w) bs)) in
    ltb→lt (slot_of w) n (and_left (ltb (slot_of w) n) (name_ok r.name && follows p d r.depth r.name) (and_left (entry_ok n p d r) more h))
walk_within kind n p d (w ∷ ws) bs h (suc i) l =
    let r = row_at bs w 0 in
    let more = walk_ok kind n (path_of p r) (eqb (kind (slot_of w)) 1) (rows ws (drop (nlen_of w) bs)) in
    walk_within kind n (path_of p r) (eqb (kind (slot_of w)) 1) ws (drop (nlen_of w) bs) (and_right (entry_ok n p d r) more h) i (omega arith)

-- each record names a slot
pub rows_within : (kind : ℕ → ℕ) (n : ℕ) (ws : List ℕ) (bs : Bytes) → T (rows_ok kind n (rows ws bs)) → Within n ws
unfolding rows_ok rows
rows_within kind n [] bs h i l = absurd (omega arith)
rows_within kind n (w ∷ ws) bs h zero l =
    let r = row_at bs w 0 in
    let more = walk_ok kind n [] true (rows ws (drop (nlen_of w) bs)) in
    let at = ltb (slot_of w) n && eqb (kind (slot_of w)) 1 in
    ltb→lt (slot_of w) n (and_left (ltb (slot_of w) n) (eqb (kind (slot_of w)) 1) (and_right (is_nil r.name) at (and_right (eqb r.depth 0) (is_nil r.name && at) (and_left (root_ok kind n r) more h))))
rows_within kind n (w ∷ ws) bs h (suc i) l =
    let r = row_at bs w 0 in
    walk_within kind n [] true ws (drop (nlen_of w) bs) (and_right (root_ok kind n r) (walk_ok kind n [] true (rows ws (drop (nlen_of w) bs))) h) i (omega arith)

-- ---- file numbers

module _ (words : List ℕ) (paths : Bytes) (n j : ℕ) where
  abbrev number : ℕ
  number = get_or words (5 + 3 * j) 0

  abbrev kept : Bool
  kept = kept_in paths (suc j) (get_or words (7 + 3 * j) 0)

  pub number-closed : number ≡ 0 → T (number_in words paths n j)
  number-closed z = rw (eq-eqb number 0 z) tt

  pub number-far : (number ≡ 0 → ⊥) → n < number → T (number_in words paths n j) → ⊥
  number-far z h t = rw (ne_eqb number 0 z, lt-leb number n h) at t

  pub number-open : (number ≡ 0 → ⊥) → number ≤ n → (t : Bool) → t ≡ kept_in paths (j + 1) (get_or words (7 + 3 * j) 0) → number_in words paths n j ≡ t
  number-open z h t e = rw (ne_eqb number 0 z, le-leb number n h) (sym (e ∙ ap (λ (i : ℕ). kept_in paths i (get_or words (7 + 3 * j) 0)) (add-one j)))

  pub number-stands : T (number_in words paths n j) → number ≤ n
  number-stands t = go (eqb number 0) refl t
    where
      go : (b : Bool) → eqb number 0 ≡ b → T (b || (leb number n && kept)) → number ≤ n
      go true e t = omega (arith, eqb-true number 0 e)
      go false e t = leb→le number n (and_left (leb number n) kept t)

-- each number is closed, or stands on a slot
pub kept-stand : (words : List ℕ) (paths : Bytes) (n : ℕ) → n ≤ 4128 → Kept words paths n → Standing words
kept-stand words paths n l k j h = omega (arith, number-stands words paths n j (k.numbers j h))

-- the current directory decides
pub kept_here : (words : List ℕ) (paths : Bytes) (n : ℕ) → ((j : ℕ) → j < 32 → T (number_in words paths n j))
    → (r : Bool) → r ≡ kept_in paths 0 (get_or words 4 0) → Settles r (Kept words paths n)
kept_here words paths n f true e = record { numbers = f; here = subst T e tt }
kept_here words paths n f false e = λ k. subst T (sym e) k.here

-- ---- links

pub link_other : (kind : ℕ) (s : Bytes) → (kind ≡ 3 → ⊥) → T (link_by kind s)
link_other kind s n = rw (ne_eqb kind 3 n) tt

pub link_is : (kind : ℕ) (s : Bytes) → kind ≡ 3 → link_by kind s ≡ target_ok s
link_is kind s e = rw (eq-eqb kind 3 e)

-- the slots from i on decide, and their bytes stand in t
pub record Linked (heads : List ℕ) (s : Bytes) (i : ℕ) (t : Bytes) : Type 0 where
  pub room : total (drop i heads) ≤ length t
  pub down : LinksRight heads s → LinksRight (drop i heads) t
  pub up : LinksRight (drop i heads) t → LinksRight heads s

module _ (heads : List ℕ) (s : Bytes) where
  pub linked_start : total heads ≤ length s → Linked heads s 0 s
  linked_start l = record { room = l; down = λ r. r; up = λ r. r }

  module _ (i : ℕ) (t : Bytes) (w : Linked heads s i t) where
    pub linked_end : length heads ≤ i → LinksRight heads s
    linked_end l = w.up (rw (drop_of_length-le heads {i = i} l) (λ k h. absurd (omega arith)))

    module _ (h : i < length heads) (x u : Bytes) (front : x ≡ take (len_of (get_or heads i 0)) t) (back : u ≡ drop (len_of (get_or heads i 0)) t) where
      abbrev kind : ℕ
      kind = kind_of (get_or heads i 0)

      first : LinksRight (drop i heads) t → T (link_by kind x) × LinksRight (drop (i + 1) heads) u
      unfolding split
      first r = let q = rw (drop-cons heads i 0 h) at r in rw (add-one, front, back) (q 0 (omega arith), λ k l. q (suc k) (omega arith))

      both : T (link_by kind x) → LinksRight (drop (i + 1) heads) u → LinksRight (drop i heads) t
      unfolding split
      both a r = rw (drop-cons heads i 0 h) go
        where
          go : LinksRight (get_or heads i 0 ∷ drop (suc i) heads) t
          go zero l = rw front at a
          go (suc k) l = (rw (add-one, back) at r) k (omega arith)

      pub linked-bad : kind ≡ 3 → target_ok x ≡ false → LinksRight heads s → ⊥
      linked-bad e f r = subst T (link_is kind x e ∙ f) (first (w.down r)).0

      more : T (link_by kind x) → Linked heads s (i + 1) u
      more a = record {
        room = omega (arith, w.room, total_next heads i h, length-drop (len_of (get_or heads i 0)) t, ap length back);
        down = λ r. (first (w.down r)).1;
        up = λ r. w.up (both a r);
      }

      pub linked-other : (kind ≡ 3 → ⊥) → Linked heads s (i + 1) u
      linked-other n = more (link_other kind x n)

      pub linked_on : kind ≡ 3 → target_ok x ≡ true → Linked heads s (i + 1) u
      linked_on e f = more (subst T (sym (link_is kind x e ∙ f)) tt)
