-- What the rules say of each slot, by its kind, and what a slot holds: its bytes are as many as its word says.
-- Assumes nothing.
use mathlib.Core.Bool.{Bool, ◌&&◌, not}
use mathlib.Core.List.{List, [], ◌∷◌}
use mathlib.Core.Logic.{◌⊎◌, inl, inr}
use mathlib.Core.Path.{◌≡◌, refl, sym, ap, subst}
use Prim.Native.Nat.{ℕ, zero, suc, ◌≤◌, ◌<◌}
use native.Mathlib.Omega.{arith}
use lib.Dec.{T, eqb, eqb→eq, T_not, not_T}
use lib.ListN.{length, drop, get_or, length-drop}
use lib.Seq.{length-take-le}
use borrow.Author.Tests.{eq-eqb}
use Rattle.text.specs.Utf8.{Bytes}
use Rattle.path.proofs.Laws.{and_left, and_right, and_both}
use Rattle.model.specs.Tree.{dir, file, link}
use Rattle.model.specs.Rules.{target_ok}
use Rattle.model.proofs.Demand.Contents.{or_elim, or_left, or_right}
use Rattle.model.proofs.Entries.{of_true}
use Rattle.layout.specs.Fields.{len_of}
use Rattle.layout.specs.Slots.{total, split, start}
use Rattle.layout.specs.Store.{Store, rows_of, meta_at, bytes_at, kind_at, node_by, node_at}
use Rattle.layout.specs.Lawful.{uses, held_from, slot_by, slot_ok}

-- ---- a slot by its kind

pub data Slot (kind h u : ℕ) (held : Bool) (s : Bytes) : Type 0 where
  free : kind ≡ 0 → h ≡ 0 → u ≡ 0 → (T held → ⊥) → Slot kind h u held s
  directory : kind ≡ 1 → len_of h ≡ 0 → u ≡ 1 → (T held → ⊥) → Slot kind h u held s
  named : kind ≡ 2 → u ≡ 1 → Slot kind h u held s
  removed : kind ≡ 2 → u ≡ 0 → T held → Slot kind h u held s
  target : kind ≡ 3 → T (target_ok s) → u ≡ 1 → (T held → ⊥) → Slot kind h u held s

-- two tests of a slot: so many rows have it, and no number
alone : (u n : ℕ) (held : Bool) → T (eqb u n && not held) → (u ≡ n) × (T held → ⊥)
alone u n held t = (eqb→eq u n (and_left (eqb u n) (not held) t), T_not held (and_right (eqb u n) (not held) t))

slot-by : (kind h u : ℕ) (held : Bool) (s : Bytes) → T (slot_by kind h u held s) → Slot kind h u held s
slot-by zero h u held s t =
    let a = alone u 0 held (and_right (eqb h 0) (eqb u 0 && not held) t) in
    free refl (eqb→eq h 0 (and_left (eqb h 0) (eqb u 0 && not held) t)) a.0 a.1
slot-by (suc zero) h u held s t =
    let a = alone u 1 held (and_right (eqb (len_of h) 0) (eqb u 1 && not held) t) in
    directory refl (eqb→eq (len_of h) 0 (and_left (eqb (len_of h) 0) (eqb u 1 && not held) t)) a.0 a.1
slot-by (suc (suc zero)) h u held s t = go (or_elim (eqb u 1) (eqb u 0 && held) t)
  where
    go : T (eqb u 1) ⊎ T (eqb u 0 && held) → Slot 2 h u held s
    go (inl a) = named refl (eqb→eq u 1 a)
    go (inr a) = removed refl (eqb→eq u 0 (and_left (eqb u 0) held a)) (and_right (eqb u 0) held a)
slot-by (suc (suc (suc zero))) h u held s t =
    let a = alone u 1 held (and_right (target_ok s) (eqb u 1 && not held) t) in
    target refl (and_left (target_ok s) (eqb u 1 && not held) t) a.0 a.1
slot-by (suc (suc (suc (suc k)))) h u held s t = absurd t

-- and back
one_of : (u n : ℕ) (held : Bool) → u ≡ n → (T held → ⊥) → T (eqb u n && not held)
one_of u n held e h = and_both (eqb u n) (not held) (of_true (eq-eqb u n e)) (not_T held h)

slot-tests : (kind h u : ℕ) (held : Bool) (s : Bytes) → Slot kind h u held s → T (slot_by kind h u held s)
slot-tests kind h u held s (free e x y w) =
    subst (λ (k : ℕ). T (slot_by k h u held s)) (sym e) (and_both (eqb h 0) (eqb u 0 && not held) (of_true (eq-eqb h 0 x)) (one_of u 0 held y w))
slot-tests kind h u held s (directory e x y w) =
    subst (λ (k : ℕ). T (slot_by k h u held s)) (sym e) (and_both (eqb (len_of h) 0) (eqb u 1 && not held) (of_true (eq-eqb (len_of h) 0 x)) (one_of u 1 held y w))
slot-tests kind h u held s (named e y) =
    subst (λ (k : ℕ). T (slot_by k h u held s)) (sym e) (or_left (eqb u 1) (eqb u 0 && held) (of_true (eq-eqb u 1 y)))
slot-tests kind h u held s (removed e y t) =
    subst (λ (k : ℕ). T (slot_by k h u held s)) (sym e) (or_right (eqb u 1) (eqb u 0 && held) (and_both (eqb u 0) held (of_true (eq-eqb u 0 y)) t))
slot-tests kind h u held s (target e t y w) =
    subst (λ (k : ℕ). T (slot_by k h u held s)) (sym e) (and_both (target_ok s) (eqb u 1 && not held) t (one_of u 1 held y w))

abbrev pub SlotOf : Store → ℕ → Type 0
SlotOf st k = Slot (kind_at st k) (get_or st.heads k 0) (uses k (rows_of st)) (held_from st 32 0 k) (bytes_at st k)

pub slot-of : (st : Store) (k : ℕ) → T (slot_ok st k) → SlotOf st k
slot-of st k t = slot-by (kind_at st k) (get_or st.heads k 0) (uses k (rows_of st)) (held_from st 32 0 k) (bytes_at st k) t

pub slot-back : (st : Store) (k : ℕ) → SlotOf st k → T (slot_ok st k)
slot-back st k h = slot-tests (kind_at st k) (get_or st.heads k 0) (uses k (rows_of st)) (held_from st 32 0 k) (bytes_at st k) h

-- ---- what its entry is

pub dir_at : (st : Store) (k : ℕ) → kind_at st k ≡ 1 → node_at st k ≡ dir (meta_at st k)
dir_at st k e = ap (λ (n : ℕ). node_by n k (meta_at st k) (bytes_at st k)) e

pub file_at_lem : (st : Store) (k : ℕ) → kind_at st k ≡ 2 → node_at st k ≡ file k
file_at_lem st k e = ap (λ (n : ℕ). node_by n k (meta_at st k) (bytes_at st k)) e

pub link_at : (st : Store) (k : ℕ) → kind_at st k ≡ 3 → node_at st k ≡ link (meta_at st k) (bytes_at st k)
link_at st k e = ap (λ (n : ℕ). node_by n k (meta_at st k) (bytes_at st k)) e

-- ---- bytes

split-length : (hs : List ℕ) (s : Bytes) (k : ℕ) → total hs ≤ length s → k < length hs → length (get_or (split hs s) k []) ≡ len_of (get_or hs k 0)
unfolding total split
split-length [] s k a b = absurd (omega arith)
split-length (h ∷ hs) s zero a b = length-take-le (len_of h) s (omega arith)
split-length (h ∷ hs) s (suc k) a b = split-length hs (drop (len_of h) s) k (omega (arith, length-drop (len_of h) s)) (omega arith)

pub bytes-length : (st : Store) (k : ℕ) → total st.heads ≤ length st.bytes → k < length st.heads → length (bytes_at st k) ≡ len_of (get_or st.heads k 0)
bytes-length st k a b =
    split-length st.heads (drop (start st.heads st.bytes) st.bytes) k
    (omega (arith, length-drop (start st.heads st.bytes) st.bytes)) b
