-- The bytes of the slots: a bound on them, one slot further, and where those of a slot stand.
-- Assumes nothing.
use mathlib.Core.List.{List, [], ◌∷◌}
use mathlib.Core.Path.{◌≡◌, refl, ap, ◌∙◌}
use Prim.Native.Nat.{ℕ, zero, suc, ◌+◌, ◌-◌, ◌*◌, ◌≤◌, ◌<◌}
use native.Mathlib.Numerals.{add-one}
use native.Mathlib.Omega.{arith}
use lib.ListN.{length, take, drop, get_or}
use lib.Seq.{drop-cons, drop-drop}
use Rattle.std.specs.List.{sum_by}
use Rattle.std.proofs.lemmas.List.Sums.{sum_by-cons, sum_by-le}
use Rattle.text.specs.Utf8.{Bytes}
use Rattle.layout.specs.Fields.{len_of}
use Rattle.layout.specs.Slots.{total, split, start, contents}

pub sum-slots : (hs : List ℕ) → sum_by len_of hs ≡ total hs
unfolding total
sum-slots [] = refl
sum-slots (h ∷ hs) = sum_by-cons len_of h hs ∙ ap (λ (n : ℕ). len_of h + n) (sum-slots hs)

pub few_bytes : (hs : List ℕ) → total hs ≤ length hs * 16777215
few_bytes hs = let h = sum_by-le len_of 16777215 hs (λ k d h. omega arith) in omega (arith, sum-slots hs)

-- the bytes of a slot, and those of the slots behind it
pub total_next : (hs : List ℕ) (k : ℕ) → k < length hs → total (drop k hs) ≡ len_of (get_or hs k 0) + total (drop (k + 1) hs)
unfolding total
total_next hs k h = rw add-one (ap total (drop-cons hs k 0 h))

-- the bytes of slot k
split_at : (hs : List ℕ) (s : Bytes) (k : ℕ) → k < length hs → get_or (split hs s) k [] ≡ take (len_of (get_or hs k 0)) (drop (total (take k hs)) s)
unfolding split total
split_at [] s k h = absurd (omega arith)
split_at (x ∷ hs) s zero h = refl
split_at (x ∷ hs) s (suc k) h =
    split_at hs (drop (len_of x) s) k (omega arith) ∙ ap (take (len_of (get_or hs k 0))) (drop-drop (total (take k hs)) (len_of x) s)

-- the slots before slot k, and those from it on
sum-rest : (hs : List ℕ) (k : ℕ) → total (take k hs) + total (drop k hs) ≡ total hs
unfolding total
sum-rest hs zero = omega arith
sum-rest [] (suc k) = omega arith
sum-rest (h ∷ hs) (suc k) = let r = sum-rest hs k in omega arith

-- the bytes of slot k in the byte storage
pub contents_at : (hs : List ℕ) (bs : Bytes) (k a e : ℕ) → k < length hs → total hs ≤ length bs → a + total (drop k hs) ≡ length bs
    → e ≡ a + len_of (get_or hs k 0) → get_or (contents hs bs) k [] ≡ take (e - a) (drop a bs)
contents_at hs bs k a e h l p q =
    let n : len_of (get_or hs k 0) ≡ e - a = omega arith in
    let b : start hs bs + total (take k hs) ≡ a = omega (arith, sum-rest hs k) in
    split_at hs (drop (start hs bs) bs) k h ∙ ap (take (len_of (get_or hs k 0))) (drop-drop (total (take k hs)) (start hs bs) bs ∙ ap (λ (i : ℕ). drop i bs) b)
    ∙ ap (λ (i : ℕ). take i (drop a bs)) n
