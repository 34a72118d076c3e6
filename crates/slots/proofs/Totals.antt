-- How many bytes the slots have: the sum is taken apart at a slot, so a change of one word changes one summand.
-- Assumes nothing.
use mathlib.Core.Path.{◌≡◌, refl, sym, ap, ◌∙◌}
use Rattle.std.specs.List.{sum_by}
use Rattle.std.proofs.lemmas.List.Sums.{sum_by-cons}
use mathlib.Core.List.{List, [], ◌∷◌}
use Prim.Native.Nat.{ℕ, zero, suc, ◌+◌, ◌≤◌, ◌<◌}
use native.Mathlib.Omega.{arith}
use lib.ListN.{length, take, drop, get_or, set}
use lib.Seq.{take-length}
use Rattle.layout.specs.Fields.{len_of}
use Rattle.layout.specs.Slots.{total}

pub sum-total : (hs : List ℕ) → sum_by len_of hs ≡ total hs
unfolding total
sum-total [] = refl
sum-total (h ∷ hs) = sum_by-cons len_of h hs ∙ ap (λ (n : ℕ). len_of h + n) (sum-total hs)

pub total-set : (hs : List ℕ) (k h : ℕ) → k < length hs → total (set hs k h) + len_of (get_or hs k 0) ≡ total hs + len_of h
unfolding total
total-set [] k h l = absurd (omega arith)
total-set (x ∷ hs) zero h l = omega arith
total-set (x ∷ hs) (suc k) h l = let r = total-set hs k h (omega arith) in omega arith

total-split : (hs : List ℕ) (k : ℕ) → k < length hs → total hs ≡ total (take k hs) + (len_of (get_or hs k 0) + total (drop (suc k) hs))
unfolding total
total-split [] k l = absurd (omega arith)
total-split (x ∷ hs) zero l = omega arith
total-split (x ∷ hs) (suc k) l = let r = total-split hs k (omega arith) in omega arith

pub total-take : (hs : List ℕ) (i : ℕ) → i < length hs → total (take (suc i) hs) ≡ total (take i hs) + len_of (get_or hs i 0)
unfolding total
total-take [] i h = absurd (omega arith)
total-take (x ∷ hs) zero h = omega arith
total-take (x ∷ hs) (suc i) h = let r = total-take hs i (omega arith) in omega arith

pub take_total : (hs : List ℕ) (i : ℕ) → total (take i hs) ≤ total hs
unfolding total
take_total hs zero = omega arith
take_total [] (suc i) = omega arith
take_total (x ∷ hs) (suc i) = let r = take_total hs i in omega arith

-- those before a slot, its own, and those behind it
pub total_at : (hs : List ℕ) (k : ℕ) → k < length hs → total (take k hs) + (len_of (get_or hs k 0) + total (drop (suc k) hs)) ≡ total hs
total_at hs k l = sym (total-split hs k l)

-- what `sum_to` answers for all slots and for the first k, beside the whole
pub sums : (hs : List ℕ) (k : ℕ) → k < length hs
    → (total (take (length hs) hs) ≡ total hs) × (total hs ≡ total (take k hs) + (len_of (get_or hs k 0) + total (drop (suc k) hs)))
sums hs k l = (ap total (take-length hs), total-split hs k l)
