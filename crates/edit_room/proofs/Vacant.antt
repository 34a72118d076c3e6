-- A store that has all slots that the limits allow, and room for an entry, has a free slot: each slot in use has an entry or a file
-- number, and there are fewer of these than slots.
-- Assumes nothing.
use mathlib.Core.Bool.{Bool, cond}
use mathlib.Core.List.{List, [], ◌∷◌}
use mathlib.Core.Logic.{◌⊎◌, inl, inr}
use mathlib.Core.Path.{◌≡◌, refl, ap}
use Prim.Native.Nat.{ℕ, zero, suc, ◌+◌, ◌*◌, ◌≤◌, ◌<◌}
use native.Mathlib.Decide.{ℕ_discrete}
use native.Mathlib.Nat.{mul-one}
use native.Mathlib.Omega.{arith}
use lib.Dec.{T, eqb, eqb→eq}
use lib.ListN.{length, get_or}
use borrow.Author.Tests.{eq-eqb, ne_eqb}
use Rattle.model.proofs.Demand.Contents.{or_elim}
use Rattle.layout.specs.Rows.{Row}
use Rattle.layout.specs.Store.{Store, most, count, extent, slots_for, live, holder, rows_of, kind_at}
use Rattle.layout.specs.Lawful.{uses, held_from, Lawful}
use Rattle.layout.proofs.Roots.{all_slots}
use Rattle.layout.proofs.Slotted.{SlotOf, free, directory, named, removed, target, slot-of}
use Rattle.layout.proofs.Sums.{sum_from, sum_both, sum_none, sum_rows, sum_rows_lem}
use Rattle.layout.proofs.Used.{live-length}
use Rattle.layout.proofs.Named.{length-rows}
use Rattle.slots.proofs.Frees.{full}
use Rattle.slots.specs.Free.{HasFree}

-- ---- sums

sum_less : (g h : ℕ → ℕ) (n k : ℕ) → ((i : ℕ) → i < k + n → g i ≤ h i) → sum_from g n k ≤ sum_from h n k
unfolding sum_from
sum_less g h zero k e = omega arith
sum_less g h (suc n) k e = omega (arith, e k (omega arith), sum_less g h n (suc k) (λ i a. e i (omega arith)))

sum_ones : (n k : ℕ) → sum_from (λ i. 1) n k ≡ n
unfolding sum_from
sum_ones zero k = refl
sum_ones (suc n) k = omega (arith, sum_ones n (suc k))

row-ones : (rs : List Row) → sum_rows (λ i. 1) rs ≡ length rs
unfolding sum_rows
row-ones [] = refl
row-ones (r ∷ rs) = omega (arith, row-ones rs)

-- ---- the file numbers

-- a number stands on the slot
abbrev stands : ℕ → ℕ → ℕ
stands h k = cond (eqb h (suc k)) 1 0

stands-once : (h n k : ℕ) → sum_from (stands h) n k ≤ 1
unfolding sum_from
stands-once h zero k = omega arith
stands-once h (suc n) k = go (ℕ_discrete h (suc k)) (stands-once h n (suc k))
  where
    go : Dec (h ≡ suc k) → sum_from (stands h) n (suc k) ≤ 1 → stands h k + sum_from (stands h) n (suc k) ≤ 1
    go (yes e) ih =
        let z : sum_from (stands h) n (suc k) ≡ 0 = sum_none (stands h) n (suc k) (λ i a b. ap (λ (y : Bool). cond y 1 0) (ne_eqb h (suc i) (λ d. omega arith))) in
        let y : stands h k ≡ 1 = ap (λ (y : Bool). cond {A = ℕ} y 1 0) (eq-eqb h (suc k) e) in
        omega arith
    go (no e) ih = let y : stands h k ≡ 0 = ap (λ (y : Bool). cond {A = ℕ} y 1 0) (ne_eqb h (suc k) e) in omega arith

-- how many of m numbers from i on do
unfoldable standing : Store → ℕ → ℕ → ℕ → ℕ
standing st zero i k = 0
standing st (suc m) i k = stands (holder st i) k + standing st m (suc i) k

standing_most : (st : Store) (m i n : ℕ) → sum_from (standing st m i) n 0 ≤ m
unfolding standing
standing_most st zero i n = omega (arith, sum_none (λ k. 0) n 0 (λ k a b. refl))
standing_most st (suc m) i n =
    omega (arith, sum_both (stands (holder st i)) (standing st m (suc i)) n 0, stands-once (holder st i) n 0, standing_most st m (suc i) n)

held-stands : (st : Store) (m i k : ℕ) → T (held_from st m i k) → 1 ≤ standing st m i k
unfolding held_from standing
held-stands st zero i k t = absurd t
held-stands st (suc m) i k t = go (or_elim (eqb (holder st i) (suc k)) (held_from st m (suc i) k) t) (held-stands st m (suc i) k)
  where
    go : T (eqb (holder st i) (suc k)) ⊎ T (held_from st m (suc i) k) → (T (held_from st m (suc i) k) → 1 ≤ standing st m (suc i) k) → 1 ≤ stands (holder st i) k + standing st m (suc i) k
    go (inl e) ih = let y : stands (holder st i) k ≡ 1 = ap (λ (y : Bool). cond {A = ℕ} y 1 0) (eq-eqb (holder st i) (suc k) (eqb→eq (holder st i) (suc k) e)) in omega arith
    go (inr e) ih = omega (arith, ih e)

-- ---- the slots

module _ (st : Store) (l : Lawful st) where
  used-slot : (k : ℕ) → (get_or st.heads k 0 ≡ 0 → ⊥) → SlotOf st k → 1 ≤ uses k (rows_of st) * 1 + standing st 32 0 k
  used-slot k h (free e y u w) = absurd (h y)
  used-slot k h (directory e y u w) = omega (arith, mul-one (uses k (rows_of st)))
  used-slot k h (named e u) = omega (arith, mul-one (uses k (rows_of st)))
  used-slot k h (removed e u w) = omega (arith, held-stands st 32 0 k w)
  used-slot k h (target e y u w) = omega (arith, mul-one (uses k (rows_of st)))

  pub not_full : slots_for (most st) ≤ extent st → count st < most st → HasFree st.heads
  not_full x h e =
      let n = length st.heads in
      let each = sum_less (λ i. 1) (λ k. uses k (rows_of st) * 1 + standing st 32 0 k) n 0 (λ k a. used-slot k (full st.heads 0 k e (omega arith)) (slot-of st k (l.slots k (omega arith)))) in
      let rows = sum_rows_lem (λ i. 1) n (rows_of st) (all_slots (kind_at st) n (rows_of st) l.entries) in
      omega (arith, each, sum_ones n 0, sum_both (λ k. uses k (rows_of st) * 1) (standing st 32 0) n 0, standing_most st 32 0 n, rows, row-ones (rows_of st), length-rows (live st) st.bytes, live-length st l, l.exact.heads)
