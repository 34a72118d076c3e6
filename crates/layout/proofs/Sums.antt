-- Sums over slots and over rows: a sum over the rows of something of their slots is the sum over the slots, each as often as rows
-- have it.
-- Assumes nothing.
use mathlib.Core.Bool.{cond}
use mathlib.Core.List.{List, [], ◌∷◌}
use mathlib.Core.Path.{◌≡◌, refl, sym, ap, ◌∙◌}
use Prim.Native.Nat.{ℕ, zero, suc, ◌+◌, ◌*◌, ◌≤◌, ◌<◌}
use native.Mathlib.Nat.{add-mul, zero-mul, one-mul}
use native.Mathlib.Decide.{ℕ_discrete}
use native.Mathlib.Omega.{arith}
use lib.Dec.{eqb}
use borrow.Author.Tests.{eq-eqb, ne_eqb}
use Rattle.layout.specs.Rows.{Row}
use Rattle.layout.specs.Lawful.{uses}
use Rattle.layout.proofs.Walks.{SlotsIn}

-- over n numbers from k on
unfoldable pub sum_from : (ℕ → ℕ) → ℕ → ℕ → ℕ
sum_from g zero k = 0
sum_from g (suc n) k = g k + sum_from g n (suc k)

pub sum_same : (g h : ℕ → ℕ) (n k : ℕ) → ((i : ℕ) → k ≤ i → i < k + n → g i ≡ h i) → sum_from g n k ≡ sum_from h n k
unfolding sum_from
sum_same g h zero k e = refl
sum_same g h (suc n) k e = omega (arith, e k (omega arith) (omega arith), sum_same g h n (suc k) (λ i a b. e i (omega arith) (omega arith)))

pub sum_both : (g h : ℕ → ℕ) (n k : ℕ) → sum_from (λ i. g i + h i) n k ≡ sum_from g n k + sum_from h n k
unfolding sum_from
sum_both g h zero k = refl
sum_both g h (suc n) k = omega (arith, sum_both g h n (suc k))

pub sum_none : (g : ℕ → ℕ) (n k : ℕ) → ((i : ℕ) → k ≤ i → i < k + n → g i ≡ 0) → sum_from g n k ≡ 0
unfolding sum_from
sum_none g zero k e = refl
sum_none g (suc n) k e = omega (arith, e k (omega arith) (omega arith), sum_none g n (suc k) (λ i a b. e i (omega arith) (omega arith)))

-- over the slots of the rows
unfoldable pub sum_rows : (ℕ → ℕ) → List Row → ℕ
sum_rows g [] = 0
sum_rows g (r ∷ rs) = g r.slot + sum_rows g rs

abbrev once : ℕ → (ℕ → ℕ) → ℕ → ℕ
once s g i = cond (eqb s i) 1 0 * g i

-- one slot's part of a sum
sum-once : (s : ℕ) (g : ℕ → ℕ) (n k : ℕ) → k ≤ s → s < k + n → sum_from (once s g) n k ≡ g s
unfolding sum_from
sum-once s g zero k a b = absurd (omega arith)
sum-once s g (suc n) k a b = go (ℕ_discrete s k) (sum-once s g n (suc k))
  where
    go : Dec (s ≡ k) → (suc k ≤ s → s < suc k + n → sum_from (once s g) n (suc k) ≡ g s) → once s g k + sum_from (once s g) n (suc k) ≡ g s
    go (yes e) ih =
        let z : sum_from (once s g) n (suc k) ≡ 0 = sum_none (once s g) n (suc k) (λ i c d. rw (ne_eqb s i (λ x. omega arith)) (zero-mul (g i))) in
        let y : once s g k ≡ g k = rw (eq-eqb s k e) (one-mul (g k)) in
        omega (arith, ap g e)
    go (no e) ih =
        let y : once s g k ≡ 0 = rw (ne_eqb s k e) (zero-mul (g k)) in
        omega (arith, ih (omega arith) (omega arith))

pub sum_rows_lem : (g : ℕ → ℕ) (n : ℕ) (rs : List Row) → SlotsIn n rs → sum_rows g rs ≡ sum_from (λ i. uses i rs * g i) n 0
unfolding sum_rows uses
sum_rows_lem g n [] h = sym (sum_none (λ i. 0 * g i) n 0 (λ i a b. zero-mul (g i)))
sum_rows_lem g n (r ∷ rs) h =
    ap (λ (k : ℕ). g r.slot + k) (sum_rows_lem g n rs h.1)
    ∙ ap (λ (k : ℕ). k + sum_from (λ i. uses i rs * g i) n 0) (sym (sum-once r.slot g n 0 (omega arith) (omega (arith, h.0))))
    ∙ sym (sum_both (once r.slot g) (λ i. uses i rs * g i) n 0)
    ∙ sym (sum_same (λ i. (cond (eqb r.slot i) 1 0 + uses i rs) * g i) (λ i. once r.slot g i + uses i rs * g i) n 0
    (λ i a b. add-mul (cond (eqb r.slot i) 1 0) (uses i rs) (g i)))
