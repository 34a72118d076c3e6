-- How many elements of a list are not 0.
-- Assumes nothing.
use mathlib.Core.Bool.{Bool, true, false, not, cond}
use mathlib.Core.List.{List, [], ◌∷◌}
use mathlib.Core.Path.{◌≡◌, refl, ap}
use Prim.Native.Nat.{ℕ, zero, suc, ◌+◌, ◌≤◌, ◌<◌}
use native.Mathlib.Omega.{arith}
use lib.Dec.{eqb}
use lib.ListN.{length, take, get_or, set, replicate}
use borrow.Author.Tests.{eq-eqb, ne_eqb, eqb-true, eqb-false}
use Rattle.std.proofs.lemmas.List.Sums.{sum_by-cons, sum_by-set}
use Rattle.lawful_slots.specs.Uses.{filled}

-- what one element adds
abbrev pub one : ℕ → ℕ
one x = cond (not (eqb x 0)) 1 0

one_of : (x : ℕ) → x ≡ 0 → one x ≡ 0
one_of x e = ap (λ (t : Bool). cond (not t) 1 0) (eq-eqb x 0 e)

one_not : (x : ℕ) → (x ≡ 0 → ⊥) → one x ≡ 1
one_not x n = ap (λ (t : Bool). cond (not t) 1 0) (ne_eqb x 0 n)

pub one_most : (x : ℕ) → one x ≤ 1
one_most x = go (eqb x 0)
  where
    go : (t : Bool) → cond (not t) 1 0 ≤ 1
    go true = omega arith
    go false = omega arith

one_is : (x : ℕ) → one x ≡ cond (eqb x 0) 0 1
one_is x = go (eqb x 0)
  where
    go : (t : Bool) → ◌≡◌ {A = ℕ} (cond (not t) 1 0) (cond t 0 1)
    go true = refl
    go false = refl

one_le : (x y : ℕ) → (y ≡ 0 → x ≡ 0) → one x ≤ one y
one_le x y f = go (eqb y 0) refl
  where
    go : (t : Bool) → eqb y 0 ≡ t → one x ≤ one y
    go true e = omega (arith, one_of x (f (eqb-true y 0 e)))
    go false e = omega (arith, one_most x, one_not y (eqb-false y 0 e))

-- an element that adds nothing
one_zero : (x : ℕ) → one x ≤ 0 → x ≡ 0
one_zero x h = go (eqb x 0) refl
  where
    go : (t : Bool) → eqb x 0 ≡ t → x ≡ 0
    go true e = eqb-true x 0 e
    go false e = absurd (omega (arith, one_not x (eqb-false x 0 e)))

more : (x : ℕ) (xs : List ℕ) → filled (x ∷ xs) ≡ one x + filled xs
more x xs = sum_by-cons one x xs

pub filled_none : (n : ℕ) → filled (replicate n 0) ≡ 0
filled_none zero = refl
filled_none (suc n) = filled_none n

pub filled-empty : 0 ≡ filled []
filled-empty = refl

pub filled_most : (xs : List ℕ) → filled xs ≤ length xs
filled_most [] = omega arith
filled_most (x ∷ xs) = omega (arith, more x xs, one_most x, filled_most xs)

-- one element further
pub filled_more : (xs : List ℕ) (i : ℕ) → i < length xs → filled (take (suc i) xs) ≡ filled (take i xs) + cond (eqb (get_or xs i 0) 0) 0 1
filled_more [] i h = absurd (omega arith)
filled_more (x ∷ xs) zero h = omega (arith, more x [], one_is x)
filled_more (x ∷ xs) (suc i) h = let r = filled_more xs i (omega arith) in omega (arith, more x (take (suc i) xs), more x (take i xs))

-- one element that was 0 is 1
pub filled-set : (xs : List ℕ) (s : ℕ) → s < length xs → get_or xs s 0 ≡ 0 → filled (set xs s 1) ≡ suc (filled xs)
filled-set xs s h z = omega (arith, sum_by-set one xs s 1 0 h, one_of (get_or xs s 0) z)

-- a list that is 0 where another is
pub filled-le : (xs ys : List ℕ) → ((k : ℕ) → get_or ys k 0 ≡ 0 → get_or xs k 0 ≡ 0) → filled xs ≤ filled ys
filled-le [] ys f = omega arith
filled-le (x ∷ xs) [] f = let r = filled-le xs [] (λ k z. f (suc k) z) in omega (arith, more x xs, one_of x (f 0 refl))
filled-le (x ∷ xs) (y ∷ ys) f = let r = filled-le xs ys (λ k z. f (suc k) z) in omega (arith, more x xs, more y ys, one_le x y (λ z. f 0 z))

-- and has as many elements that are not
pub filled-free : (xs ys : List ℕ) → ((k : ℕ) → get_or ys k 0 ≡ 0 → get_or xs k 0 ≡ 0) → filled ys ≤ filled xs → (k : ℕ) → get_or xs k 0 ≡ 0 → get_or ys k 0 ≡ 0
filled-free xs [] f l k z = refl
filled-free [] (y ∷ ys) f l zero z = one_zero y (omega (arith, more y ys))
filled-free [] (y ∷ ys) f l (suc k) z = filled-free [] ys (λ k z. refl) (omega (arith, more y ys)) k refl
filled-free (x ∷ xs) (y ∷ ys) f l zero z = let r = filled-le xs ys (λ k z. f (suc k) z) in one_zero y (omega (arith, more x xs, more y ys, one_of x z))
filled-free (x ∷ xs) (y ∷ ys) f l (suc k) z = filled-free xs ys (λ k z. f (suc k) z) (omega (arith, more x xs, more y ys, one_le x y (λ z. f 0 z))) k z
