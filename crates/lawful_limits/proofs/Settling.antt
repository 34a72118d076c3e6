-- What the answer of a test says, and how a comparison decides it.
-- Assumes nothing.
use mathlib.Core.Bool.{Bool, true, false}
use mathlib.Core.Path.{◌≡◌, refl, subst}
use Prim.Native.Nat.{ℕ, ◌≤◌, ◌<◌}
use native.Mathlib.Omega.{arith}
use lib.Dec.{leb, ltb}
use borrow.Author.Tests.{ltb-true, ltb-false, leb-true, leb-false}
use Rattle.lawful_limits.specs.Settles.{Settles}

-- the answer is known
pub told : (P : Type 0) {r t : Bool} → r ≡ t → Settles r P → Settles t P
told P e s = subst (λ (x : Bool). Settles x P) e s

-- a comparison decides
pub settle-lt : (a b : ℕ) (P : Type 0) → (a < b → P) → (P → a < b) → Settles (ltb a b) P
settle-lt a b P f g = go (ltb a b) refl
  where
    go : (t : Bool) → ltb a b ≡ t → Settles t P
    go true e = f (ltb-true a b e)
    go false e = λ p. omega (arith, g p, ltb-false a b e)

pub settle-le : (a b : ℕ) (P : Type 0) → (a ≤ b → P) → (P → a ≤ b) → Settles (leb a b) P
settle-le a b P f g = go (leb a b) refl
  where
    go : (t : Bool) → leb a b ≡ t → Settles t P
    go true e = f (leb-true a b e)
    go false e = λ p. omega (arith, g p, leb-false a b e)
