-- Words that are all 0: nothing else is ever read of them.
-- Assumes nothing.
use mathlib.Core.Path.{◌≡◌, refl}
use Prim.Native.Nat.{ℕ, zero, suc}
use lib.ListN.{get_or, replicate}

pub zeros-read : (n k : ℕ) → ◌≡◌ {A = ℕ} (get_or (replicate n 0) k 0) 0
zeros-read zero k = refl
zeros-read (suc n) zero = refl
zeros-read (suc n) (suc k) = zeros-read n k
