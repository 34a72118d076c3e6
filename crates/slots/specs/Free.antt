-- The lowest free slot.
-- Assumes nothing.
use Rattle.std.specs.Prelude.{List, ◌≡◌, ◌==◌, ℕ, Option, None}
use Rattle.std.specs.List.{position_from}

-- the first slot whose word is 0, where the first of the words has number k
abbrev pub free_from : List ℕ → ℕ → Option ℕ
free_from hs k = position_from (λ h. h == 0) k hs

-- one of them is free
abbrev pub HasFree : List ℕ → Type 0
HasFree hs = free_from hs 0 ≡ None → ⊥
