-- Slots freed, by what stays.
-- Assumes nothing.
use Rattle.std.specs.Prelude.{Bool, true, false, ◌||◌, not, List, [], ◌≡◌, ℕ, ◌≤◌, eqb, ltb, length, take, get_or}
use Rattle.layout.specs.Numbers.{file_numbers}
use Rattle.layout.specs.Slots.{total, start, contents}
use Rattle.slots.specs.Uses.{uses_in, stands_from}

-- all slots stay but slot s, which does where a file number stands on it
unfoldable pub keeps_one : List ℕ → ℕ → ℕ → Bool
keeps_one ws s k = not (eqb k s) || stands_from ws file_numbers 0 k

-- a slot stays where a record names it or a file number stands on it
unfoldable pub keeps_used : List ℕ → List ℕ → ℕ → Bool
keeps_used ws recs k = ltb 0 (uses_in k recs) || stands_from ws file_numbers 0 k

-- a slot that stays is as it was, and every other is free
pub record Cleared (hs bs hs' bs' : List ℕ) (keep : ℕ → Bool) : Type 0 where
  pub heads : (k : ℕ) → keep k ≡ true → get_or hs' k 0 ≡ get_or hs k 0
  pub texts : (k : ℕ) → keep k ≡ true → get_or (contents hs' bs') k [] ≡ get_or (contents hs bs) k []
  pub freed : (k : ℕ) → keep k ≡ false → get_or hs' k 0 ≡ 0
  -- what stands in front of the bytes of the slots is as it was
  pub rest : (m : ℕ) → m ≤ start hs bs → take m bs' ≡ take m bs
  pub room : total hs' ≤ total hs
  pub slots : length hs' ≡ length hs
  pub long : length bs' ≡ length bs
