-- Who uses a slot: the records that name it, and the file numbers that stand on it.
-- Assumes nothing.
use Rattle.std.specs.Prelude.{Bool, true, false, ◌||◌, cond, List, [], ◌∷◌, ◌≡◌, ℕ, zero, suc, ◌+◌, ◌≤◌, ◌<◌, ◌==◌, eqb, length, get_or}
use Rattle.std.specs.List.{list_any}
use Rattle.layout.specs.Numbers.{file_numbers, most_slots, holder_at}
use Rattle.layout.specs.Fields.{slot_of}

-- the number of records that name the slot
unfoldable pub uses_in : ℕ → List ℕ → ℕ
uses_in k [] = 0
uses_in k (w ∷ ws) = cond (eqb (slot_of w) k) 1 0 + uses_in k ws

-- one of n file numbers from i on stands on the slot
unfoldable pub stands_from : List ℕ → ℕ → ℕ → ℕ → Bool
stands_from ws zero i k = false
stands_from ws (suc n) i k = eqb (get_or ws (holder_at i) 0) (suc k) || stands_from ws n (suc i) k

-- each record names one of n slots
abbrev pub Within : ℕ → List ℕ → Type 0
Within n ws = (i : ℕ) → i < length ws → slot_of (get_or ws i 0) < n

-- each file number is closed, or stands on a slot for which there is a mark
abbrev pub Standing : List ℕ → Type 0
Standing ws = (j : ℕ) → j < file_numbers → get_or ws (holder_at j) 0 ≤ most_slots

-- true: a mark says how many records name its slot, none or one; false: the slot of a record is named twice
abbrev pub MarkedBy : List ℕ → List ℕ → Bool → Type 0
MarkedBy ws marks true = (k : ℕ) → (get_or marks k 0 ≡ uses_in k ws) × (uses_in k ws ≤ 1)
MarkedBy ws marks false = (i : ℕ) × (i < length ws) × (2 ≤ uses_in (slot_of (get_or ws i 0)) ws)

-- one of the words of the records has the slot
abbrev pub is_used : ℕ → List ℕ → Bool
is_used k ws = list_any (λ w. slot_of w == k) ws
