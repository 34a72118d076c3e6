-- The bytes of the slots that no record has.
-- Assumes nothing.
use Rattle.std.specs.Prelude.{cond, List, ◌≡◌, ℕ, zero, suc, ◌+◌, ◌<◌, eqb, length, get_or}
use Rattle.layout.specs.Numbers.{file_numbers, holder_at}
use Rattle.layout.specs.Fields.{len_of}
use Rattle.slots.specs.Uses.{uses_in}

-- every file number is closed: no file that is not named is still open
abbrev pub AllClosed : List ℕ → Type 0
AllClosed ws = (j : ℕ) → j < file_numbers → get_or ws (holder_at j) 0 ≡ 0

-- the bytes of a slot, by how many records have it
abbrev pub alone : (ℕ → ℕ) → List ℕ → ℕ → ℕ
alone u hs k = cond (eqb (u k) 0) (len_of (get_or hs k 0)) 0

-- of n slots from k on, the bytes of those that no record has
unfoldable pub alone_from : (ℕ → ℕ) → List ℕ → ℕ → ℕ → ℕ
alone_from u hs zero k = 0
alone_from u hs (suc n) k = alone u hs k + alone_from u hs n (suc k)

-- of all slots, by the words of the records
abbrev pub unnamed : List ℕ → List ℕ → ℕ
unnamed ws hs = alone_from (λ k. uses_in k ws) hs (length hs) 0

-- the same by marks
abbrev pub unmarked_bytes : List ℕ → List ℕ → ℕ
unmarked_bytes ms hs = alone_from (λ k. get_or ms k 0) hs (length hs) 0
