-- The slot that a file number stands on, by its holder's word.
-- Assumes nothing.
use Rattle.std.specs.Prelude.{List, ℕ, zero, suc, Option, Some, None, get_or}
use Rattle.layout.specs.Numbers.{holder_at}

-- 0 is a closed number's word; else the slot is one less
abbrev pub slot_by_holder : ℕ → Option ℕ
slot_by_holder zero = None
slot_by_holder (suc s) = Some s

-- that of the number n
abbrev pub slot_held : List ℕ → ℕ → Option ℕ
slot_held ws n = slot_by_holder (get_or ws (holder_at n) 0)
