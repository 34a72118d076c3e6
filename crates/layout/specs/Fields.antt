-- Fields of the words of a store (docs/LAYOUT.md, "Records", "Slots").
-- Assumes nothing.
use Rattle.std.specs.Prelude.{ℕ, ◌+◌, ◌*◌, ◌/◌, ◌%◌}
use Rattle.layout.specs.Numbers.{depths, name_lengths, slot_unit, lengths, kinds, mode_unit}

-- ---- the word of a record

-- bits 0 to 15: the number of names in the entry's path
abbrev pub depth_of : ℕ → ℕ
depth_of w = w % depths

-- bits 16 to 23: the length of its name
abbrev pub nlen_of : ℕ → ℕ
nlen_of w = w / depths % name_lengths

-- bits 24 on: the number of its slot
abbrev pub slot_of : ℕ → ℕ
slot_of w = w / slot_unit

-- the three in a word
abbrev pub record_word : ℕ → ℕ → ℕ → ℕ
record_word d n s = (s * name_lengths + n) * depths + d

-- ---- the word of a slot

-- bits 0 to 23: the length of its bytes
abbrev pub len_of : ℕ → ℕ
len_of h = h % lengths

-- bits 24 to 31: 0 free, 1 directory, 2 file, 3 link
abbrev pub kind_of : ℕ → ℕ
kind_of h = h / lengths % kinds

-- bits 32 to 63: the mode
abbrev pub mode_of : ℕ → ℕ
mode_of h = h / mode_unit

-- the three in a word
abbrev pub head_word : ℕ → ℕ → ℕ → ℕ
head_word n k m = (m * kinds + k) * lengths + n
