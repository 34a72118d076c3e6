-- The numbers of the layout (docs/LAYOUT.md): how long the slices are, which word holds what, and the fields of a word. The code has
-- them under the same names (src/lib.rt).
-- Assumes nothing.
use Rattle.std.specs.Prelude.{ℕ, ◌+◌, ◌*◌}

-- ---- limits

-- the greatest entry limit
abbrev pub most_entries : ℕ
most_entries = 4096

-- the least byte limit
abbrev pub least_bytes : ℕ
least_bytes = 256

-- the greatest byte limit
abbrev pub most_bytes : ℕ
most_bytes = 1048576

-- how many file numbers there are; a store has room for as many removed files beyond the entry limit
abbrev pub file_numbers : ℕ
file_numbers = 32

-- the slots of the greatest entry limit
abbrev pub most_slots : ℕ
most_slots = 4128

-- ---- the state's words

-- how many there are
abbrev pub word_count : ℕ
word_count = 102

-- the entry limit's
abbrev pub most_at : ℕ
most_at = 0

-- the byte limit's
abbrev pub room_at : ℕ
room_at = 1

-- that of the number of entries
abbrev pub count_at : ℕ
count_at = 2

-- the umask's
abbrev pub mask_at : ℕ
mask_at = 3

-- that of the length of the current directory's path
abbrev pub here_at : ℕ
here_at = 4

-- a file number has three: its holder's
abbrev pub holder_at : ℕ → ℕ
holder_at n = 5 + 3 * n

-- its position's
abbrev pub position_at : ℕ → ℕ
position_at n = 6 + 3 * n

-- that of the length of the path kept at open
abbrev pub kept_at : ℕ → ℕ
kept_at n = 7 + 3 * n

-- that of the number of slots so far
abbrev pub extent_at : ℕ
extent_at = 101

-- ---- the cells of the kept paths

-- the bytes of a cell
abbrev pub cell_bytes : ℕ
cell_bytes = 1024

-- the bytes of all: the current directory's cell, and one for each file number
abbrev pub paths_bytes : ℕ
paths_bytes = 33792

-- ---- the fields of a record's word

-- depths are less than this
abbrev pub depths : ℕ
depths = 65536

-- lengths of names are less than this
abbrev pub name_lengths : ℕ
name_lengths = 256

-- numbers of slots are less than this
abbrev pub slot_numbers : ℕ
slot_numbers = 65536

-- one slot more in a word
abbrev pub slot_unit : ℕ
slot_unit = 16777216

-- ---- the fields of a slot's word

-- lengths of bytes are less than this
abbrev pub lengths : ℕ
lengths = 16777216

-- kinds are less than this
abbrev pub kinds : ℕ
kinds = 256

-- one more in the mode in a word; modes are less than this too
abbrev pub mode_unit : ℕ
mode_unit = 4294967296
