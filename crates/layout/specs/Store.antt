-- The lent slices, and the state that is read back from them (docs/LAYOUT.md).
-- Assumes nothing.
use Rattle.std.specs.Prelude.{cond, not, List, [], ℕ, zero, suc, ◌+◌, ◌-◌, ◌*◌, eqb, ℤ, pos, length, take, drop, get_or}
use Rattle.text.specs.Utf8.{Bytes}
use Rattle.path.specs.Path.{names}
use Rattle.model.specs.Tree.{Meta, Node, dir, file, link, Files, Open, keep_if}
use Rattle.model.specs.Calls.States.{State}
use Rattle.layout.specs.Numbers.{file_numbers, word_count, most_at, room_at, count_at, mask_at, here_at, holder_at, position_at, kept_at, extent_at, cell_bytes, paths_bytes}
use Rattle.layout.specs.Fields.{kind_of, mode_of}
use Rattle.layout.specs.Rows.{Row, rows, tree_from}
use Rattle.layout.specs.Slots.{contents}

-- The slices. Entry storage: the state's words, the words of the records, the words of the slots, the times of the slots, the
-- cells of the kept paths. Byte storage: the bytes.
pub record Store : Type 0 where
  pub words : List ℕ
  pub records : List ℕ
  pub heads : List ℕ
  pub times : List ℤ
  pub paths : Bytes
  pub bytes : Bytes

-- the slices as they are lent, in the order of every call
abbrev pub lent : List ℕ → List ℕ → List ℕ → List ℤ → Bytes → Bytes → Store
lent words records heads times paths bytes = record { words = words; records = records; heads = heads; times = times; paths = paths; bytes = bytes }

-- ---- the state's words

-- the entry limit
abbrev pub most : Store → ℕ
most st = get_or st.words most_at 0

-- the byte limit
abbrev pub room : Store → ℕ
room st = get_or st.words room_at 0

-- the number of entries
abbrev pub count : Store → ℕ
count st = get_or st.words count_at 0

-- the umask
abbrev pub mask : Store → ℕ
mask st = get_or st.words mask_at 0

-- the length of the current directory's path
abbrev pub here_length : Store → ℕ
here_length st = get_or st.words here_at 0

-- of a file number: 0 where it is closed, else one more than the slot of its file
abbrev pub holder : Store → ℕ → ℕ
holder st n = get_or st.words (holder_at n) 0

-- its position
abbrev pub position : Store → ℕ → ℕ
position st n = get_or st.words (position_at n) 0

-- the length of the path kept at open
abbrev pub kept_length : Store → ℕ → ℕ
kept_length st n = get_or st.words (kept_at n) 0

-- the number of slots that the store has so far; every slot in use is below it
abbrev pub extent : Store → ℕ
extent st = get_or st.words extent_at 0

-- ---- the cells of the kept paths

-- the bytes of a cell that are used: cell 0 is the current directory's, cell n + 1 the file number n's
abbrev pub cell : Store → ℕ → ℕ → Bytes
cell st i n = take n (drop (cell_bytes * i) st.paths)

-- ---- records and slots

-- room for 32 removed files beyond the entry limit
abbrev pub slots_for : ℕ → ℕ
slots_for m = m + file_numbers

-- the words of the entries
abbrev pub live : Store → List ℕ
live st = take (count st) st.records

-- the entries
abbrev pub rows_of : Store → List Row
rows_of st = rows (live st) st.bytes

-- a slot's metadata: its mode, and its four times
abbrev pub meta_at : Store → ℕ → Meta
meta_at st k =
    record { mode = mode_of (get_or st.heads k 0); accessed = get_or st.times (4 * k) (pos 0); changed = get_or st.times (4 * k + 1) (pos 0); created = get_or st.times (4 * k + 2) (pos 0); modified = get_or st.times (4 * k + 3) (pos 0) }

-- a slot's bytes
abbrev pub bytes_at : Store → ℕ → Bytes
bytes_at st k = get_or (contents st.heads st.bytes) k []

-- a slot's kind: 0 free, 1 directory, 2 file, 3 link
abbrev pub kind_at : Store → ℕ → ℕ
kind_at st k = kind_of (get_or st.heads k 0)

-- what an entry of that slot is
abbrev pub node_by : ℕ → ℕ → Meta → Bytes → Node
node_by kind k m s = cond (eqb kind 1) (dir m) (cond (eqb kind 2) (file k) (link m s))

-- the same of a store
abbrev pub node_at : Store → ℕ → Node
node_at st k = node_by (kind_at st k) k (meta_at st k) (bytes_at st k)

-- the files of n slots from slot k on, each by the number of its slot
unfoldable pub files_from : Store → ℕ → ℕ → Files
files_from st zero k = []
files_from st (suc n) k = keep_if (eqb (kind_at st k) 2) (k, record { meta = meta_at st k; bytes = bytes_at st k }) (files_from st n (suc k))

-- what is open of n file numbers from k on
unfoldable pub opens_from : Store → ℕ → ℕ → List Open
opens_from st zero k = []
opens_from st (suc n) k =
    keep_if (not (eqb (holder st k) 0)) (record { num = k; id = holder st k - 1; pos = position st k; kept = names (cell st (suc k) (kept_length st k)) }) (opens_from st n (suc k))

-- ---- the state that is read back

-- the state of a store whose slices are as long as the limits and the extent ask
abbrev pub state : Store → State
state st =
    record { tree = tree_from (node_at st) [] (rows_of st); files = files_from st (length st.heads) 0; opens = opens_from st file_numbers 0; here = names (cell st 0 (here_length st)); mask = mask st; most = most st; room = room st }

-- ---- slices that are longer

-- as much of each slice as the limits ask, and of the slots' words as many as there are slots so far
abbrev pub core : Store → Store
core st =
    record { words = take word_count st.words; records = take (most st) st.records; heads = take (extent st) st.heads; times = take (4 * slots_for (most st)) st.times; paths = take paths_bytes st.paths; bytes = take (room st) st.bytes }

-- what stands behind that, by the limits: nothing reads it or writes it
abbrev pub spare : ℕ → ℕ → Store → Store
spare m b st =
    record { words = drop word_count st.words; records = drop m st.records; heads = drop (slots_for m) st.heads; times = drop (4 * slots_for m) st.times; paths = drop paths_bytes st.paths; bytes = drop b st.bytes }
