-- The rules of a store (docs/LAYOUT.md, "Rules"): refusal 1 is the answer where one is broken.
-- Assumes nothing.
use Rattle.std.specs.Prelude.{Bool, true, false, ◌&&◌, ◌||◌, cond, not, List, [], ◌∷◌, ◌≡◌, ℕ, zero, suc, ◌+◌, ◌*◌, ◌^◌, ◌≤◌, ◌<◌, T, eqb, leb, ltb, pos, length, get_or}
use Rattle.text.specs.Utf8.{Bytes}
use Rattle.path.specs.Path.{Name, names, body, same}
use Rattle.model.specs.Tree.{Path, precedes}
use Rattle.model.specs.Prog.{is_nil}
use Rattle.model.specs.Rules.{name_ok, path_ok, target_ok, time_ok, bytes_ok}
use Rattle.layout.specs.Numbers.{most_entries, least_bytes, most_bytes, file_numbers, word_count, cell_bytes, paths_bytes}
use Rattle.layout.specs.Fields.{len_of}
use Rattle.layout.specs.Rows.{Row, name_total, path_of}
use Rattle.layout.specs.Slots.{total}
use Rattle.layout.specs.Store.{Store, most, room, count, mask, here_length, extent, holder, kept_length, cell, slots_for, live, rows_of, bytes_at, kind_at, core}

-- ---- entries

-- an entry stands behind another in its directory, with a greater name, or is the first in the directory before it
abbrev pub follows : Path → Bool → ℕ → Name → Bool
follows p d zero x = false
follows p d (suc k) x = cond (ltb k (length p)) (precedes (get_or p k []) x) (eqb k (length p) && d)

-- an entry behind one of that path, which is or is not a directory
abbrev pub entry_ok : ℕ → Path → Bool → Row → Bool
entry_ok n p d r = ltb r.slot n && (name_ok r.name && follows p d r.depth r.name)

-- "Names in a directory rise strictly by byte order; none is empty, `.`, `..` or holds `/`"; only directories have entries
unfoldable pub walk_ok : (ℕ → ℕ) → ℕ → Path → Bool → List Row → Bool
walk_ok kind n p d [] = true
walk_ok kind n p d (r ∷ rs) = entry_ok n p d r && walk_ok kind n (path_of p r) (eqb (kind r.slot) 1) rs

-- the first entry is the root, a directory without a name
abbrev pub root_ok : (ℕ → ℕ) → ℕ → Row → Bool
root_ok kind n r = eqb r.depth 0 && (is_nil r.name && (ltb r.slot n && eqb (kind r.slot) 1))

-- "A fresh tree has no root. The root is one directory entry"
unfoldable pub rows_ok : (ℕ → ℕ) → ℕ → List Row → Bool
rows_ok kind n [] = true
rows_ok kind n (r ∷ rs) = root_ok kind n r && walk_ok kind n [] true rs

-- ---- slots

-- the number of entries that have the slot
unfoldable pub uses : ℕ → List Row → ℕ
uses k [] = 0
uses k (r ∷ rs) = cond (eqb r.slot k) 1 0 + uses k rs

-- one of n file numbers from i on stands on the slot
unfoldable pub held_from : Store → ℕ → ℕ → ℕ → Bool
held_from st zero i k = false
held_from st (suc n) i k = eqb (holder st i) (suc k) || held_from st n (suc i) k

-- A slot by its kind, its word, how many entries have it, whether a file number stands on it, and its bytes. A slot in use is
-- named by exactly one record, or is a file without a name that a number is open on; a number stands on a file.
abbrev pub slot_by : ℕ → ℕ → ℕ → Bool → Bytes → Bool
slot_by zero h u held s = eqb h 0 && (eqb u 0 && not held)
slot_by (suc zero) h u held s = eqb (len_of h) 0 && (eqb u 1 && not held)
slot_by (suc (suc zero)) h u held s = eqb u 1 || (eqb u 0 && held)
slot_by (suc (suc (suc zero))) h u held s = target_ok s && (eqb u 1 && not held)
slot_by (suc (suc (suc (suc k)))) h u held s = false

-- the slot k of a store
abbrev pub slot_ok : Store → ℕ → Bool
slot_ok st k = slot_by (kind_at st k) (get_or st.heads k 0) (uses k (rows_of st)) (held_from st file_numbers 0 k) (bytes_at st k)

-- ---- kept paths

-- a path as it is kept: normalised, absolute, at most 1,024 bytes, its names at most 255 and valid text
unfoldable pub cell_ok : Bytes → Bool
cell_ok s = path_ok (names s) && same (body (names s)) s

-- the path in a cell
abbrev pub kept_ok : Store → ℕ → ℕ → Bool
kept_ok st i n = leb n cell_bytes && cell_ok (cell st i n)

-- a file number: closed, or on a slot, with the path kept at open
abbrev pub number_ok : Store → ℕ → Bool
number_ok st n = eqb (holder st n) 0 || (leb (holder st n) (length st.heads) && kept_ok st (suc n) (kept_length st n))

-- ---- the store

-- each slice is as long as the limits ask, and the slots' words as the extent asks
pub record Exact (st : Store) : Type 0 where
  pub words : length st.words ≡ word_count
  pub records : length st.records ≡ most st
  pub heads : length st.heads ≡ extent st
  pub times : length st.times ≡ 4 * slots_for (most st)
  pub paths : length st.paths ≡ paths_bytes
  pub bytes : length st.bytes ≡ room st

-- what every store obeys
pub record Lawful (st : Store) : Type 0 where
  pub exact : Exact st
  -- "an entry limit of 1 to 4,096 and a byte limit of 256 to 1,048,576"
  pub entry_limit : (1 ≤ most st) × (most st ≤ most_entries)
  pub byte_limit : (least_bytes ≤ room st) × (room st ≤ most_bytes)
  pub counted : count st ≤ most st
  -- room for 32 removed files beyond the entry limit
  pub slotted : extent st ≤ slots_for (most st)
  -- names from the left, the bytes of the slots from the right
  pub space : name_total (live st) + total st.heads ≤ room st
  pub entries : T (rows_ok (kind_at st) (length st.heads) (rows_of st))
  pub slots : (k : ℕ) → k < length st.heads → T (slot_ok st k)
  pub numbers : (n : ℕ) → n < file_numbers → T (number_ok st n)
  pub here : T (kept_ok st 0 (here_length st))
  pub umask : mask st < 2 ^ 32

-- each slice is at least as long as the limits ask
pub record Long (st : Store) : Type 0 where
  pub words : word_count ≤ length st.words
  pub records : most st ≤ length st.records
  pub heads : slots_for (most st) ≤ length st.heads
  pub times : 4 * slots_for (most st) ≤ length st.times
  pub paths : paths_bytes ≤ length st.paths
  pub bytes : room st ≤ length st.bytes

-- what slices of words, times and bytes hold, whatever they hold
pub record Sized (st : Store) : Type 0 where
  pub words : (i : ℕ) → get_or st.words i 0 < 2 ^ 64
  pub heads : (i : ℕ) → get_or st.heads i 0 < 2 ^ 64
  pub times : (i : ℕ) → T (time_ok (get_or st.times i (pos 0)))
  pub bytes : T (bytes_ok st.bytes)

-- the slices keep the rules
abbrev pub Keeps : Store → Type 0
Keeps st = Long st × Lawful (core st)

-- refusal 1 is not the answer: the slices keep the rules, and hold what slices hold
abbrev pub Passes : Store → Type 0
Passes st = Long st × Lawful (core st) × Sized (core st)
