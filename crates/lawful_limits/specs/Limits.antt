-- The limits of a store and the lengths that they ask, on the slices (docs/LAYOUT.md, "Rules", 1 and 2).
-- Assumes nothing.
use Rattle.std.specs.Prelude.{Bool, ◌&&◌, List, ℕ, ◌+◌, ◌*◌, ◌^◌, ◌≤◌, ◌<◌, leb, length, get_or}
use Rattle.layout.specs.Numbers.{most_entries, least_bytes, most_bytes, file_numbers, word_count, most_at, room_at, count_at, mask_at, extent_at, paths_bytes}
use Rattle.layout.specs.Store.{Store, slots_for}

-- the entry limit, the byte limit, the number of entries, the umask and the number of slots are in range
pub record Limits (ws : List ℕ) : Type 0 where
  pub words : word_count ≤ length ws
  pub entry_limit : (1 ≤ get_or ws most_at 0) × (get_or ws most_at 0 ≤ most_entries)
  pub byte_limit : (least_bytes ≤ get_or ws room_at 0) × (get_or ws room_at 0 ≤ most_bytes)
  pub counted : get_or ws count_at 0 ≤ get_or ws most_at 0
  pub umask : get_or ws mask_at 0 < 2 ^ 32
  pub slotted : get_or ws extent_at 0 ≤ get_or ws most_at 0 + file_numbers

-- slices of those lengths hold the records, the slots' words and times and the cells of an entry limit
abbrev pub fits : ℕ → (rs hs ts ps : ℕ) → Bool
fits m rs hs ts ps = leb m rs && (leb (slots_for m) hs && (leb (4 * slots_for m) ts && leb paths_bytes ps))

-- the slices of a store do
abbrev pub lengths_fit : Store → ℕ → Bool
lengths_fit st m = fits m (length st.records) (length st.heads) (length st.times) (length st.paths)

-- the lengths of the other slices are what the limits ask, or more
pub record Lengths (ws : List ℕ) (rs hs ts ps bs : ℕ) : Type 0 where
  pub records : get_or ws most_at 0 ≤ rs
  pub heads : get_or ws most_at 0 + file_numbers ≤ hs
  pub times : 4 * (get_or ws most_at 0 + file_numbers) ≤ ts
  pub paths : paths_bytes ≤ ps
  pub bytes : get_or ws room_at 0 ≤ bs
