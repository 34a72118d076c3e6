-- A store with one entry more, as its slices show it.
-- Assumes nothing.
use Rattle.std.specs.Prelude.{List, [], ◌∷◌, ◌++◌, ◌≡◌, ℕ, suc, ◌+◌, ◌*◌, ◌≤◌, ◌<◌, pos, length, get_or, set}
use Rattle.text.specs.Utf8.{Bytes}
use Rattle.path.specs.Path.{Name}
use Rattle.model.specs.Tree.{Path, Time, Meta}
use Rattle.layout.specs.Fields.{len_of}
use Rattle.layout.specs.Rows.{Row, name_total}
use Rattle.layout.specs.Slots.{total, contents}
use Rattle.layout.specs.Store.{Store, most, room, count, live, rows_of}

-- two stores whose state's words differ in the number of entries alone
pub record Recounted (st st' : Store) (c : ℕ) : Type 0 where
  pub words : st'.words ≡ set st.words 2 c
  pub paths : st'.paths ≡ st.paths
  pub slots : length st'.heads ≡ length st.heads

-- the row of a new entry x of the directory q
abbrev pub new_row : Path → Name → ℕ → Row
new_row q x s = record { depth = suc (length q); name = x; slot = s }

-- the metadata of a new entry: one time for all four
abbrev pub new_meta : ℕ → Time → Meta
new_meta m t = record { mode = m; accessed = t; changed = t; created = t; modified = t }

-- the times of slot s, and those of the others
pub record Timed (st st' : Store) (s : ℕ) (t : Time) : Type 0 where
  pub long : length st'.times ≡ length st.times
  pub here : (i : ℕ) → i < 4 → get_or st'.times (4 * s + i) (pos 0) ≡ t
  pub other : (k i : ℕ) → i < 4 → (k ≡ s → ⊥) → get_or st'.times (4 * k + i) (pos 0) ≡ get_or st.times (4 * k + i) (pos 0)

-- A row more between the entries a and b, in a slot that was free, whose word is now h and whose bytes are c.
pub record Grown (st st' : Store) (a b : List Row) (row : Row) (h : ℕ) (c : Bytes) (t : Time) : Type 0 where
  pub counted : Recounted st st' (suc (count st))
  pub old : rows_of st ≡ a ++ b
  pub new : rows_of st' ≡ a ++ (row ∷ b)
  pub low : row.slot < length st.heads
  pub free : get_or st.heads row.slot 0 ≡ 0
  pub heads : st'.heads ≡ set st.heads row.slot h
  pub texts : contents st'.heads st'.bytes ≡ set (contents st.heads st.bytes) row.slot c
  pub size : len_of h ≡ length c
  pub times : Timed st st' row.slot t
  pub records : length st'.records ≡ length st.records
  pub bytes : length st'.bytes ≡ length st.bytes
  pub names : name_total (live st') ≡ name_total (live st) + length row.name
  pub fits : name_total (live st) + length row.name + total st.heads + length c ≤ room st
  pub more : count st < most st

-- the root's row
abbrev pub root_row : ℕ → Row
root_row s = record { depth = 0; name = []; slot = s }
