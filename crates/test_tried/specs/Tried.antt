-- What the tests say: lengths of slices that no limit cuts, a place for an entry, and room for another name.
-- Assumes nothing.
use Rattle.std.specs.Prelude.{[], ◌∷◌, ◌++◌, ◌≡◌, ℕ, ◌+◌, ◌*◌, ◌≤◌, ◌<◌, length, get_or}
use Rattle.text.specs.Utf8.{Bytes}
use Rattle.path.specs.Path.{Name, pieces}
use Rattle.layout.specs.Fields.{nlen_of}
use Rattle.layout.specs.Rows.{name_total}
use Rattle.layout.specs.Slots.{total}
use Rattle.layout.specs.Store.{Store, most, room, count, live}
use Rattle.ask_find.specs.Paths.{path_at}
use Rattle.layout.specs.Kinds.{code_of}
use Rattle.edit_entry.specs.declared.made.Made.{Made}
use Rattle.edit_entry.specs.Made.{kind_made, bytes_made}
use Rattle.edit_entry.specs.Insertion.{Insertable, Vacancy}

-- the lengths of the slices are what the limits ask
pub record Whole (st : Store) : Type 0 where
  pub words : length st.words ≡ 102
  pub records : length st.records ≡ most st
  pub heads : length st.heads ≡ most st + 32
  pub times : length st.times ≡ 4 * (most st + 32)
  pub paths : length st.paths ≡ 33792
  pub bytes : length st.bytes ≡ room st

-- n more bytes are within the byte limit where `free` bytes go
abbrev pub Fits : Store → ℕ → ℕ → Type 0
Fits st free n = name_total (live st) + total st.heads + n ≤ room st + free

-- the place before record k is the place of the entry x of the directory at record i, which has none of that name
pub record Spotted (st : Store) (i k depth : ℕ) (x : Name) : Type 0 where
  pub after : i < k
  pub vacant : Vacancy st k depth (path_at st i) x

-- there is an entry of that kind, as a number, with those bytes, and the limits allow it under the name x
pub record InsertableAs (st : Store) (x : Name) (kind : ℕ) (bytes : Bytes) : Type 0 where
  pub made : Made
  pub of_kind : code_of (kind_made made) ≡ kind
  pub with_bytes : bytes_made made ≡ bytes
  pub allowed : Insertable st x made

-- record i is there and not the root's, and the byte limit leaves room for a name of n bytes in place of its own
pub record Renamable (st : Store) (i n : ℕ) : Type 0 where
  pub first : 0 < i
  pub last : i < count st
  pub fits : name_total (live st) + n + total st.heads ≤ room st + nlen_of (get_or st.records i 0)

-- record i is that of the entry x of the directory at record dir
pub record ChildOf (st : Store) (dir : ℕ) (x : Name) (i : ℕ) : Type 0 where
  pub inside : dir < count st
  pub within : i < count st
  pub path : path_at st i ≡ path_at st dir ++ (x ∷ [])

-- the path, with the empty piece in front of its first slash, leads to record i
pub record LedTo (st : Store) (s : Bytes) (i : ℕ) : Type 0 where
  pub within : i < count st
  pub path : pieces s ≡ [] ∷ path_at st i
