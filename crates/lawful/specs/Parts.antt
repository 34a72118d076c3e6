-- The rules of a store, part by part, as the code tests them: on the slices, and not on the store that they are.
-- Assumes nothing.
use Rattle.std.specs.Prelude.{Bool, true, ◌&&◌, ◌||◌, cond, List, [], ℕ, suc, ◌+◌, ◌*◌, ◌≤◌, ◌<◌, T, eqb, leb, length, take, drop, get_or}
use Rattle.text.specs.Utf8.{Bytes, text}
use Rattle.path.specs.Path.{Name}
use Rattle.model.specs.Rules.{target_ok}
use Rattle.layout.specs.Numbers.{file_numbers, here_at, holder_at, kept_at, cell_bytes}
use Rattle.layout.specs.Fields.{kind_of}
use Rattle.layout.specs.Rows.{rows, name_total}
use Rattle.layout.specs.Slots.{total, split, contents}
use Rattle.layout.specs.Lawful.{rows_ok, slot_by, cell_ok}
use Rattle.slots.specs.Uses.{uses_in, stands_from}
use Rattle.lawful_entries.specs.Fits.{kind_in, form_ok}

-- ---- kept paths

-- a name, apart from slashes
abbrev pub piece_ok : Name → Bool
piece_ok n = form_ok n && (leb (length n) 255 && text n)

-- the path in a cell
abbrev pub kept_in : Bytes → ℕ → ℕ → Bool
kept_in paths i n = leb n cell_bytes && cell_ok (take n (drop (cell_bytes * i) paths))

-- a file number, where there are n slots
abbrev pub number_in : List ℕ → Bytes → ℕ → ℕ → Bool
number_in words paths n j = eqb (get_or words (holder_at j) 0) 0 || (leb (get_or words (holder_at j) 0) n && kept_in paths (suc j) (get_or words (kept_at j) 0))

-- every file number and the current directory
pub record Kept (words : List ℕ) (paths : Bytes) (n : ℕ) : Type 0 where
  pub numbers : (j : ℕ) → j < file_numbers → T (number_in words paths n j)
  pub here : T (kept_in paths 0 (get_or words here_at 0))

-- ---- slots

-- the bytes of a link are a target
abbrev pub link_by : ℕ → Bytes → Bool
link_by kind s = cond (eqb kind 3) (target_ok s) true

-- the bytes of every link, where those of the slots stand one behind the other
abbrev pub LinksRight : List ℕ → Bytes → Type 0
LinksRight heads s = (k : ℕ) → k < length heads → T (link_by (kind_of (get_or heads k 0)) (get_or (split heads s) k []))

-- every slot
abbrev pub SlotsHeld : List ℕ → List ℕ → List ℕ → Bytes → Type 0
SlotsHeld words recs heads bs =
    (k : ℕ) → k < length heads → T (slot_by (kind_of (get_or heads k 0)) (get_or heads k 0) (uses_in k recs) (stands_from words file_numbers 0 k) (get_or (contents heads bs) k []))

-- ---- all

-- what is asked of slices that are as long as the limits ask
pub record Parts (words recs heads : List ℕ) (paths bs : Bytes) : Type 0 where
  pub space : name_total recs + total heads ≤ length bs
  pub entries : T (rows_ok (kind_in heads) (length heads) (rows recs bs))
  pub kept : Kept words paths (length heads)
  pub slots : SlotsHeld words recs heads bs
