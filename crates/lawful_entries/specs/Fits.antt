-- What the entries are tested for, apart from the bytes of their names; the path of an entry as the walk keeps it.
-- Assumes nothing.
use Rattle.std.specs.Prelude.{Bool, true, ◌&&◌, not, List, [], ◌∷◌, ℕ, ◌+◌, ◌/◌, ◌%◌, ◌≤◌, eqb, ltb, take, drop, get_or, map}
use Rattle.std.specs.List.{All}
use Rattle.text.specs.Utf8.{Bytes}
use Rattle.path.specs.Path.{Name, vanishes, is_up}
use Rattle.model.specs.Tree.{Path}
use Rattle.layout.specs.Numbers.{name_lengths}
use Rattle.layout.specs.Fields.{depth_of, nlen_of, slot_of, kind_of}
use Rattle.layout.specs.Rows.{Row, path_of}
use Rattle.layout.specs.Lawful.{follows, root_ok}
use Rattle.lawful_entries.specs.declared.span.Span.{Span}

-- the kind of a slot
abbrev pub kind_in : List ℕ → ℕ → ℕ
kind_in heads k = kind_of (get_or heads k 0)

-- neither empty, `.` nor `..`
abbrev pub form_ok : Name → Bool
form_ok n = not (vanishes n) && not (is_up n)

-- an entry behind one of that path, which is or is not a directory
abbrev pub entry_fits : ℕ → Path → Bool → Row → Bool
entry_fits n p d r = ltb r.slot n && (form_ok r.name && follows p d r.depth r.name)

-- the entries behind one of that path
unfoldable pub walk_fits : (ℕ → ℕ) → ℕ → Path → Bool → List Row → Bool
walk_fits kind n p d [] = true
walk_fits kind n p d (r ∷ rs) = entry_fits n p d r && walk_fits kind n (path_of p r) (eqb (kind r.slot) 1) rs

-- all entries
unfoldable pub rows_fit : (ℕ → ℕ) → ℕ → List Row → Bool
rows_fit kind n [] = true
rows_fit kind n (r ∷ rs) = root_ok kind n r && walk_fits kind n [] true rs

-- the entry of a record whose name stands at `off`
abbrev pub row_at : Bytes → ℕ → ℕ → Row
row_at bs w off = record { depth = depth_of w; name = take (nlen_of w) (drop off bs); slot = slot_of w }

-- the name that stands there
abbrev pub name_at : Bytes → Span → Name
name_at bs v = take (v.0 % name_lengths) (drop (v.0 / name_lengths) bs)

-- it stands within n bytes
abbrev pub Within : ℕ → Span → Type 0
Within n v = v.0 / name_lengths + v.0 % name_lengths ≤ n

-- the path whose names stand there
abbrev pub spell : Bytes → List Span → Path
spell bs vs = map (name_at bs) vs

-- they stand within n bytes
abbrev pub Spelt : ℕ → List Span → Type 0
Spelt n vs = All (Within n) vs
