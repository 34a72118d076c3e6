-- What the bytes of names are tested for, apart from the order and the depth of the entries.
-- Assumes nothing.
use Rattle.std.specs.Prelude.{Bool, true, ◌&&◌, List, [], ◌∷◌, ℕ, eqb, leb, length}
use Rattle.text.specs.Utf8.{text}
use Rattle.path.specs.Path.{Name, no_slash}
use Rattle.layout.specs.Rows.{Row}

-- a slash
abbrev pub slash : ℕ → Bool
slash b = eqb b 47

-- no slash, at most 255 bytes, valid text
abbrev pub clean_name : Name → Bool
clean_name n = no_slash n && (leb (length n) 255 && text n)

-- the same of the name of each entry
unfoldable pub clean_rows : List Row → Bool
clean_rows [] = true
clean_rows (r ∷ rs) = clean_name r.name && clean_rows rs

-- the name of each entry is valid text
unfoldable pub text_rows : List Row → Bool
text_rows [] = true
text_rows (r ∷ rs) = text r.name && text_rows rs
