-- The entries of a store in the order of a walk, and the path of each (docs/LAYOUT.md, "Records").
-- Assumes nothing.
use Rattle.std.specs.Prelude.{List, [], ◌∷◌, ◌++◌, ℕ, zero, suc, ◌+◌, take, drop}
use Rattle.text.specs.Utf8.{Bytes}
use Rattle.path.specs.Path.{Name}
use Rattle.model.specs.Tree.{Path, Node, Entries}
use Rattle.layout.specs.Fields.{depth_of, nlen_of, slot_of}

-- an entry: the number of names in its path, its own name, its slot
pub record Row : Type 0 where
  pub depth : ℕ
  pub name : Name
  pub slot : ℕ

-- the bytes of the names
unfoldable pub name_total : List ℕ → ℕ
name_total [] = 0
name_total (w ∷ ws) = nlen_of w + name_total ws

-- the entries of the words: their names stand one behind the other
unfoldable pub rows : List ℕ → Bytes → List Row
rows [] bs = []
rows (w ∷ ws) bs = record { depth = depth_of w; name = take (nlen_of w) bs; slot = slot_of w } ∷ rows ws (drop (nlen_of w) bs)

-- as many names of the path before it as it has directories below the root, then its own
abbrev pub path_by : ℕ → Path → Name → Path
path_by zero p x = []
path_by (suc k) p x = take k p ++ (x ∷ [])

-- the path of an entry, by the path of the entry before it
abbrev pub path_of : Path → Row → Path
path_of p r = path_by r.depth p r.name

-- the entries with their paths, by the path of the entry before them and what each slot holds
unfoldable pub tree_from : (ℕ → Node) → Path → List Row → Entries
tree_from f p [] = []
tree_from f p (r ∷ rs) = (path_of p r, f r.slot) ∷ tree_from f (path_of p r) rs
