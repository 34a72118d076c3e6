-- Entries of a walk in two parts, and the place for a new one.
-- Assumes nothing.
use Rattle.std.specs.Prelude.{Bool, false, List, [], ◌∷◌, ◌++◌, ◌≡◌, ℕ, suc, ◌+◌, ◌-◌, ◌≤◌, ◌<◌, T, eqb, length, take}
use Rattle.path.specs.Path.{Name}
use Rattle.model.specs.Tree.{Path}
use Rattle.layout.specs.Rows.{Row, path_of}
use Rattle.layout.specs.Lawful.{follows}

-- the path of the last entry, or the one before them all
unfoldable pub path_after : Path → List Row → Path
path_after p [] = p
path_after p (r ∷ rs) = path_after (path_of p r) rs

-- whether the last entry is a directory
unfoldable pub dir_after : (ℕ → ℕ) → Bool → List Row → Bool
dir_after kind d [] = d
dir_after kind d (r ∷ rs) = dir_after kind (eqb (kind r.slot) 1) rs

-- entries that may stand behind an entry of that path in which nothing stands
abbrev pub Behind : Path → List Row → Type 0
Behind q [] = Unit {0}
Behind q (r ∷ rs) = T (follows q false r.depth r.name)

-- a new entry x of the directory q may stand between two parts of a walk
pub record Between (kind : ℕ → ℕ) (a b : List Row) (q : Path) (x : Name) : Type 0 where
  pub within : take (length q) (path_after [] a) ≡ q
  pub follows : T (follows (path_after [] a) (dir_after kind false a) (suc (length q)) x)
  pub behind : Behind (q ++ (x ∷ [])) b

-- entries that all lie below one of that depth
unfoldable pub Deeper : ℕ → List Row → Type 0
Deeper d [] = Unit {0}
Deeper d (r ∷ rs) = (d < r.depth) × Deeper d rs

-- the first of them does not
abbrev pub NotDeeper : ℕ → List Row → Type 0
NotDeeper d [] = Unit {0}
NotDeeper d (r ∷ rs) = r.depth ≤ d

-- entries below a path of u names, put below one of v names
unfoldable pub deepen : ℕ → ℕ → List Row → List Row
deepen u v [] = []
deepen u v (r ∷ rs) = record { depth = r.depth + v - u; name = r.name; slot = r.slot } ∷ deepen u v rs
