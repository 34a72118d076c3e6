-- The state that a call finds and leaves.
-- Assumes nothing.
use Rattle.std.specs.Prelude.{Bool, false, ◌||◌, List, [], ◌∷◌, ◌++◌, ℕ, ◌+◌, eqb, length}
use Rattle.path.specs.Path.{Name}
use Rattle.model.specs.Tree.{Path, Meta, dir, file, link, Entries, Files, Open, keep_if, names_and_targets, contents_length}
use Rattle.model.specs.Prog.{World, Edit, make, take, give, apply}

-- tree, files, open numbers, current directory, umask, entry limit, byte limit
pub record State : Type 0 where
  pub tree : Entries
  pub files : Files
  pub opens : List Open
  pub here : Path
  pub mask : ℕ
  pub most : ℕ
  pub room : ℕ

-- set up: "A fresh tree has no root", current directory `/`, the umask "at first 666" in octal
abbrev pub fresh_state : (most room : ℕ) → State
fresh_state most room = record { tree = []; files = []; opens = []; here = []; mask = 0o666; most = most; room = room }

-- every entry of the tree
abbrev pub entries_used : State → ℕ
entries_used s = length s.tree

-- "Bytes used are names, targets and contents in the tree, plus contents of removed files still open"
abbrev pub bytes_used : State → ℕ
bytes_used s = names_and_targets s.tree + contents_length s.files

-- ---- what a call leaves

-- an entry of the tree names the file
unfoldable pub is_named : Entries → (id : ℕ) → Bool
is_named [] i = false
is_named ((p, dir m) ∷ t) i = is_named t i
is_named ((p, file j) ∷ t) i = eqb j i || is_named t i
is_named ((p, link m s) ∷ t) i = is_named t i

-- a number is open on the file
unfoldable pub is_held : List Open → (id : ℕ) → Bool
is_held [] i = false
is_held (o ∷ os) i = eqb o.id i || is_held os i

-- "A removed or replaced file keeps its bytes until the last number on it is closed"
unfoldable pub kept_files : Entries → List Open → Files → Files
kept_files t os [] = []
kept_files t os (f ∷ fs) = keep_if (is_named t f.0 || is_held os f.0) f (kept_files t os fs)

-- the state as a call finds it, with nothing in hand
abbrev pub world_of : State → World
world_of s = record { at = s.tree; hand = []; files = s.files; opens = s.opens; here = s.here; mask = s.mask }

-- the state that a call leaves, with the limits as they were
abbrev pub state_of : State → World → State
state_of s w =
    record { tree = w.at; files = kept_files w.at w.opens w.files; opens = w.opens; here = w.here; mask = w.mask; most = s.most; room = s.room }

-- the state after one edit
abbrev pub edited : Edit → State → State
edited e s = state_of s (apply e (world_of s))

-- the state after an entry was taken out and put down at another path
abbrev pub moved : (old new : Path) → State → State
moved p q s = state_of s (apply (give q) (apply (take p) (world_of s)))

-- the state after an entry was taken out, a directory made in its place, and the entry put down in that under the name x
abbrev pub nested : (old : Path) → Name → Meta → State → State
nested p x m s = state_of s (apply (give (p ++ (x ∷ []))) (apply (make p m) (apply (take p) (world_of s))))
