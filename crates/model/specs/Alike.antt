-- What all stores of one state have in common ("To the testers": "the tree, open files, current directory, umask and limits read
-- back"): the number by which a file is known is the program's choice.
-- Assumes nothing.
use Rattle.std.specs.Prelude.{Bool, false, ◌≡◌, eqb}
use Rattle.std.proofs.Math.Option.{Option, none, some}
use Rattle.model.specs.Tree.{Path, Node, dir, file, link, look}
use Rattle.model.specs.Calls.{State}
use Rattle.model.specs.Fuller.{shown, SameOpen}

-- both are one file
abbrev pub same_file : Option Node → Option Node → Bool
same_file none o = false
same_file (some (dir m)) o = false
same_file (some (link m t)) o = false
same_file (some (file i)) none = false
same_file (some (file i)) (some (dir m)) = false
same_file (some (file i)) (some (link m t)) = false
same_file (some (file i)) (some (file j)) = eqb i j

-- two names of one file
unfoldable pub one_file : State → Path → Path → Bool
one_file s p q = same_file (look s.tree p) (look s.tree q)

-- two states that no call tells apart
pub record Alike (s u : State) : Type 0 where
  pub entries : (p : Path) → shown s p ≡ shown u p
  pub names : (p q : Path) → one_file s p q ≡ one_file u p q
  pub opens : SameOpen s u
  pub current : s.here ≡ u.here
  pub umask : s.mask ≡ u.mask
  pub entry_limit : s.most ≡ u.most
  pub byte_limit : s.room ≡ u.room
