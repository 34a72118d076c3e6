-- What of the rules two alike states need so that no call tells them apart: every state that obeys the rules has it, and so has each
-- that a call makes on its way, before 15 and 16 are asked.
-- Assumes nothing.
use Rattle.std.specs.Prelude.{◌||◌, ◌≡◌, ℕ, T}
use Rattle.std.proofs.Math.Option.{some}
use Rattle.model.specs.Tree.{Path, File, file, Files, Open, look, file_of, open_of}
use Rattle.model.specs.Calls.{State, is_named, is_held}
use Rattle.model.specs.Rules.{Once, new_path, new_file, new_number}

-- there is a file of that number
abbrev pub HasFile : Files → ℕ → Type 0
HasFile fs i = (f : File) × (file_of fs i ≡ some f)

-- each path, file and number stands once; a file has one name, or a number; names and numbers have their files
pub record Shaped (s : State) : Type 0 where
  pub paths : Once new_path s.tree
  pub nodes : (p : Path) (i : ℕ) → look s.tree p ≡ some (file i) → HasFile s.files i
  pub one_name : (p q : Path) (i : ℕ) → look s.tree p ≡ some (file i) → look s.tree q ≡ some (file i) → p ≡ q
  pub files : Once new_file s.files
  pub used : (i : ℕ) (f : File) → file_of s.files i ≡ some f → T (is_named s.tree i || is_held s.opens i)
  pub numbers : Once new_number s.opens
  pub stands : (n : ℕ) (o : Open) → open_of s.opens n ≡ some o → HasFile s.files o.id
