-- The listing of a directory in the model's words: entry by entry, how many they are, and their names.
-- Assumes nothing.
use Rattle.std.specs.Prelude.{Option, Some, None, List, [], ◌∷◌, ◌++◌, ◌≡◌, ◌≤◌, length}
use Rattle.std.proofs.Math.Option.{some}
use Rattle.text.specs.Utf8.{Bytes}
use Rattle.path.specs.Path.{Name}
use Rattle.model.specs.Tree.{Path}
use Rattle.model.specs.Prog.{Stat, stat?, list?}
use Rattle.model.specs.Operations.Shows.{names_text}
use Rattle.model.specs.Calls.States.{State}
use Rattle.model.specs.Buffers.{in_front}
use Rattle.layout.specs.Store.{Store}
use Rattle.layout.specs.Lent.{Lending}
use Rattle.edit_room.specs.Extents.{trim}
use Rattle.ask_find.specs.declared.Spot.{Spot}
use Rattle.ask_list.specs.Listed.{behind_in}
use Rattle.store.specs.Shows.{Shows, Stands, Of, says}

-- the listing of the directory at the path
abbrev pub listed : State → Path → List (Name × Stat)
listed s p = says (list? p) s

-- ---- entry by entry

-- what a listing of the directory p shows behind the entry at the spot: one list for all states that the store shows
abbrev pub rest : Store → Path → Spot → List (Name × Stat)
rest st p spot = behind_in (trim st) p spot

-- some entries of the directory p begin with the one at the spot, and the rest behind it follows
pub record Begins (st : Store) (s : State) (p : Path) (l : List (Name × Stat)) (spot : Spot) : Type 0 where
  pub name : Name
  pub stat : Stat
  pub list : l ≡ (name, stat) ∷ rest st p spot
  pub at : Stands st spot (p ++ (name ∷ []))
  pub told : says (stat? (p ++ (name ∷ []))) s ≡ some stat

-- the first of some entries of the directory p, or that there is none
abbrev pub StepIs : Store → State → Path → List (Name × Stat) → Option Spot → Type 0
StepIs st s p l (Some spot) = Begins st s p l spot
StepIs st s p l None = l ≡ []

-- the first entry of the directory at the spot
abbrev pub FirstIs : Lending → Spot → Option Spot → Type 0
FirstIs l spot r = Of l (λ st s. (p : Path) → Stands st spot p → StepIs st s p (listed s p) r)

-- the entry behind the one at the spot, in the same directory
abbrev pub NextIs : Lending → Spot → Option Spot → Type 0
NextIs l spot r = Of l (λ st s. (p : Path) (x : Name) → Stands st spot (p ++ (x ∷ [])) → StepIs st s p (rest st p spot) r)

-- ---- the names

-- the names of the entries, each with a zero byte behind it
abbrev pub names_of : State → Path → Bytes
names_of s p = names_text (listed s p)

-- some store that has the slices shows a state, the spot is one of its entries, and the names of what it lists fit
abbrev pub SomeFitting : (Store → Store) → Spot → Bytes → Type 0
SomeFitting has spot out = (st : Store) × (s : State) × (p : Path) × Shows (has st) s × Stands (has st) spot p × (length (names_of s p) ≤ length out)

-- they stand in front, the rest of the buffer as it was
abbrev pub NamesPut : State → Path → (old new : Bytes) → Type 0
NamesPut s p old new = new ≡ in_front (names_of s p) old
