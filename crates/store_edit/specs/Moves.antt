-- What it asks to move an entry with all below it, or to put it below a new directory in its place, and what a store shows then.
-- Assumes nothing.
use Rattle.std.specs.Prelude.{[], ◌∷◌, ◌++◌, ◌≡◌}
use Rattle.std.proofs.Math.Option.{none}
use Rattle.path.specs.Path.{Name}
use Rattle.model.specs.Tree.{Path, behind}
use Rattle.model.specs.Calls.States.{State, moved, nested}
use Rattle.layout.specs.Store.{Store}
use Rattle.slots.specs.Free.{HasFree}
use Rattle.edit_entry.specs.declared.made.Fresh.{Fresh}
use Rattle.edit_entry.specs.Made.{fresh_meta}
use Rattle.edit_room.specs.Extents.{trim}
use Rattle.ask_find.specs.declared.Spot.{Spot}
use Rattle.ask_find.specs.declared.Gap.{Gap}
use Rattle.ask_find.specs.Spots.{Vacant}
use Rattle.store.specs.Shows.{Shows, Stands}
use Rattle.store_edit.specs.Turns.{Fits, SomeState, Below}

-- ---- an entry moved

-- the directory d is not the entry nor below it, the gap is a place in it for y with the entry counted as out, and the state fits then
pub record MayMove (spot : Spot) (gap : Gap) (y : Name) (st : Store) (s : State) (p d : Path) : Type 0 where
  pub outside : behind p d ≡ none
  pub vacant : Vacant (trim st) spot.at d y gap
  pub fits : Fits (moved p (d ++ (y ∷ [])) s)

-- some store that has the slices shows a state of which that holds
abbrev pub SomeMove : (Store → Store) → Spot → Gap → Name → Type 0
SomeMove has spot gap y = SomeState has (λ st s. (p : Path) × (d : Path) × Stands st spot p × MayMove spot gap y st s p d)

-- of every state, path and directory of which that holds: the entry is there under the name y
abbrev pub Moves : Spot → Gap → Name → Store → Store → Type 0
Moves spot gap y st u =
    (s : State) (p d : Path) → Shows st s → Stands st spot p → MayMove spot gap y st s p d → Shows u (moved p (d ++ (y ∷ [])) s)

-- ---- an entry below a new directory

-- the entry is not the root, and the state fits with a new directory in its place and the entry x in that
pub record MayNestAt (x : Name) (new : Fresh) (s : State) (p : Path) : Type 0 where
  pub below : Below s p
  pub fits : Fits (nested p x (fresh_meta new) s)

-- what is left, and the spot of the entry at its new place
pub record NestLeft (x : Name) (new : Fresh) (r : Spot) (u : Store) (s : State) (p : Path) : Type 0 where
  pub shows : Shows u (nested p x (fresh_meta new) s)
  pub at : Stands u r (p ++ (x ∷ []))

-- of every state, and of the path of the entry
abbrev pub Nests : Spot → Name → Fresh → Spot → Store → Store → Type 0
Nests spot x new r st u = (s : State) (p : Path) → Shows st s → Stands st spot p → MayNestAt x new s p → NestLeft x new r u s p

-- the same of a store that has a free slot
abbrev pub NestsFree : Spot → Name → Fresh → Spot → Store → Store → Type 0
NestsFree spot x new r st u = HasFree (trim st).heads → Nests spot x new r st u

-- some such store that has the slices shows a state, and the entry at the spot may be put below a new directory
abbrev pub SomeFree : (Store → Store) → Spot → Name → Fresh → Type 0
SomeFree has spot x new = SomeState has (λ st s. (p : Path) × Stands st spot p × MayNestAt x new s p × HasFree (trim st).heads)
