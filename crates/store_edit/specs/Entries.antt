-- An entry that is put into the tree, taken out of it, or replaced by a link: what it asks of a store in a call's hands and of the states
-- that the store shows, and what is left.
-- Assumes nothing.
use Rattle.std.specs.Prelude.{[], ◌∷◌, ◌++◌, ◌≡◌, ℕ, length}
use Rattle.std.proofs.Math.Option.{none, some}
use Rattle.text.specs.Utf8.{Bytes}
use Rattle.path.specs.Path.{Name}
use Rattle.model.specs.Tree.{Path, Meta}
use Rattle.model.specs.Prog.{a_dir, kind?, Edit, make, symlink, remove}
use Rattle.model.specs.Calls.States.{State, edited}
use Rattle.layout.specs.Store.{Store}
use Rattle.ask_find.specs.declared.Spot.{Spot}
use Rattle.ask_find.specs.declared.Gap.{Gap}
use Rattle.ask_find.specs.Spots.{Vacant}
use Rattle.edit_room.specs.Extents.{trim}
use Rattle.store.specs.Shows.{Shows, Stands, says}
use Rattle.store_edit.specs.Turns.{Fits}

-- ---- an entry put in

-- the gap is a place for the entry x of the directory d, and the state has none of that name
pub record FreePlace (x : Name) (gap : Gap) (st : Store) (s : State) (d : Path) : Type 0 where
  pub hidden : ℕ
  pub vacant : Vacant (trim st) hidden d x gap
  pub missing : says (kind? (d ++ (x ∷ []))) s ≡ none

-- the edit makes that entry, and the state with it fits
pub record MayMake (x : Name) (gap : Gap) (e : Path → Edit) (st : Store) (s : State) (d : Path) : Type 0 where
  pub free : FreePlace x gap st s d
  pub fits : Fits (edited (e (d ++ (x ∷ []))) s)

-- what is left: the edited state, and the spot is the new entry
pub record Made (e : Edit) (p : Path) (u : Store) (s : State) (spot : Spot) : Type 0 where
  pub shows : Shows u (edited e s)
  pub stands : Stands u spot p

-- of every state, and of every directory for which the gap is a place of x
abbrev pub Makes : Name → Gap → (Path → Edit) → Spot → Store → Store → Type 0
Makes x gap e spot st u = (s : State) (d : Path) → Shows st s → MayMake x gap e st s d → Made (e (d ++ (x ∷ []))) (d ++ (x ∷ [])) u s spot

-- there is no root; a tree with it fits
pub record MayMakeRoot (m : Meta) (s : State) : Type 0 where
  pub missing : says (kind? []) s ≡ none
  pub fits : Fits (edited (make [] m) s)

-- the root is made
abbrev pub MakesRoot : Meta → Spot → Store → Store → Type 0
MakesRoot m spot st u = (s : State) → Shows st s → MayMakeRoot m s → Made (make [] m) [] u s spot

-- ---- an entry taken out

-- where the entry at the spot stood, at a path of n names
abbrev pub place_of : Spot → ℕ → Gap
place_of spot n = record { at = spot.at; off = spot.off; depth = n }

-- what is left: the edited state, and the entry's place is free
pub record RemoveLeft (spot : Spot) (d : Path) (x : Name) (u : Store) (s : State) : Type 0 where
  pub shows : Shows u (edited (remove (d ++ (x ∷ []))) s)
  pub free : FreePlace x (place_of spot (length (d ++ (x ∷ [])))) u (edited (remove (d ++ (x ∷ []))) s) d

-- the entry at the spot, which is not the root, goes with all below it
abbrev pub Removes : Spot → Store → Store → Type 0
Removes spot st u = (s : State) (d : Path) (x : Name) → Shows st s → Stands st spot (d ++ (x ∷ [])) → RemoveLeft spot d x u s

-- ---- a link in an entry's place

-- the entry is no directory, and the state with the link in its place fits
pub record MayReplace (m : Meta) (target : Bytes) (s : State) (p : Path) : Type 0 where
  pub not_dir : says (kind? p) s ≡ some a_dir → ⊥
  pub fits : Fits (edited (symlink p m target) s)

-- of every state, where the entry x may be replaced
abbrev pub Replaces : Spot → Name → Meta → Bytes → Spot → Store → Store → Type 0
Replaces spot x m target r st u =
    (s : State) (d : Path) → Shows st s → Stands st spot (d ++ (x ∷ [])) → MayReplace m target s (d ++ (x ∷ [])) → Made (symlink (d ++ (x ∷ [])) m target) (d ++ (x ∷ [])) u s r
