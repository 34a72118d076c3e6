-- What an edit makes of a store in a call's hands: of every state that the store showed, it shows the edited one. Where an edit makes
-- the state larger, the edited state is to fit its limits.
-- Assumes nothing.
use Rattle.std.specs.Prelude.{[], ◌≡◌, ℕ, ◌≤◌}
use Rattle.std.proofs.Math.Option.{none, some}
use Rattle.text.specs.Utf8.{Bytes}
use Rattle.path.specs.Path.{names}
use Rattle.model.specs.Tree.{Path, Time, write, resize}
use Rattle.model.specs.Prog.{aFile, Position, kind?, open?, held?, Edit, change, opens, change_held}
use Rattle.model.specs.Operations.Numbers.{resized}
use Rattle.model.specs.Calls.States.{State, entries_used, bytes_used, edited}
use Rattle.layout.specs.Store.{Store}
use Rattle.ask_find.specs.declared.Spot.{Spot}
use Rattle.store.specs.Shows.{Shows, Stands, says}

-- the state is within its limits: neither 15 nor 16 is the answer
abbrev pub Fits : State → Type 0
Fits s = (entries_used s ≤ s.most) × (bytes_used s ≤ s.room)

-- some store that has the slices shows a state, and what is asked of the two holds
abbrev pub SomeState : (Store → Store) → (Store → State → Type 0) → Type 0
SomeState has asks = (st : Store) × (s : State) × Shows (has st) s × asks (has st) s

-- the same with the path of the entry at the spot
abbrev pub SomeSpot : (Store → Store) → Spot → (State → Path → Type 0) → Type 0
SomeSpot has spot asks = SomeState has (λ st s. (p : Path) × Stands st spot p × asks s p)

-- ---- edits of the state

-- of every state that the store showed
abbrev pub Turns : Edit → Store → Store → Type 0
Turns e st u = (s : State) → Shows st s → Shows u (edited e s)

-- ---- edits of the entry at a spot

-- of every state, and of the path of the entry
abbrev pub TurnsAt : Spot → (Path → Edit) → Store → Store → Type 0
TurnsAt spot e st u = (s : State) (p : Path) → Shows st s → Stands st spot p → Shows u (edited (e p) s)

-- the entry is a file, and the state fits with those bytes in it
pub record MayWrite (contents : Bytes) (t : Time) (s : State) (p : Path) : Type 0 where
  pub is_file : says (kind? p) s ≡ some aFile
  pub fits : Fits (edited (change p (write contents t)) s)

-- what is left of a file that is written: every spot stands as it stood
pub record WriteLeft (contents : Bytes) (t : Time) (st u : Store) (s : State) (p : Path) : Type 0 where
  pub shows : Shows u (edited (change p (write contents t)) s)
  pub spots : (spot : Spot) (q : Path) → Stands st spot q → Stands u spot q

-- of every state, where the entry may be written
abbrev pub Writes : Spot → Bytes → Time → Store → Store → Type 0
Writes spot contents t st u = (s : State) (p : Path) → Shows st s → Stands st spot p → MayWrite contents t s p → WriteLeft contents t st u s p

-- the entry is not the root
abbrev pub Below : State → Path → Type 0
Below s p = p ≡ [] → ⊥

-- ---- edits by file number

-- the number is open
abbrev pub NumberOpen : ℕ → State → Type 0
NumberOpen n s = (o : Position) × (says (open? n) s ≡ some o)

-- of every state in which it is
abbrev pub TurnsHeld : ℕ → Edit → Store → Store → Type 0
TurnsHeld n e st u = (s : State) → Shows st s → NumberOpen n s → Shows u (edited e s)

-- the number is closed, and the entry is a file whose path the text is
pub record MayOpenOn (n : ℕ) (text : Bytes) (s : State) (p : Path) : Type 0 where
  pub closed : says (open? n) s ≡ none
  pub is_file : says (kind? p) s ≡ some aFile
  pub kept : names text ≡ p

-- the number is opened on the entry at the spot
abbrev pub Opens : Spot → ℕ → ℕ → Bytes → Store → Store → Type 0
Opens spot n k text st u = (s : State) (p : Path) → Shows st s → Stands st spot p → MayOpenOn n text s p → Shows u (edited (opens n p k) s)

-- its file has those bytes, and with so many the state fits
pub record MayResize (n size : ℕ) (contents : Bytes) (s : State) : Type 0 where
  pub has : says (held? n) s ≡ some contents
  pub fits : Fits (edited (change_held n (resize (resized size contents))) s)

-- its file is cut, or extended by zeros
abbrev pub Resizes : ℕ → ℕ → Store → Store → Type 0
Resizes n size st u =
    (s : State) (contents : Bytes) → Shows st s → MayResize n size contents s → Shows u (edited (change_held n (resize (resized size contents))) s)
