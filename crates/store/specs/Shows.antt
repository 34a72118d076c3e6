-- A store in a call's hands, the states that it shows, and what a question about it tells. Its slices are as long as the limits ask,
-- with room for the words of all slots that they allow.
-- Assumes nothing.
use Rattle.std.specs.Prelude.{Result, Ok, Err, [], ◌∷◌, ◌++◌, ◌≡◌, ℕ, ◌≤◌, ◌<◌}
use Rattle.std.specs.Prelude as std
use Rattle.std.proofs.Math.Option.{none, some}
use Rattle.model.specs.Tree.{Path}
use Rattle.text.specs.Utf8.{Bytes}
use Rattle.path.specs.Path.{Name}
use Rattle.model.specs.Prog.{World, Kind, a_dir, Ask, kind?, target?, open?, held?, Answer, Position, answer, take, apply}
use Rattle.model.specs.Calls.States.{State, world_of}
use Rattle.model.specs.Shaped.{Shaped}
use Rattle.model.specs.Alike.{Alike}
use Rattle.layout.specs.Store.{Store, count, state}
use Rattle.layout.specs.Lent.{Lending}
use Rattle.edit_room.specs.Extents.{trim, Roomy}
use Rattle.ask_find.specs.declared.Spot.{Spot}
use Rattle.ask_find.specs.declared.Gap.{Gap}
use Rattle.ask_find.specs.Paths.{path_at}
use Rattle.ask_find.specs.Spots.{At, Vacant}
use Rattle.ask_entry.specs.Reads.{PathIs}

-- the store shows the state: what is read back from it is the state, file numbers apart
pub record Shows (st : Store) (s : State) : Type 0 where
  pub roomy : Roomy st
  pub shaped : Shaped s
  pub alike : Alike (state (trim st)) s

-- the spot is the entry at the path
abbrev pub Stands : Store → Spot → Path → Type 0
Stands st spot p = At (trim st) spot p

-- of every store that has the slices as they were lent, and of every state that it shows
abbrev pub Of : Lending → (Store → State → Type 0) → Type 0
Of l say = (st : Store) (s : State) → Shows (l.had st) s → say (l.had st) s

-- and of every path whose entry the spot is
abbrev pub OfEntry : Lending → Spot → (State → Path → Type 0) → Type 0
OfEntry l spot say = Of l (λ st s. (p : Path) → Stands st spot p → say s p)

-- some store that has the slices shows a state
abbrev pub Some : (Store → Store) → Type 0
Some has = (st : Store) × (s : State) × Shows (has st) s

-- and the spot is one of its entries
abbrev pub SomeEntry : (Store → Store) → Spot → Type 0
SomeEntry has spot = (st : Store) × (s : State) × (p : Path) × Shows (has st) s × Stands (has st) spot p

-- the model's answer in the state
abbrev pub says : (q : Ask) → State → Answer q
says q s = answer q (world_of s)

-- a number of that state is closed, or open at the position
abbrev pub NumberIs : State → ℕ → std.Option ℕ → Type 0
NumberIs s n std.None = says (open? n) s ≡ none
NumberIs s n (std.Some k) = (o : Position) × (says (open? n) s ≡ some o) × (o.pos ≡ k)

-- the bytes are those of the file that the open number stands on
abbrev pub HeldIs : State → ℕ → Bytes → Type 0
HeldIs s n r = (o : Position) → says (open? n) s ≡ some o → says (held? n) s ≡ some r

-- the text is the path that it keeps
abbrev pub KeptIs : State → ℕ → Bytes → Type 0
KeptIs s n r = (o : Position) → says (open? n) s ≡ some o → PathIs o.kept r

-- ---- looking for a name

-- The world that is asked: the state's, or, where the entry of record h counts as out, the one with that entry taken. A number that no
-- record has hides nothing.
pub data Asked (st : Store) (s : State) (h : ℕ) : World → Type 0 where
  whole : count st ≤ h → Asked st s h (world_of s)
  without : (q : Path) → h < count st → path_at (trim st) h ≡ q → Asked st s h (apply (take q) (world_of s))

-- the spot is the entry at the path, and the world shows of it what the state does
pub record There (st : Store) (s : State) (w : World) (p : Path) (spot : Spot) : Type 0 where
  pub at : Stands st spot p
  pub kind : answer (kind? p) w ≡ says (kind? p) s
  pub target : answer (target? p) w ≡ says (target? p) s

-- the entry x of the directory p is there, or it is not in the world, and the gap is a place for it
abbrev pub LookIs : Store → State → World → ℕ → Path → Name → Result Spot Gap → Type 0
LookIs st s w h p x (Ok spot) = There st s w (p ++ (x ∷ [])) spot
LookIs st s w h p x (Err gap) = (answer (kind? (p ++ (x ∷ []))) w ≡ none) × Vacant (trim st) h p x gap

-- the entry x of the directory at the spot
abbrev pub ChildIs : Lending → Spot → Name → ℕ → Result Spot Gap → Type 0
ChildIs l spot x h r =
    Of l (λ st s. (p : Path) (w : World) → Stands st spot p → Asked st s h w → answer (kind? p) w ≡ some a_dir → LookIs st s w h p x r)

-- the root, which is there; or it is not, and no entry is
abbrev pub RootIs : Store → State → Result Spot Gap → Type 0
RootIs st s (Ok spot) = Stands st spot [] × ((h : ℕ) (w : World) (k : Kind) → Asked st s h w → answer (kind? []) w ≡ some k → There st s w [] spot)
RootIs st s (Err gap) = (says (kind? []) s ≡ none) × (count st ≡ 0)
