-- What is there at a path, the directory that it leads to, and the entry of its last name; and which run of the model each is.
-- Assumes nothing.
use Rattle.std.specs.Prelude.{List, [], ◌∷◌, ◌++◌, ◌≡◌, ℕ, take, Result, Ok, Err}
use Rattle.std.proofs.Math.Option.{none, some}
use Rattle.text.specs.Utf8.{Bytes}
use Rattle.path.specs.Path.{Name, names}
use Rattle.model.specs.Tree.{Path}
use Rattle.model.specs.Prog.{World, a_dir, kind?, answer, Prog, Out, done, refused, run}
use Rattle.model.specs.Lookup.{Where}
use Rattle.model.specs.Operations.Steps as model
use Rattle.model.specs.Calls.States.{State}
use Rattle.layout.specs.Kinds.{kind_from}
use Rattle.layout.specs.Store.{Store}
use Rattle.layout.specs.Lent.{Lending}
use Rattle.edit_room.specs.Extents.{trim}
use Rattle.refusal.specs.declared.Refusal.{Refusal}
use Rattle.refusal.specs.Numbers.{number_of}
use Rattle.ask_find.specs.Spots.{Vacant}
use Rattle.store.specs.Shows.{Asked, There, Of}
use Rattle.walk.specs.declared.There as led
use Rattle.walk.specs.declared.leads.Unmade.{Unmade}
use Rattle.walk.specs.Lookups.{InFront, EntryPlaced}

-- the run that each answer stands for
abbrev pub leads_to : World → List Path → Bytes → Result led.There Refusal → Out model.There
leads_to w ls out (Ok t) = done (record { path = names (take t.len out); kind = kind_from t.kind; links = ls }) w
leads_to w ls out (Err r) = refused (number_of r)

-- what the numbers of an answer are
abbrev pub LedPlaced : Store → State → World → List Path → Bytes → Result led.There Refusal → Type 0
LedPlaced st s w ls out (Ok t) = EntryPlaced st s w ls out t
LedPlaced st s w ls out (Err r) = Unit {0}

-- one of the model's steps from a path to what is there, at the path in the text
pub record Leads (step : Path → Prog model.There) (st : Store) (s : State) (w : World) (text out : Bytes) (r : Result led.There Refusal) : Type 0 where
  pub links : List Path
  pub answer : run (step (names text)) w ≡ leads_to w links out r
  pub place : LedPlaced st s w links out r

-- of every world that a store with the slices shows, the entry of record h being out
abbrev pub LeadsIn : Lending → (Path → Prog model.There) → Bytes → ℕ → Bytes → Result led.There Refusal → Type 0
LeadsIn l step text h out r = Of l (λ st s. (w : World) → Asked st s h w → Leads step st s w text out r)

-- ---- the entry of a last name

-- an entry that is there, or the place of one that is not
abbrev pub Last : Type 0
Last = Result led.There Unmade

-- the run that each answer stands for, where the last name is x
abbrev pub last_at : World → List Path → Bytes → Name → Result Last Refusal → Out Where
last_at w ls out x (Ok (Ok t)) = done (record { path = names (take t.len out) ++ (x ∷ []); kind = some (kind_from t.kind); links = ls }) w
last_at w ls out x (Ok (Err a)) = done (record { path = names (take a.len out) ++ (x ∷ []); kind = none; links = ls }) w
last_at w ls out x (Err r) = refused (number_of r)

-- the front of the buffer is the path of a directory
pub record DirInFront (w : World) (ls : List Path) (out : Bytes) (n c : ℕ) : Type 0 where
  pub front : InFront ls out n c
  pub dir : answer (kind? (names (take n out))) w ≡ some a_dir

-- what the numbers of an answer are
abbrev pub LastPlaced : Store → State → World → ℕ → List Path → Bytes → Name → Result Last Refusal → Type 0
LastPlaced st s w h ls out x (Ok (Ok t)) =
    DirInFront w ls out t.len t.links × There st s w (names (take t.len out) ++ (x ∷ [])) t.spot
    × (answer (kind? (names (take t.len out) ++ (x ∷ []))) w ≡ some (kind_from t.kind))
LastPlaced st s w h ls out x (Ok (Err a)) =
    DirInFront w ls out a.len a.links × (answer (kind? (names (take a.len out) ++ (x ∷ []))) w ≡ none) × Vacant (trim st) h (names (take a.len out)) x a.gap
LastPlaced st s w h ls out x (Err r) = Unit {0}

-- the entry x of the directory to which the path in the text leads
pub record LastIs (st : Store) (s : State) (w : World) (h bound : ℕ) (text : Bytes) (x : Name) (out : Bytes) (r : Result Last Refusal) : Type 0 where
  pub links : List Path
  pub answer : run (model.last_entry bound (names text ++ (x ∷ []))) w ≡ last_at w links out x r
  pub place : LastPlaced st s w h links out x r

-- of every world that a store with the slices shows, the entry of record h being out
abbrev pub LastIn : Lending → Bytes → Name → ℕ → ℕ → Bytes → Result Last Refusal → Type 0
LastIn l text x h bound out r = Of l (λ st s. (w : World) → Asked st s h w → LastIs st s w h bound text x out r)
