-- What the lookups through links answer of a path in a store, and which run of the model it is (01, "Lookups"). The path stands in the
-- front of a working buffer, and so does the path that a lookup comes to.
-- Assumes nothing.
use Rattle.std.specs.Prelude.{List, ◌++◌, ◌≡◌, ℕ, ◌≤◌, length, take, drop, Result, Ok, Err}
use Rattle.std.proofs.Math.Option.{none, some}
use Rattle.text.specs.Utf8.{Bytes}
use Rattle.path.specs.Path.{names}
use Rattle.path.specs.Answer.{Formed}
use Rattle.model.specs.Refusals.{path_too_long}
use Rattle.model.specs.Tree.{Path}
use Rattle.model.specs.Prog.{World, kind?, answer, Out, done, refused, run}
use Rattle.model.specs.Lookup.{behind_link, no_follow, most_links, following}
use Rattle.model.specs.Lookup as model
use Rattle.model.specs.Calls.States.{State}
use Rattle.layout.specs.Kinds.{kind_from}
use Rattle.layout.specs.Store.{Store}
use Rattle.layout.specs.Lent.{Lending}
use Rattle.refusal.specs.declared.Refusal.{Refusal}
use Rattle.refusal.specs.Numbers.{number_of}
use Rattle.ask_find.specs.declared.Spot.{Spot}
use Rattle.store.specs.Shows.{Shows, Asked, There, Of}
use Rattle.walk.specs.declared.There as led
use Rattle.walk.specs.declared.lookup.Walked.{Walked}
use Rattle.walk.specs.declared.lookup.Absent.{Absent}
use Rattle.walk.specs.Meets.{Plain, LinkAt, FirstMissing, end_of, EndPlaced}

-- ---- behind a link

-- the run that each answer stands for: the path that now stands in front, or 6
abbrev pub behind : World → Bytes → Formed → Out Path
behind w out (Ok n) = done (names (take n out)) w
behind w out (Err e) = refused path_too_long

-- the front of the buffer is a path
abbrev pub Kept : Bytes → Formed → Type 0
Kept out (Ok n) = (n ≤ 1024) × Plain (take n out)
Kept out (Err e) = Unit {0}

-- the path behind the link to which the first e bytes of the text lead
pub record Follows (w : World) (text : Bytes) (e : ℕ) (out : Bytes) (r : Formed) : Type 0 where
  pub answer : run (behind_link (names (take e text)) (names (drop e text))) w ≡ behind w out r
  pub kept : Kept out r

-- of every world that a store with the slices shows, in which the spot is that link
abbrev pub FollowsIn : Lending → Bytes → Spot → ℕ → ℕ → Bytes → Formed → Type 0
FollowsIn l text spot d e out r = Of l (λ st s. (h : ℕ) (w : World) → Asked st s h w → LinkAt st s w text spot d e → Follows w text e out r)

-- some store that has the slices shows a world in which the spot is a link
abbrev pub SomeLink : (Store → Store) → Bytes → Spot → ℕ → ℕ → Type 0
SomeLink has text spot d e = (st : Store) × (s : State) × (h : ℕ) × (w : World) × Shows (has st) s × Asked (has st) s h w × LinkAt (has st) s w text spot d e

-- ---- links before the last name

-- the run that each answer stands for, with the links that were followed
abbrev pub ends_by : World → List Path → Bytes → Result Walked Refusal → Out model.Walked
ends_by w ls out (Ok r) = done (record { end = end_of (take r.len out) r.end; links = ls }) w
ends_by w ls out (Err e) = refused (number_of e)

-- the front of the buffer is the path that the lookup came to, and so many links were followed
pub record InFront (ls : List Path) (out : Bytes) (n c : ℕ) : Type 0 where
  pub counted : length ls ≡ c
  pub fits : n ≤ 1024
  pub plain : Plain (take n out)

-- what the numbers of an answer are
abbrev pub WalkPlaced : Store → State → World → ℕ → List Path → Bytes → Result Walked Refusal → Type 0
WalkPlaced st s w h ls out (Ok r) = InFront ls out r.len r.links × (r.links ≤ 40) × EndPlaced st s w h (take r.len out) r.end
WalkPlaced st s w h ls out (Err e) = Unit {0}

-- "how many links it followed": the answer's count is the number of links that the model's walk lists
pub record Walks (st : Store) (s : State) (w : World) (h : ℕ) (text out : Bytes) (r : Result Walked Refusal) : Type 0 where
  pub links : List Path
  pub answer : (ls : List Path) → run (no_follow most_links (names text) ls) w ≡ ends_by w (ls ++ links) out r
  pub place : WalkPlaced st s w h links out r

-- of every world that a store with the slices shows
abbrev pub WalksIn : Lending → Bytes → ℕ → Bytes → Result Walked Refusal → Type 0
WalksIn l text h out r = Of l (λ st s. (w : World) → Asked st s h w → Walks st s w h text out r)

-- ---- all links

-- an entry that is there, or one that is not
abbrev pub Looked : Type 0
Looked = Result led.There Absent

-- the run that each answer stands for
abbrev pub reaches : World → List Path → Bytes → Result Looked Refusal → Out model.Where
reaches w ls out (Ok (Ok t)) = done (record { path = names (take t.len out); kind = some (kind_from t.kind); links = ls }) w
reaches w ls out (Ok (Err a)) = done (record { path = names (take a.len out); kind = none; links = ls }) w
reaches w ls out (Err r) = refused (number_of r)

-- the path in front of the buffer is that of an entry, and its spot and its kind are told
abbrev pub EntryPlaced : Store → State → World → List Path → Bytes → led.There → Type 0
EntryPlaced st s w ls out t =
    InFront ls out t.len t.links × There st s w (names (take t.len out)) t.spot × (answer (kind? (names (take t.len out))) w ≡ some (kind_from t.kind))

-- what the numbers of an answer are
abbrev pub LookPlaced : Store → State → World → ℕ → List Path → Bytes → Result Looked Refusal → Type 0
LookPlaced st s w h ls out (Ok (Ok t)) = EntryPlaced st s w ls out t
LookPlaced st s w h ls out (Ok (Err a)) = InFront ls out a.len a.links × FirstMissing st h w (take a.len out) a.gap a.upto
LookPlaced st s w h ls out (Err r) = Unit {0}

-- the lookup of the path in the text, with a bound on last links
pub record Looks (st : Store) (s : State) (w : World) (h bound : ℕ) (text out : Bytes) (r : Result Looked Refusal) : Type 0 where
  pub links : List Path
  pub answer : (ls : List Path) → run (following bound (names text) ls) w ≡ reaches w (ls ++ links) out r
  pub place : LookPlaced st s w h links out r

-- of every world that a store with the slices shows
abbrev pub LooksIn : Lending → Bytes → ℕ → ℕ → Bytes → Result Looked Refusal → Type 0
LooksIn l text h bound out r = Of l (λ st s. (w : World) → Asked st s h w → Looks st s w h bound text out r)
