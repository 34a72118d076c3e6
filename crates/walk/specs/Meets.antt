-- What a walk to the first link or the end answers of a path in a store, and which run of the model it is (01, "Lookups").
-- Assumes nothing.
use mathlib.Core.List.{[], ◌∷◌, ◌++◌, drop_last}
use Rattle.std.proofs.Math.Option.{none, some}
use Rattle.std.specs.Prelude.{◌≡◌, ℕ, ◌≤◌, length, take, drop, Result, Ok, Err}
use Rattle.text.specs.Utf8.{Bytes}
use Rattle.path.specs.Path.{Name, names, body}
use Rattle.model.specs.Tree.{Path}
use Rattle.model.specs.Prog.{World, a_dir, a_link, kind?, answer, Out, done, refused, run}
use Rattle.model.specs.Lookup.{found, missing, last_link, ends, mid_link, until_symlink}
use Rattle.model.specs.Lookup as model
use Rattle.model.specs.Calls.States.{State}
use Rattle.layout.specs.Kinds.{kind_from}
use Rattle.layout.specs.Store.{Store, count}
use Rattle.layout.specs.Lent.{Lending}
use Rattle.edit_room.specs.Extents.{trim}
use Rattle.ask_find.specs.declared.Gap.{Gap}
use Rattle.ask_find.specs.declared.Spot.{Spot}
use Rattle.ask_find.specs.Spots.{Vacant}
use Rattle.refusal.specs.declared.Refusal.{Refusal}
use Rattle.refusal.specs.Numbers.{number_of}
use Rattle.store.specs.Shows.{Asked, There, Of}
use Rattle.walk.specs.declared.End.{End}
use Rattle.walk.specs.declared.End.TheVariants.{Found, Missing, LastLink}
use Rattle.walk.specs.declared.Met.{Met}
use Rattle.walk.specs.declared.Met.TheVariants.{Ends, MidLink}

-- a text as a path stands in a working buffer: a slash before each name, nothing for the root
abbrev pub Plain : Bytes → Type 0
Plain s = body (names s) ≡ s

-- such a path stands in front of a working buffer
pub record PathIn (out : Bytes) (len : ℕ) : Type 0 where
  pub few : len ≤ 1024
  pub room : 1024 ≤ length out
  pub plain : Plain (take len out)

-- what each end stands for, where the path is the text
abbrev pub end_of : Bytes → End → model.End
end_of text (Found spot k) = found (names text) (kind_from k)
end_of text (Missing gap e) = missing (names text)
end_of text (LastLink spot d) = last_link (names text)

-- what each place stands for that the walk came to
abbrev pub met_of : Bytes → Met → model.Met
met_of text (Ends e) = ends (end_of text e)
met_of text (MidLink l) = mid_link (names (take l.rest text)) (names (drop l.rest text))

-- the run of the model that each answer stands for
abbrev pub means : World → Bytes → Result Met Refusal → Out model.Met
means w text (Ok m) = done (met_of text m) w
means w text (Err r) = refused (number_of r)

-- the first e bytes of the text lead to the link at the spot, and the first d to its directory
pub record LinkAt (st : Store) (s : State) (w : World) (text : Bytes) (spot : Spot) (d e : ℕ) : Type 0 where
  pub there : There st s w (names (take e text)) spot
  pub link : answer (kind? (names (take e text))) w ≡ some a_link
  pub up : d ≤ e
  pub fits : e ≤ length text
  pub dir : take d text ≡ body (drop_last (names (take e text)))
  pub rest : drop e text ≡ body (names (drop e text))

-- the first missing name: the root, or the entry x of the directory to which the first e bytes lead, for which the gap is a place
pub data FirstMissing (st : Store) (h : ℕ) (w : World) (text : Bytes) (gap : Gap) (e : ℕ) : Type 0 where
  the_root : e ≡ 0 → count st ≡ 0 → answer (kind? []) w ≡ none → FirstMissing st h w text gap e
  a_name : (d : Path) (x : Name) (r : Path) → names text ≡ d ++ (x ∷ r) → take e text ≡ body d → answer (kind? d) w ≡ some a_dir → answer (kind? (d ++ (x ∷ []))) w ≡ none
      → Vacant (trim st) h d x gap → FirstMissing st h w text gap e

-- what the numbers of an end are
abbrev pub EndPlaced : Store → State → World → ℕ → Bytes → End → Type 0
EndPlaced st s w h text (Found spot k) = There st s w (names text) spot × (answer (kind? (names text)) w ≡ some (kind_from k))
EndPlaced st s w h text (Missing gap e) = FirstMissing st h w text gap e
EndPlaced st s w h text (LastLink spot d) = LinkAt st s w text spot d (length text)

-- what the numbers of an answer are
abbrev pub Placed : Store → State → World → ℕ → Bytes → Result Met Refusal → Type 0
Placed st s w h text (Ok (Ends e)) = EndPlaced st s w h text e
Placed st s w h text (Ok (MidLink l)) = LinkAt st s w text l.spot l.dir l.rest
Placed st s w h text (Err r) = Unit {0}

-- the walk of the path in the text, in a world that a store shows
pub record Meets (st : Store) (s : State) (w : World) (h : ℕ) (text : Bytes) (r : Result Met Refusal) : Type 0 where
  pub answer : run (until_symlink [] (names text)) w ≡ means w text r
  pub place : Placed st s w h text r

-- of every store that has the slices, and of every world that it shows, the entry of record h being out
abbrev pub MeetsIn : Lending → Bytes → ℕ → Result Met Refusal → Type 0
MeetsIn l text h r = Of l (λ st s. (w : World) → Asked st s h w → Meets st s w h text r)
