-- The entries of a directory among those behind it, what a listing shows of them, and what the functions tell of the model's listing.
-- Assumes nothing.
use Rattle.std.specs.Prelude.{Bool, cond, Option, Some, None, List, [], ◌∷◌, ◌++◌, ◌≡◌, ℕ, suc, ◌+◌, ◌≤◌, leb, eqb, length, take, drop}
use Rattle.std.proofs.Math.Option.{some}
use Rattle.text.specs.Utf8.{Bytes}
use Rattle.path.specs.Path.{Name}
use Rattle.model.specs.Tree.{Path, Node, keep_if}
use Rattle.model.specs.Prog.{World, Stat, stat_of, child, listing, bare?, stat?, answer}
use Rattle.model.specs.Operations.Shows.{names_text}
use Rattle.model.specs.Calls.States.{world_of}
use Rattle.layout.specs.Rows.{Row}
use Rattle.layout.specs.Store.{Store, live, rows_of, node_at, state}
use Rattle.layout.specs.Lawful.{Lawful}
use Rattle.ask_find.specs.declared.Spot.{Spot}
use Rattle.ask_find.specs.Paths.{path_at}
use Rattle.ask_find.specs.Spots.{At, Held}

-- the listing of the directory at record i
abbrev pub listing_at : Store → ℕ → List (Name × Stat)
listing_at st i = listing (world_of (state st)) (path_at st i)

-- the entries of a directory of depth d among those that stand behind it: the first that is not deeper ends them, and what is deeper
-- than an entry of the directory is passed
unfoldable pub entries_in : ℕ → List Row → List Row
entries_in d [] = []
entries_in d (r ∷ rs) = cond (leb r.depth d) [] (keep_if (eqb r.depth (suc d)) r (entries_in d rs))

-- the name of each with its metadata
unfoldable pub shown : World → (ℕ → Node) → List Row → List (Name × Stat)
shown world f [] = []
shown world f (r ∷ rs) = child (r.name ∷ []) (stat_of world (f r.slot)) (shown world f rs)

-- the names alone, each ended by a zero byte
unfoldable pub row_names : List Row → Bytes
row_names [] = []
row_names (r ∷ rs) = r.name ++ (0 ∷ row_names rs)

-- a text in front of another, the rest of which stays
abbrev pub in_front : Bytes → Bytes → Bytes
in_front s out = s ++ drop (length s) out

-- a name and a zero byte from index k on
abbrev pub named : Bytes → ℕ → Name → Bytes
named out k x = take k out ++ x ++ (0 ∷ drop (k + length x + 1) out)

-- what is shown of a directory of depth d from record j on
abbrev pub listed_from : Store → ℕ → ℕ → List (Name × Stat)
listed_from st d j = shown (world_of (state st)) (node_at st) (entries_in d (drop j (rows_of st)))

-- ---- what the functions tell

-- the words are those of a lawful store's records, and the spot is one of its entries
abbrev pub Placed : List ℕ → Spot → Type 0
Placed ws s = (bs : Bytes) × Held ws bs s

-- said of every lawful store that has the records, the spot being the entry at the path
abbrev pub Told : List ℕ → Spot → (Store → Path → Type 0) → Type 0
Told ws s say = (st : Store) → live st ≡ ws → Lawful st → (p : Path) → At st s p → say st p

-- the model's listing of the directory at a path
abbrev pub listing_of : Store → Path → List (Name × Stat)
listing_of st p = listing (world_of (state st)) p

-- whether it shows nothing
abbrev pub TellsBare : List ℕ → Spot → Bool → Type 0
TellsBare ws s r = Told ws s (λ st p. r ≡ answer (bare? p) (world_of (state st)))

-- how many entries it shows
abbrev pub TellsCount : List ℕ → Spot → ℕ → Type 0
TellsCount ws s r = Told ws s (λ st p. r ≡ length (listing_of st p))

-- how long the text of its names is
abbrev pub TellsLength : List ℕ → Spot → ℕ → Type 0
TellsLength ws s r = Told ws s (λ st p. r ≡ length (names_text (listing_of st p)))

-- there is room for that text
pub record Roomy (ws : List ℕ) (bs : Bytes) (s : Spot) (out : Bytes) : Type 0 where
  pub held : Held ws bs s
  pub fits : length (names_text (listing_of held.store held.path)) ≤ length out

-- the text stands in front
abbrev pub TellsNames : List ℕ → Bytes → Spot → Bytes → Bytes → Type 0
TellsNames ws bs s old new =
    Told ws s (λ st p. st.bytes ≡ bs → new ≡ in_front (names_text (listing_of st p)) old)

-- ---- entry by entry

-- what a listing of the directory p shows behind the entry at the spot
abbrev pub behind_in : Store → Path → Spot → List (Name × Stat)
behind_in st p s = listed_from st (length p) (s.at + 1)

-- the spot is the first that a listing shows, and then what stands behind it
pub record Leads (st : Store) (p : Path) (s : Spot) (l : List (Name × Stat)) : Type 0 where
  pub name : Name
  pub stat : Stat
  pub list : l ≡ (name, stat) ∷ behind_in st p s
  pub at : At st s (p ++ (name ∷ []))
  pub told : answer (stat? (p ++ (name ∷ []))) (world_of (state st)) ≡ some stat

-- the first of a listing, or that there is none
abbrev pub Rest : Store → Path → List (Name × Stat) → Option Spot → Type 0
Rest st p l (Some s) = Leads st p s l
Rest st p l None = l ≡ []

-- the first entry of the directory at the spot
abbrev pub FirstIs : List ℕ → Spot → Option Spot → Type 0
FirstIs ws s r = Told ws s (λ st p. Rest st p (listing_of st p) r)

-- the entry behind the one at the spot, in its directory
abbrev pub NextIs : List ℕ → Spot → Option Spot → Type 0
NextIs ws s r = Told ws s (λ st o. (p : Path) (x : Name) → o ≡ p ++ (x ∷ []) → Rest st p (behind_in st p s) r)
