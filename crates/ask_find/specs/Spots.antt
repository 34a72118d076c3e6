-- Entries of a store by value: the entry at a path, and the place of one that is missing.
-- Assumes nothing.
use Rattle.std.specs.Prelude.{Option, None, Some, Result, Ok, Err, List, [], ◌∷◌, ◌++◌, ◌≡◌, ℕ, suc, ◌+◌, ◌≤◌, ◌<◌, length, take, drop, get_or}
use Rattle.std.proofs.Math.Option.{none, some}
use Rattle.text.specs.Utf8.{Bytes}
use Rattle.path.specs.Path.{Name}
use Rattle.model.specs.Tree.{Path, Entries, look, behind, cut}
use Rattle.model.specs.Prog.{a_dir, kind?, answer}
use Rattle.model.specs.Calls.States.{world_of}
use Rattle.layout.specs.Numbers.{most_entries}
use Rattle.layout.specs.Fields.{depth_of}
use Rattle.layout.specs.Rows.{name_total}
use Rattle.layout.specs.Store.{Store, count, live, rows_of, kind_at, state}
use Rattle.layout.specs.Lawful.{Lawful}
use Rattle.layout.specs.Parts as parts
use Rattle.ask_find.specs.Paths.{path_at}
use Rattle.ask_find.specs.Spans.{span}
use Rattle.ask_find.specs.declared.Spot.{Spot}
use Rattle.ask_find.specs.declared.Gap.{Gap}

-- the spot is the entry at the path
pub record At (st : Store) (s : Spot) (p : Path) : Type 0 where
  pub within : s.at < count st
  pub offset : s.off ≡ name_total (take s.at st.records)
  pub path : path_at st s.at ≡ p

-- it is a directory
abbrev pub Directory : Store → Path → Type 0
Directory st p = answer (kind? p) (world_of (state st)) ≡ some a_dir

-- the words are those of a lawful store's records, the bytes are its own, and the spot is one of its entries
pub record Held (ws : List ℕ) (bs : Bytes) (s : Spot) : Type 0 where
  pub store : Store
  pub path : Path
  pub records : live store ≡ ws
  pub bytes : store.bytes ≡ bs
  pub lawful : Lawful store
  pub at : At store s path

-- ---- an entry that counts as not there

-- the record that does; where none is given, a number that no record has
abbrev pub hidden_at : Option ℕ → ℕ
hidden_at None = most_entries
hidden_at (Some h) = h

-- t is the tree where record h counts as not there, with all below it, and the path p does not lie there; a number that no record has
-- hides nothing
pub data Hides (st : Store) (h : ℕ) (p : Path) (t : Entries) : Type 0 where
  nothing : count st ≤ h → t ≡ (state st).tree → Hides st h p t
  entry : (q : Path) → h < count st → path_at st h ≡ q → behind q p ≡ none → t ≡ cut q (state st).tree → Hides st h p t

-- the spot is the entry at the path, and the tree t shows it
pub record Seen (st : Store) (h : ℕ) (t : Entries) (p : Path) (s : Spot) : Type 0 where
  pub at : At st s p
  pub hides : Hides st h p t
  pub same : look t p ≡ look (state st).tree p

-- ---- the place of a missing entry

-- the record behind all that lies below record i
abbrev pub block_end : Store → ℕ → ℕ
block_end st i = i + 1 + span (depth_of (get_or st.records i 0)) (drop (i + 1) (live st))

-- the entry x of the directory p may stand before record k, or in the place of record h with all below it
pub data Room (st : Store) (h : ℕ) (p : Path) (x : Name) (k : ℕ) : Type 0 where
  between : parts.Between (kind_at st) (take k (rows_of st)) (drop k (rows_of st)) p x → Room st h p x k
  instead : h < count st → k ≡ h → path_at st h ≡ p ++ (x ∷ []) → parts.Between (kind_at st) (take h (rows_of st)) (drop (block_end st h) (rows_of st)) p x → Room st h p x k

-- the gap is a place for the entry x of the directory p
pub record Vacant (st : Store) (h : ℕ) (p : Path) (x : Name) (g : Gap) : Type 0 where
  pub first : 0 < g.at
  pub last : g.at ≤ count st
  pub offset : g.off ≡ name_total (take g.at st.records)
  pub deep : g.depth ≡ suc (length p)
  pub room : Room st h p x g.at

-- ---- answers

-- what is said of the entry x of the directory p
abbrev pub Looks : Store → ℕ → Entries → Path → Name → Result Spot Gap → Type 0
Looks st h t p x (Ok s) = Seen st h t (p ++ (x ∷ [])) s
Looks st h t p x (Err g) = (look t (p ++ (x ∷ [])) ≡ none) × Vacant st h p x g

-- the entry x of the directory at the spot s, where record h counts as not there
abbrev pub ChildIs : List ℕ → Bytes → Spot → Name → ℕ → Result Spot Gap → Type 0
ChildIs ws bs s x h r =
    (st : Store) → live st ≡ ws → st.bytes ≡ bs → Lawful st → (p : Path) (t : Entries) → At st s p → Hides st h p t → Directory st p → Looks st h t p x r

-- what is said of the root
abbrev pub Rooted : Store → Result Spot Gap → Type 0
Rooted st (Ok s) = (h : ℕ) (t : Entries) → Hides st h [] t → Seen st h t [] s
Rooted st (Err g) = (look (state st).tree [] ≡ none) × (count st ≡ 0)

-- the root, which a fresh tree has not
abbrev pub RootIs : ℕ → Result Spot Gap → Type 0
RootIs n r = (st : Store) → count st ≡ n → Lawful st → Rooted st r
