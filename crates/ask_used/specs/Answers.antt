-- What is told of the model's sums. Each is said of every lawful store that has the slices that are read.
-- Assumes nothing.
use Rattle.std.specs.Prelude.{Bool, cond, List, [], ◌≡◌, ℕ, length}
use Rattle.std.proofs.Math.Option.{some}
use Rattle.text.specs.Utf8.{Bytes}
use Rattle.model.specs.Tree.{Path, Meta, File, Node, file, link, look, file_of, name_length, links_in}
use Rattle.model.specs.Calls.States.{bytes_used, is_held}
use Rattle.model.specs.Space.{freed_by}
use Rattle.layout.specs.Numbers.{file_numbers}
use Rattle.layout.specs.Store.{Store, lent, live, state}
use Rattle.layout.specs.Lawful.{held_from, Lawful}
use Rattle.ask_find.specs.declared.Spot.{Spot}
use Rattle.ask_find.specs.Spots.{At}
use Rattle.ask_used.specs.declared.Weight.{Weight}

-- the slices are a lawful store's
pub record Counted (ws rs hs : List ℕ) : Type 0 where
  pub store : Store
  pub words : store.words ≡ ws
  pub records : store.records ≡ rs
  pub heads : store.heads ≡ hs
  pub lawful : Lawful store

-- the same of the records that there are
pub record Linked (rs hs : List ℕ) : Type 0 where
  pub store : Store
  pub records : live store ≡ rs
  pub heads : store.heads ≡ hs
  pub lawful : Lawful store

-- bytes used
abbrev pub TellsUsed : List ℕ → List ℕ → List ℕ → ℕ → Type 0
TellsUsed ws rs hs r = (st : Store) → st.words ≡ ws → st.records ≡ rs → st.heads ≡ hs → Lawful st → r ≡ bytes_used (state st)

-- the number of links
abbrev pub TellsLinks : List ℕ → List ℕ → ℕ → Type 0
TellsLinks rs hs r = (st : Store) → live st ≡ rs → st.heads ≡ hs → Lawful st → r ≡ links_in (state st).tree

-- ---- what an entry takes up

-- the slices are a lawful store's, and the spot is one of its entries
pub record Weighed (ws rs hs : List ℕ) (s : Spot) : Type 0 where
  pub counted : Counted ws rs hs
  pub path : Path
  pub at : At counted.store s path

-- a file number stands on slot k
abbrev pub held_in : List ℕ → ℕ → Bool
held_in ws k = held_from (lent ws [] [] [] [] []) file_numbers 0 k

-- its name's length, its contents' or target's, whether a number is open on it, and so the bytes that leave the tree with its node
pub record WeightIs (st : Store) (p : Path) (r : Weight) : Type 0 where
  pub name : r.name ≡ name_length p
  pub contents : (i : ℕ) (f : File) → look (state st).tree p ≡ some (file i) → file_of (state st).files i ≡ some f → r.size ≡ length f.bytes
  pub target : (m : Meta) (t : Bytes) → look (state st).tree p ≡ some (link m t) → r.size ≡ length t
  pub held : (i : ℕ) → look (state st).tree p ≡ some (file i) → r.held ≡ is_held (state st).opens i
  pub freed : (n : Node) → look (state st).tree p ≡ some n → cond r.held 0 r.size ≡ freed_by (state st).files (state st).opens n

-- the entry at the spot
abbrev pub TellsWeight : List ℕ → List ℕ → List ℕ → Spot → Weight → Type 0
TellsWeight ws rs hs s r = (st : Store) → st.words ≡ ws → st.records ≡ rs → st.heads ≡ hs → Lawful st → (p : Path) → At st s p → WeightIs st p r
