-- What is read of a store, and which answer of the model it is. Each is said of every store that has the slices that are read.
-- Assumes nothing.
use Rattle.std.specs.Prelude.{cond, List, ◌≡◌, ℕ, suc, T, eqb, ℤ, get_or, Option, Some, None}
use Rattle.std.proofs.Math.Option.{none, some}
use Rattle.text.specs.Utf8.{Bytes}
use Rattle.path.specs.Path.{names, normal, body}
use Rattle.model.specs.Tree.{Path}
use Rattle.model.specs.Prog.{World, Kind, a_dir, aFile, a_link, Stat, Position, kind?, stat?, bytes?, target?, open?, held?, answer}
use Rattle.model.specs.Calls.States.{world_of}
use Rattle.layout.specs.declared.kind.Kind as entry
use Rattle.layout.specs.Fields.{len_of}
use Rattle.layout.specs.Kinds.{kind_from}
use Rattle.layout.specs.Store.{Store, holder, kept_length, cell, meta_at, kind_at, state}
use Rattle.layout.specs.Lawful.{cell_ok, Lawful}
use Rattle.ask_find.specs.declared.Spot.{Spot}
use Rattle.ask_find.specs.Spots.{At}
use Rattle.ask_entry.specs.declared.Stat as shown
use Rattle.ask_entry.specs.declared.Opened.{Opened}

-- the world that a store shows to questions
abbrev pub world_in : Store → World
world_in st = world_of (state st)

-- ---- metadata

-- the metadata of a struct
abbrev pub stat_from : shown.Stat → Stat
stat_from r =
    record { kind = kind_from r.kind; size = r.size; meta = record { mode = r.mode; accessed = r.accessed; changed = r.changed; created = r.created; modified = r.modified } }

-- it is the kind of the entry at the spot
abbrev pub TellsKind : List ℕ → List ℕ → Spot → entry.Kind → Type 0
TellsKind ws hs s r = (st : Store) → st.records ≡ ws → st.heads ≡ hs → Lawful st → (p : Path) → At st s p → answer (kind? p) (world_in st) ≡ some (kind_from r)

-- the struct has its metadata
abbrev pub TellsStat : List ℕ → List ℕ → List ℤ → Spot → shown.Stat → Type 0
TellsStat ws hs ts s r =
    (st : Store) → st.records ≡ ws → st.heads ≡ hs → st.times ≡ ts → Lawful st → (p : Path) → At st s p → answer (stat? p) (world_in st) ≡ some (stat_from r)

-- the kind of an entry whose slot has that kind
abbrev pub kind_by : ℕ → Kind
kind_by k = cond (eqb k 1) a_dir (cond (eqb k 2) aFile a_link)

-- what the metadata of an entry with the slot k shows
abbrev pub stat_at : Store → ℕ → Stat
stat_at st k = record { kind = kind_by (kind_at st k); size = cond (eqb (kind_at st k) 2) (len_of (get_or st.heads k 0)) 0; meta = meta_at st k }

-- ---- bytes

-- the slices are a lawful store's
pub record Stored (hs : List ℕ) (bs : Bytes) : Type 0 where
  pub store : Store
  pub heads : store.heads ≡ hs
  pub bytes : store.bytes ≡ bs
  pub lawful : Lawful store

-- the bytes are a file's contents, or a link's target, at the path
pub record Contents (w : World) (p : Path) (s : Bytes) : Type 0 where
  pub file : answer (kind? p) w ≡ some aFile → answer (bytes? p) w ≡ some s
  pub link : answer (kind? p) w ≡ some a_link → answer (target? p) w ≡ some s

-- they are those of the entry at the spot
abbrev pub TellsContents : List ℕ → List ℕ → Bytes → Spot → Bytes → Type 0
TellsContents ws hs bs s r = (st : Store) → st.records ≡ ws → st.heads ≡ hs → st.bytes ≡ bs → Lawful st → (p : Path) → At st s p → Contents (world_in st) p r

-- ---- kept paths

-- a text as a path is kept: normalised, a slash before each name
pub record PathIs (p : Path) (s : Bytes) : Type 0 where
  pub names : names s ≡ p
  pub normal : normal s ≡ p
  pub body : body p ≡ s
  pub kept : T (cell_ok s)

-- the text is the current directory's path
abbrev pub TellsHere : List ℕ → Bytes → Bytes → Type 0
TellsHere ws ps r = (st : Store) → st.words ≡ ws → st.paths ≡ ps → Lawful st → PathIs (state st).here r

-- ---- numbers

-- the path that a number keeps
abbrev pub kept_of : Store → ℕ → Path
kept_of st n = names (cell st (suc n) (kept_length st n))

-- a number is closed, or open on the slot and at the position
abbrev pub NumberIs : Store → ℕ → Option Opened → Type 0
NumberIs st n None = answer (open? n) (world_in st) ≡ none
NumberIs st n (Some o) = (holder st n ≡ suc o.slot) × (answer (open? n) (world_in st) ≡ some (record { pos = o.pos; kept = kept_of st n }))

-- the same by the words
abbrev pub TellsNumber : List ℕ → ℕ → Option Opened → Type 0
TellsNumber ws n r = (st : Store) → st.words ≡ ws → Lawful st → NumberIs st n r

-- the bytes of the file that a number stands on
abbrev pub TellsHeld : List ℕ → List ℕ → Bytes → ℕ → Bytes → Type 0
TellsHeld ws hs bs n r =
    (st : Store) → st.words ≡ ws → st.heads ≡ hs → st.bytes ≡ bs → Lawful st → (o : Position) → answer (open? n) (world_in st) ≡ some o → answer (held? n) (world_in st) ≡ some r

-- the text is the path that it keeps
abbrev pub TellsKept : List ℕ → Bytes → ℕ → Bytes → Type 0
TellsKept ws ps n r = (st : Store) → st.words ≡ ws → st.paths ≡ ps → Lawful st → (o : Position) → answer (open? n) (world_in st) ≡ some o → PathIs o.kept r
