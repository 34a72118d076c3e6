-- "The fuller tree" (01): what two stores are to one another, and which calls demand 3 leaves out.
-- Assumes nothing.
use Rattle.std.specs.Prelude.{Bool, true, false, ◌&&◌, ◌||◌, not, List, [], ◌∷◌, ◌++◌, ◌⊎◌, ◌≡◌, ℕ, zero, suc, ◌-◌, ◌≤◌, eqb}
use Rattle.std.proofs.Math.Option.{Option, none, some}
use Rattle.text.specs.Utf8.{Bytes}
use Rattle.path.specs.Path.{Name}
use Rattle.model.specs.Refusals.{no_entries, no_bytes}
use Rattle.model.specs.Tree.{Path, Meta, File, Node, dir, file, link, Open, look, file_of, open_of, links_in}
use Rattle.model.specs.Prog.{World, Stat, Position, Ask, kind?, stat?, bytes?, target?, list?, bare?, open?, held?, here?, mask?, answer, on_some, listing, apply, Prog, ret, stop, ask, edit}
use Rattle.model.specs.Operations.{is_some}
use Rattle.model.specs.Calls.{State, Call, entries_used, bytes_used, is_named, given_to, screen, program, world_of, Result, accepted, refusal, perform}

-- ---- what two states are to one another

-- an entry as it is seen: "kind, metadata, bytes and target"
pub data Shown : Type 0 where
  shown_dir : Meta → Shown
  shown_file : Meta → Bytes → Shown
  shown_link : Meta → Bytes → Shown

-- a node as it is seen: its file's number is not
unfoldable pub shown_node : State → Node → Option Shown
shown_node s (dir m) = some (shown_dir m)
shown_node s (file i) = on_some (file_of s.files i) (λ f. some (shown_file f.meta f.bytes))
shown_node s (link m g) = some (shown_link m g)

-- what stands at a path, as it is seen
unfoldable pub shown : State → Path → Option Shown
shown s p = on_some (look s.tree p) (shown_node s)

-- "each entry of the first, the root too, stands there at the same path, alike in kind, metadata, bytes and target"
abbrev pub HasEverything : State → State → Type 0
HasEverything s u = (p : Path) (e : Shown) → shown s p ≡ some e → shown u p ≡ some e

-- "Free space is limit less use, for entries and for bytes"
abbrev pub free_entries : State → ℕ
free_entries s = s.most - entries_used s

-- and for bytes
abbrev pub free_bytes : State → ℕ
free_bytes s = s.room - bytes_used s

-- position and kept path of a number, if it is open
unfoldable pub position_of : State → ℕ → Option Position
position_of s n = answer (open? n) (world_of s)

-- the number is open "on the file at" the path
pub record StandsAt (s : State) (n : ℕ) (p : Path) : Type 0 where
  pub held : Open
  pub is_open : open_of s.opens n ≡ some held
  pub is_there : look s.tree p ≡ some (file held.id)

-- the number is open "on a removed one", with this file
pub record StandsRemoved (s : State) (n : ℕ) (f : File) : Type 0 where
  pub held : Open
  pub is_open : open_of s.opens n ≡ some held
  pub no_name : is_named s.tree held.id ≡ false
  pub is_file : file_of s.files held.id ≡ some f

-- two numbers are open on one file
abbrev pub same_id : Option Open → Option Open → Bool
same_id none o = false
same_id (some a) none = false
same_id (some a) (some b) = eqb a.id b.id

-- "the same numbers share one"
unfoldable pub share : State → ℕ → ℕ → Bool
share s n m = same_id (open_of s.opens n) (open_of s.opens m)

-- "Two runs have the same open files exactly where each number is open in both or in neither, and an open one stands at the same
-- position with the same path kept, on the file at one path, the kept one or another, in both trees, or in both on a removed one,
-- alike in bytes and metadata, and the same numbers share one"
pub record SameOpen (s u : State) : Type 0 where
  pub position : (n : ℕ) → position_of s n ≡ position_of u n
  pub on_file : (n : ℕ) (o : Open) → open_of s.opens n ≡ some o
      → ((p : Path) × StandsAt s n p × StandsAt u n p) ⊎ ((f : File) × StandsRemoved s n f × StandsRemoved u n f)
  pub sharing : (n m : ℕ) → share s n m ≡ share u n m

-- "the same current directory, umask and open files, the second with everything in the first tree, perhaps more, and no less
-- free space"
pub record Fuller (s u : State) : Type 0 where
  pub current : s.here ≡ u.here
  pub umask : s.mask ≡ u.mask
  pub opens : SameOpen s u
  pub everything : HasEverything s u
  pub entries : free_entries s ≤ free_entries u
  pub bytes : free_bytes s ≤ free_bytes u

-- ---- the calls that are left out

-- "A call misses a name where it looks for it in a directory, or for the root, and the first run has none; the second has it
-- there if its directory of that path then does"
unfoldable pub misses : World → World → Path → Bool
misses w v p = not (is_some (look w.at p)) && is_some (look v.at p)

-- one of the names shown is none of the first's
unfoldable pub lacks_one : World → Path → List (Name × Stat) → Bool
lacks_one w p [] = false
lacks_one w p (e ∷ l) = not (is_some (look w.at (p ++ (e.0 ∷ [])))) || lacks_one w p l

-- "The second has more in a directory if it has a name there that the first lacks"
unfoldable pub has_more : World → World → Path → Bool
has_more w v p = lacks_one w p (listing v p)

-- a question that misses a name, lists or tests for emptiness
unfoldable pub excepts_ask : Ask → World → World → Bool
excepts_ask (kind? p) w v = misses w v p
excepts_ask (stat? p) w v = misses w v p
excepts_ask (bytes? p) w v = misses w v p
excepts_ask (target? p) w v = misses w v p
excepts_ask (list? p) w v = has_more w v p
excepts_ask (bare? p) w v = has_more w v p
excepts_ask (open? n) w v = false
excepts_ask (held? n) w v = false
excepts_ask here? w v = false
excepts_ask mask? w v = false

-- the questions of a program, as the first run goes, on both trees as they then are: whether one of them is left out
unfoldable pub excepts : {A : Type 0} → Prog A → World → World → Bool
excepts (ret a) w v = false
excepts (stop n) w v = false
excepts (ask q k) w v = excepts_ask q w v || excepts (k (answer q w)) w v
excepts (edit e p) w v = excepts p (apply e w) (apply e v)

-- "Refused for space is 15 or 16"
unfoldable pub for_space : Result → Bool
for_space (accepted r) = false
for_space (refusal n) = eqb n no_entries || eqb n no_bytes

-- a call that is not refused before its program
abbrev pub unless_screened : ℕ → Bool → Bool
unless_screened zero b = b
unless_screened (suc n) b = false

-- a call that is left out: its program as the first run has it asks such a question, or it is refused for space in the first run.
-- What is refused before its program asks nothing
unfoldable pub excepted : Call → State → State → Bool
excepted c s u =
    unless_screened (screen c.work (given_to c.op) s.opens)
    (excepts (program (links_in s.tree) c.op) (world_of s) (world_of u) || for_space (perform c s).result)

-- no call of the list is left out
unfoldable pub quiet : List Call → State → State → Bool
quiet [] s u = true
quiet (c ∷ j) s u = not (excepted c s u) && quiet j (perform c s).after (perform c u).after

-- the result of the call after the calls of j
unfoldable pub result_after : List Call → Call → State → Result
result_after [] c s = (perform c s).result
result_after (d ∷ j) c s = result_after j c (perform d s).after
