-- The tree and the files of a state (01, "The tree", "Limits", `InMemoryFile`), and what an edit makes of them.
-- Assumes nothing.
use Rattle.std.specs.Prelude.{Bool, true, false, ◌&&◌, ◌||◌, cond, not, List, [], ◌∷◌, ◌++◌, ℕ, suc, ◌+◌, max, eqb, ltb, ℤ, length}
use Rattle.std.proofs.Math.Option.{Option, none, some}
use Rattle.text.specs.Utf8.{Bytes}
use Rattle.path.specs.Path.{Name, same}

-- the names from the root on; the root is no name
abbrev pub Path : Type 0
Path = List Name

-- "a signed 64-bit count of nanoseconds from 1970"
abbrev pub Time : Type 0
Time = ℤ

-- what every entry has
pub record Meta : Type 0 where
  pub mode : ℕ
  pub accessed : Time
  pub changed : Time
  pub created : Time
  pub modified : Time

-- "Files have bytes", and metadata
pub record File : Type 0 where
  pub meta : Meta
  pub bytes : Bytes

-- "Files have bytes; links have a target as given". A file is known by a number, so that it can outlive its name.
pub data Node : Type 0 where
  dir : Meta → Node
  file : ℕ → Node
  link : Meta → Bytes → Node

-- the entries of a tree, each with its path; the root's is no name
abbrev pub Entries : Type 0
Entries = List (Path × Node)

-- the files, each with its number
abbrev pub Files : Type 0
Files = List (ℕ × File)

-- an open file number: the file, "the same position with the same path kept"
pub record Open : Type 0 where
  pub num : ℕ
  pub id : ℕ
  pub pos : ℕ
  pub kept : Path

-- ---- looking

-- two paths are the same names
unfoldable pub same_path : Path → Path → Bool
same_path [] [] = true
same_path [] (y ∷ q) = false
same_path (x ∷ p) [] = false
same_path (x ∷ p) (y ∷ q) = same x y && same_path p q

-- this one, or what else is found
abbrev pub or_else : {A : Type 0} → Bool → A → Option A → Option A
or_else true a o = some a
or_else false a o = o

-- what stands at a path
unfoldable pub look : Entries → Path → Option Node
look [] q = none
look (e ∷ t) q = or_else (same_path e.0 q) e.1 (look t q)

-- the file of a number
unfoldable pub file_of : Files → ℕ → Option File
file_of [] i = none
file_of (f ∷ fs) i = or_else (eqb f.0 i) f.1 (file_of fs i)

-- what is open under a file number
unfoldable pub open_of : List Open → ℕ → Option Open
open_of [] n = none
open_of (o ∷ os) n = or_else (eqb o.num n) o (open_of os n)

-- the rest of q behind p, where q begins with all names of p
abbrev pub behind_by : Bool → Option Path → Option Path
behind_by true o = o
behind_by false o = none

-- the names behind a path, where the other begins with it
unfoldable pub behind : Path → Path → Option Path
behind [] q = some q
behind (x ∷ p) [] = none
behind (x ∷ p) (y ∷ q) = behind_by (same x y) (behind p q)

-- ---- edits of the entries

-- kept, or left out
abbrev pub keep_if : {A : Type 0} → Bool → A → List A → List A
keep_if true a l = a ∷ l
keep_if false a l = l

-- without the entry of that path
unfoldable pub less : Path → Entries → Entries
less p [] = []
less p (e ∷ t) = keep_if (not (same_path e.0 p)) e (less p t)

-- with the node at the path
unfoldable pub put : Path → Node → Entries → Entries
put p n t = (p, n) ∷ less p t

-- an entry that is not behind the path is kept
abbrev pub unless_behind : Option Path → Path × Node → Entries → Entries
unless_behind none e t = e ∷ t
unless_behind (some r) e t = t

-- without the entry of that path and all below it
unfoldable pub cut : Path → Entries → Entries
cut p [] = []
cut p (e ∷ t) = unless_behind (behind p e.0) e (cut p t)

-- one that is, by the names behind it
abbrev pub if_behind : Option Path → Node → Entries → Entries
if_behind none n t = t
if_behind (some r) n t = (r, n) ∷ t

-- the entry of that path and all below it, by the paths behind it
unfoldable pub under : Path → Entries → Entries
under p [] = []
under p (e ∷ t) = if_behind (behind p e.0) e.1 (under p t)

-- the same put behind a path
unfoldable pub graft : Path → Entries → Entries
graft p [] = []
graft p (e ∷ t) = (p ++ e.0, e.1) ∷ graft p t

-- ---- changes of one entry

-- what is changed: the bytes with the time of the change, the bytes alone, the mode, all times, or some
pub data Change : Type 0 where
  write : Bytes → Time → Change
  resize : Bytes → Change
  chmod : ℕ → Change
  touch : Time → Time → Change
  touch_some : Option Time → Option Time → Change

-- a time that is given, else the old one
abbrev pub given : Option Time → Time → Time
given none t = t
given (some a) t = a

-- metadata after a change; "accessed, changed, created get the first time, modified the second"
unfoldable pub change_meta : Change → Meta → Meta
change_meta (write b t) m = record { mode = m.mode; accessed = m.accessed; changed = m.changed; created = m.created; modified = t }
change_meta (resize b) m = m
change_meta (chmod k) m = record { mode = k; accessed = m.accessed; changed = m.changed; created = m.created; modified = m.modified }
change_meta (touch a t) m = record { mode = m.mode; accessed = a; changed = a; created = a; modified = t }
change_meta (touch_some a t) m =
    record { mode = m.mode; accessed = given a m.accessed; changed = m.changed; created = m.created; modified = given t m.modified }

-- bytes after a change
unfoldable pub change_bytes : Change → Bytes → Bytes
change_bytes (write b t) s = b
change_bytes (resize b) s = b
change_bytes (chmod k) s = s
change_bytes (touch a t) s = s
change_bytes (touch_some a t) s = s

-- a file after a change
abbrev pub change_file : Change → File → File
change_file c f = record { meta = change_meta c f.meta; bytes = change_bytes c f.bytes }

-- the file of that number is changed
unfoldable pub set_file : ℕ → Change → Files → Files
set_file i c [] = []
set_file i c (f ∷ fs) = (f.0, cond (eqb f.0 i) (change_file c f.1) f.1) ∷ set_file i c fs

-- a number that no file has
unfoldable pub new_id : Files → ℕ
new_id [] = 0
new_id (f ∷ fs) = max (suc f.0) (new_id fs)

-- ---- names in order

-- one byte string comes before another: the order of names
unfoldable pub precedes : Bytes → Bytes → Bool
precedes [] [] = false
precedes [] (b ∷ t) = true
precedes (a ∷ s) [] = false
precedes (a ∷ s) (b ∷ t) = ltb a b || (eqb a b && precedes s t)

-- before the other, or behind it
abbrev pub insert_by : {A : Type 0} → Bool → A → A → List A → List A → List A
insert_by true a b l rest = a ∷ b ∷ l
insert_by false a b l rest = b ∷ rest

-- "Names in a directory rise strictly by byte order"
unfoldable pub insert : {A : Type 0} → Name × A → List (Name × A) → List (Name × A)
insert e [] = e ∷ []
insert e (f ∷ l) = insert_by (precedes e.0 f.0) e f l (insert e l)

-- each put in its place
unfoldable pub in_order : {A : Type 0} → List (Name × A) → List (Name × A)
in_order [] = []
in_order (e ∷ l) = insert e (in_order l)

-- ---- sums

-- the length of an entry's own name; the root has none
unfoldable pub name_length : Path → ℕ
name_length [] = 0
name_length (x ∷ []) = length x
name_length (x ∷ y ∷ p) = name_length (y ∷ p)

-- the length of a target
unfoldable pub target_length : Node → ℕ
target_length (dir m) = 0
target_length (file i) = 0
target_length (link m s) = length s

-- "names, targets"
unfoldable pub names_and_targets : Entries → ℕ
names_and_targets [] = 0
names_and_targets (e ∷ t) = name_length e.0 + target_length e.1 + names_and_targets t

-- "and contents", each file's once
unfoldable pub contents_length : Files → ℕ
contents_length [] = 0
contents_length (f ∷ fs) = length f.1.bytes + contents_length fs

-- the number of links
unfoldable pub links_in : Entries → ℕ
links_in [] = 0
links_in ((p, dir m) ∷ t) = links_in t
links_in ((p, file i) ∷ t) = links_in t
links_in ((p, link m s) ∷ t) = suc (links_in t)
