-- What the operations have in common: the answer of a call, tests with the refusals that they give, and the steps from a path to what
-- is there. The bound is how many last links a lookup follows.
-- Assumes nothing.
use Rattle.std.specs.Prelude.{Bool, true, false, ℕ, leb, length}
use mathlib.Core.List.{List, [], ◌∷◌, ◌++◌, drop_last}
use Rattle.std.proofs.Math.Option.{Option, none, some}
use Rattle.text.specs.Utf8.{Bytes}
use Rattle.path.specs.Path.{Name, absolute, path_fits, last_name}
use Rattle.model.specs.Refusals.{no_last_name, path_too_long, not_found, not_directory, wrong_kind, short_buffer}
use Rattle.model.specs.Tree.{Path, Time, Meta}
use Rattle.model.specs.Prog.{Kind, a_dir, aFile, a_link, Stat, here?, Prog, ret, stop, asks, ◌>>=◌, ◌>>◌, need}
use Rattle.model.specs.Lookup.{find, Where, lookup}

-- ---- what a call answers

-- a number, what it writes to the front of the lent bytes and of the lent row of records, and "how many links it followed"
pub record Reply : Type 0 where
  pub number : ℕ
  pub out : Bytes
  pub rows : List Stat
  pub link_count : ℕ

-- the link count alone
abbrev pub plain_reply : (link_count : ℕ) → Reply
plain_reply k = record { number = 0; out = []; rows = []; link_count = k }

-- a number and the link count
abbrev pub number_reply : (number link_count : ℕ) → Reply
number_reply n k = record { number = n; out = []; rows = []; link_count = k }

-- bytes, their length and the link count
abbrev pub bytes_reply : Bytes → (link_count : ℕ) → Reply
bytes_reply s k = record { number = length s; out = s; rows = []; link_count = k }

-- the record of what is there
abbrev pub row_of : Option Stat → List Stat
row_of none = []
row_of (some s) = s ∷ []

-- one record and the link count
abbrev pub stat_reply : Option Stat → (link_count : ℕ) → Reply
stat_reply s k = record { number = 0; out = []; rows = row_of s; link_count = k }

-- the metadata of what a call makes: all four times are the call's
abbrev pub fresh : (mode : ℕ) → Time → Meta
fresh m t = record { mode = m; accessed = t; changed = t; created = t; modified = t }

-- ---- tests

-- 8: "Not found"
unfoldable pub must : {A : Type 0} → Option A → Prog A
must none = stop not_found
must (some a) = ret a

-- 9: "A file stands where a directory is needed"
unfoldable pub is_directory : Kind → Prog (Unit {0})
is_directory a_dir = ret tt
is_directory aFile = stop not_directory
is_directory a_link = stop not_directory

-- 10, "Wrong kind": a file is needed
unfoldable pub only_file : Kind → Prog (Unit {0})
only_file aFile = ret tt
only_file a_dir = stop wrong_kind
only_file a_link = stop wrong_kind

-- 10: "remove or list on a non-directory"
unfoldable pub only_dir : Kind → Prog (Unit {0})
only_dir a_dir = ret tt
only_dir aFile = stop wrong_kind
only_dir a_link = stop wrong_kind

-- a directory
unfoldable pub is_dir : Kind → Bool
is_dir a_dir = true
is_dir aFile = false
is_dir a_link = false

-- there is one
abbrev pub is_some : {A : Type 0} → Option A → Bool
is_some none = false
is_some (some a) = true

-- 14: "Output buffer too short": the lent bytes or rows hold what is answered
unfoldable pub fits : (needed lent : ℕ) → Prog (Unit {0})
fits needed lent = need (leb needed lent) short_buffer

-- ---- from a path to what is there

-- made absolute, from the current directory; 6: "one made absolute"
unfoldable pub to_absolute : (path : Bytes) → Prog Path
to_absolute s = do
  h ← asks here?
  need (path_fits (absolute h s)) path_too_long
  ret (absolute h s)

-- a given path is made absolute, then the operation is done at that path
unfoldable pub on_path : (path : Bytes) → (Path → Prog Reply) → Prog Reply
on_path s f = do
  p ← to_absolute s
  f p

-- two of them: 6 of the first, then of the second
unfoldable pub on_paths : (first second : Bytes) → (Path → Path → Prog Reply) → Prog Reply
on_paths s d f = do
  p ← to_absolute s
  q ← to_absolute d
  f p q

-- an entry that is there, and is no link: its path and kind, and the links followed
pub record There : Type 0 where
  pub path : Path
  pub kind : Kind
  pub links : List Path

-- this path leads to an entry that is there; 8: it does not
unfoldable pub leads : (bound : ℕ) → Path → Prog There
leads b p = do
  w ← lookup b p
  k ← must w.kind
  ret (record { path = w.path; kind = k; links = w.links })

-- find_directory_mut: this path leads to a directory; 8: missing, 9: a file
unfoldable pub directory : (bound : ℕ) → Path → Prog There
directory b p = do
  e ← leads b p
  is_directory e.kind
  ret e

-- the path without its last name, and that name
pub record Parted : Type 0 where
  pub before : Path
  pub name : Name

-- 5: "The path is `/` where a last name is needed"
unfoldable pub parted : Path → Prog Parted
parted [] = stop no_last_name
parted (x ∷ p) = ret (record { before = drop_last (x ∷ p); name = last_name (x ∷ p) })

-- the entry of that last name in its directory, there or not: "only the parent is followed"
unfoldable pub last_entry : (bound : ℕ) → Path → Prog Where
last_entry b p = do
  l ← parted p
  d ← directory b l.before
  k ← find d.path l.name
  ret (record { path = d.path ++ (l.name ∷ []); kind = k; links = d.links })
