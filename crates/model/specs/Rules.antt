-- The rules that every state obeys (01, "The tree", "Limits").
-- Assumes nothing.
use Rattle.std.specs.Prelude.{Bool, true, ◌&&◌, ◌||◌, List, [], ◌∷◌, ◌++◌, ◌≡◌, ℕ, ◌≤◌, ◌<◌, ◌^◌, T, leb, ltb, pos, negsuc, length}
use Rattle.std.proofs.Math.Option.{none, some}
use Rattle.text.specs.Utf8.{Bytes, text}
use Rattle.path.specs.Path.{Name, proper, lengths_ok, path_fits}
use Rattle.model.specs.Tree.{Path, Time, Meta, File, Node, dir, file, link, Entries, Files, Open, look, file_of, open_of}
use Rattle.model.specs.Calls.{State, entries_used, bytes_used, is_named, is_held}

-- "name at most 255", "none is empty, `.`, `..` or holds `/`", valid text
unfoldable pub name_ok : Name → Bool
name_ok n = proper n && (leb (length n) 255 && text n)

-- each name of a path
unfoldable pub names_ok : Path → Bool
names_ok [] = true
names_ok (n ∷ p) = name_ok n && names_ok p

-- a path that a state keeps: the current directory, or the path kept at open
unfoldable pub path_ok : Path → Bool
path_ok p = names_ok p && path_fits p

-- a target: valid text of at most 1,024 bytes, each name in it of at most 255
unfoldable pub target_ok : Bytes → Bool
target_ok s = text s && lengths_ok s

-- a signed 64-bit number
unfoldable pub time_ok : Time → Bool
time_ok (pos n) = ltb n (2 ^ 63)
time_ok (negsuc n) = ltb n (2 ^ 63)

-- modes have 32 bits
unfoldable pub meta_ok : Meta → Bool
meta_ok m = ltb m.mode (2 ^ 32) && (time_ok m.accessed && (time_ok m.changed && (time_ok m.created && time_ok m.modified)))

-- a byte has 8 bits
unfoldable pub bytes_ok : Bytes → Bool
bytes_ok [] = true
bytes_ok (b ∷ s) = ltb b 256 && bytes_ok s

-- what a file may be
abbrev pub FileOk : File → Type 0
FileOk f = T (meta_ok f.meta) × T (bytes_ok f.bytes)

-- what a node may be: a file's number has a file
abbrev pub NodeOk : Files → Node → Type 0
NodeOk fs (dir m) = T (meta_ok m)
NodeOk fs (file i) = (f : File) × (file_of fs i ≡ some f)
NodeOk fs (link m s) = T (meta_ok m) × T (target_ok s)

-- each path, each file and each number stands once
abbrev pub Once : {A : Type 0} → (List A → A → Type 0) → List A → Type 0
Once new [] = Unit {0}
Once new (a ∷ l) = new l a × Once new l

-- no other entry has its path
abbrev pub new_path : Entries → Path × Node → Type 0
new_path t e = look t e.0 ≡ none

-- no other file has its number
abbrev pub new_file : Files → ℕ × File → Type 0
new_file fs f = file_of fs f.0 ≡ none

-- no other open number is the same
abbrev pub new_number : List Open → Open → Type 0
new_number os o = open_of os o.num ≡ none

-- what every state obeys
pub record Obeys (s : State) : Type 0 where
  -- "Set up .. takes an entry limit of 1 to 4,096 and a byte limit of 256 to 1,048,576"
  pub entry_limit : (1 ≤ s.most) × (s.most ≤ 4096)
  pub byte_limit : (256 ≤ s.room) × (s.room ≤ 1048576)
  pub entries_fit : entries_used s ≤ s.most
  pub bytes_fit : bytes_used s ≤ s.room
  pub paths : Once new_path s.tree
  -- "The root is one directory entry"
  pub root : (n : Node) → look s.tree [] ≡ some n → (m : Meta) × (n ≡ dir m)
  -- only directories have entries
  pub parents : (p : Path) (x : Name) (n : Node) → look s.tree (p ++ (x ∷ [])) ≡ some n → (m : Meta) × (look s.tree p ≡ some (dir m))
  pub named : (p : Path) (n : Node) → look s.tree p ≡ some n → T (names_ok p)
  pub nodes : (p : Path) (n : Node) → look s.tree p ≡ some n → NodeOk s.files n
  pub files : Once new_file s.files
  pub each_file : (i : ℕ) (f : File) → file_of s.files i ≡ some f → FileOk f
  -- each file has exactly one name, or none while a number is open on it
  pub one_name : (p q : Path) (i : ℕ) → look s.tree p ≡ some (file i) → look s.tree q ≡ some (file i) → p ≡ q
  pub used : (i : ℕ) (f : File) → file_of s.files i ≡ some f → T (is_named s.tree i || is_held s.opens i)
  -- "a file number 0 to 31"; a number stands on a file
  pub numbers : Once new_number s.opens
  pub opens : (n : ℕ) (o : Open) → open_of s.opens n ≡ some o
      → (n ≤ 31) × (o.pos < 2 ^ 64) × T (path_ok o.kept) × ((f : File) × (file_of s.files o.id ≡ some f))
  pub current : T (path_ok s.here)
  pub umask : s.mask < 2 ^ 32
