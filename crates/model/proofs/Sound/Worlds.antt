-- What a world obeys in the middle of a program, and what an edit asks of the world that it is made on. The entries in rename's
-- hand keep the rules among themselves, so that they keep them wherever a directory takes them.
-- Assumes nothing.
use mathlib.Core.List.{List, [], ◌∷◌, ◌++◌}
use mathlib.Core.Option.{Option, none, some}
use mathlib.Core.Path.{◌≡◌}
use Prim.Native.Nat.{ℕ, ◌≤◌}
use lib.Dec.{T}
use Rattle.path.specs.Path.{Name}
use Rattle.model.specs.Tree.{Path, Time, Meta, File, Node, dir, file, Entries, Files, Open, look, file_of, open_of, Change, write, resize, chmod, touch, touch_some}
use Rattle.model.specs.Prog.{World, Kind, node_kind, on_some, Edit, make, create, symlink, change, remove, take, give, opens, close, seek, change_held, go, umask}
use Rattle.model.specs.Rules.{names_ok, path_ok, target_ok, meta_ok, bytes_ok, FileOk, NodeOk, Once, new_path, new_file, new_number}
use Rattle.model.specs.Passable.{Unsigned32, Unsigned64, Signed64}
use Rattle.model.specs.Shaped.{HasFile}

-- a directory stands at the path
abbrev pub IsDir : Entries → Path → Type 0
IsDir t p = (m : Meta) × (look t p ≡ some (dir m))

-- entries that keep the rules of the tree among themselves, but for the root's
pub record Tidy (fs : Files) (t : Entries) : Type 0 where
  pub paths : Once new_path t
  pub parents : (p : Path) (x : Name) (n : Node) → look t (p ++ (x ∷ [])) ≡ some n → IsDir t p
  pub named : (p : Path) (n : Node) → look t p ≡ some n → T (names_ok p)
  pub nodes : (p : Path) (n : Node) → look t p ≡ some n → NodeOk fs n
  pub one_name : (p q : Path) (i : ℕ) → look t p ≡ some (file i) → look t q ≡ some (file i) → p ≡ q

-- the root, where there is one, is a directory
abbrev pub Rooted : Entries → Type 0
Rooted t = (n : Node) → look t [] ≡ some n → (m : Meta) × (n ≡ dir m)

-- an open number on a file of the table
pub record OpenOk (fs : Files) (n : ℕ) (o : Open) : Type 0 where
  pub small : n ≤ 31
  pub place : Unsigned64 o.pos
  pub path : T (path_ok o.kept)
  pub stands : HasFile fs o.id

-- the table of files
pub record FilesOk (fs : Files) : Type 0 where
  pub once : Once new_file fs
  pub each : (i : ℕ) (f : File) → file_of fs i ≡ some f → FileOk f

-- the open numbers
pub record OpensOk (fs : Files) (os : List Open) : Type 0 where
  pub once : Once new_number os
  pub each : (n : ℕ) (o : Open) → open_of os n ≡ some o → OpenOk fs n o

-- a world in the middle of a program
pub record Sound (w : World) : Type 0 where
  pub tree : Tidy w.files w.at
  pub in_hand : Tidy w.files w.hand
  pub root : Rooted w.at
  -- no file has a name in the tree and one in hand
  pub apart : (p q : Path) (i : ℕ) → look w.at p ≡ some (file i) → look w.hand q ≡ some (file i) → ⊥
  pub table : FilesOk w.files
  pub numbers : OpensOk w.files w.opens
  pub current : T (path_ok w.here)
  pub umask : Unsigned32 w.mask

-- ---- what an edit asks

-- the kind of what stands at a path
abbrev pub kind_at : Entries → Path → Option Kind
kind_at t p = on_some (look t p) (λ n. some (node_kind n))

-- the path without its last name is a directory
abbrev pub Housed : Path → Entries → Type 0
Housed p t = (q : Path) (x : Name) → p ≡ q ++ (x ∷ []) → IsDir t q

-- a place for what is no directory: below a directory, and no directory itself
pub record Vacant (p : Path) (t : Entries) : Type 0 where
  pub named : T (names_ok p)
  pub below : p ≡ [] → ⊥
  pub housed : Housed p t
  pub no_dir : IsDir t p → ⊥

-- the time, if one is given, fits
abbrev pub GivenOk : Option Time → Type 0
GivenOk none = Unit {0}
GivenOk (some t) = Signed64 t

-- the numbers and bytes of a change fit
abbrev pub ChangeOk : Change → Type 0
ChangeOk (write b t) = T (bytes_ok b) × Signed64 t
ChangeOk (resize b) = T (bytes_ok b)
ChangeOk (chmod k) = Unsigned32 k
ChangeOk (touch a t) = Signed64 a × Signed64 t
ChangeOk (touch_some a t) = GivenOk a × GivenOk t

-- what an edit asks of the world that it is made on
abbrev pub Allowed : Edit → World → Type 0
Allowed (make p m) w = T (names_ok p) × T (meta_ok m) × Housed p w.at
Allowed (create p f) w = Vacant p w.at × FileOk f
Allowed (symlink p m s) w = Vacant p w.at × T (meta_ok m) × T (target_ok s)
Allowed (change p c) w = ChangeOk c
Allowed (remove p) w = Unit {0}
Allowed (take p) w = Unit {0}
Allowed (give p) w = T (names_ok p) × (p ≡ [] → ⊥) × Housed p w.at
Allowed (opens n p k) w = (open_of w.opens n ≡ none) × (n ≤ 31) × Unsigned64 k × T (path_ok p)
Allowed (close n) w = Unit {0}
Allowed (seek n k) w = Unsigned64 k
Allowed (change_held n c) w = ChangeOk c
Allowed (go p) w = T (path_ok p)
Allowed (umask m) w = Unsigned32 m
