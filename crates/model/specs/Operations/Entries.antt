-- Link, the removals, rename (01, "Operations").
-- Assumes nothing.
use Rattle.std.specs.Prelude.{Bool, true, false, ◌&&◌, not, [], ◌∷◌, ◌++◌, ℕ, ◌+◌, length}
use Rattle.std.proofs.Math.Option.{Option, none, some}
use Rattle.text.specs.Utf8.{Bytes}
use Rattle.model.specs.Refusals.{wrong_kind, under_itself, already_there}
use Rattle.model.specs.Tree.{Path, Time, Meta, same_path, behind}
use Rattle.model.specs.Prog.{Kind, bare?, symlink, remove, take, give, Prog, ret, asks, edits, ◌>>=◌, ◌>>◌, need}
use Rattle.model.specs.Lookup.{lookup}
use Rattle.model.specs.Operations.Steps.{Reply, plain_reply, fresh, must, only_file, only_dir, is_dir, is_some, leads, Parted, parted, last_entry}
use Rattle.model.specs.Operations.Directories.{fresh_dir, make_missing}

-- ---- link

-- "mode 777", in octal
abbrev pub fresh_link : Time → Meta
fresh_link t = fresh 0o777 t

-- 12: "a link over a directory"
unfoldable pub not_dir : Option Kind → Prog (Unit {0})
not_dir none = ret tt
not_dir (some k) = need (not (is_dir k)) already_there

-- base_fs_symlink_file: "mode 777; replaces a file or link"
unfoldable pub link_at : (bound : ℕ) → (target : Bytes) → Time → Path → Prog Reply
link_at b s t p = do
  e ← last_entry b p
  not_dir e.kind
  edits (symlink e.path (fresh_link t) s)
  ret (plain_reply (length e.links))

-- ---- remove

-- "Remove file, directory, tree: only the parent is followed"
unfoldable pub remove_at : (Path → Option Kind → Prog (Unit {0})) → (bound : ℕ) → Path → Prog Reply
remove_at f b p = do
  e ← last_entry b p
  f e.path e.kind
  ret (plain_reply (length e.links))

-- "remove file on a non-file" is 10
unfoldable pub a_file_out : Path → Option Kind → Prog (Unit {0})
a_file_out p e = do
  k ← must e
  only_file k
  edits (remove p)

-- 12: "remove directory with entries"
unfoldable pub a_dir_out : Path → Option Kind → Prog (Unit {0})
a_dir_out p e = do
  k ← must e
  only_dir k
  n ← asks (bare? p)
  need n already_there
  edits (remove p)

-- "Remove tree accepts a missing last name"
unfoldable pub a_tree_out : Path → Option Kind → Prog (Unit {0})
a_tree_out p none = ret tt
a_tree_out p (some k) = do
  only_dir k
  edits (remove p)

-- ---- rename

-- 10: "rename of a directory onto a non-directory or the reverse"
unfoldable pub same_sort : Bool → Bool → Bool
same_sort true b = b
same_sort false b = not b

-- 12: "rename onto a directory with entries"
unfoldable pub emptied : Bool → Path → Prog (Unit {0})
emptied false p = ret tt
emptied true p = do
  n ← asks (bare? p)
  need n already_there

-- what stands at the new path, if anything
unfoldable pub replaces : Kind → Path → Option Kind → Prog (Unit {0})
replaces k p none = ret tt
replaces k p (some e) = do
  need (same_sort (is_dir k) (is_dir e)) wrong_kind
  emptied (is_dir k) p

-- "Missing directories of the new path are made, after the old entry is out"; then it is put down
unfoldable pub take_then_make : (bound : ℕ) → (old : Path) → (new : Parted) → Time → Prog (Unit {0})
take_then_make b old new t = do
  edits (take old)
  d ← lookup b new.before
  make_missing (fresh_dir t) [] d.path
  edits (give (d.path ++ (new.name ∷ [])))

-- "Rename orders its own: 5 for the old path, 5 for the new, walk of the old, 11, walk of the new, 10, 12". "What moves, and what is
-- replaced, is the entry of that name"
unfoldable pub rename_apart : (bound : ℕ) → Time → (old new : Path) → Prog Reply
rename_apart b t p q = do
  _ ← parted p
  new ← parted q
  v ← leads b p
  need (not (is_dir v.kind && is_some (behind p q))) under_itself
  w ← lookup b q
  replaces v.kind w.path w.kind
  old ← last_entry b p
  take_then_make b old.path new t
  ret (plain_reply (length v.links + length w.links))

-- equal or not
unfoldable pub rename_by : Bool → (bound : ℕ) → Time → (old new : Path) → Prog Reply
rename_by true b t p q = ret (plain_reply 0)
rename_by false b t p q = rename_apart b t p q

-- "paths equal once absolute, `/` too, are accepted untested"
unfoldable pub rename_at : (bound : ℕ) → Time → (old new : Path) → Prog Reply
rename_at b t p q = rename_by (same_path p q) b t p q
