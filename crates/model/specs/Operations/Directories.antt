-- Canonicalize, the current directory, the umask, create directory (01, "Operations").
-- Assumes nothing.
use Rattle.std.specs.Prelude.{not, List, [], ◌∷◌, ◌++◌, ℕ, length}
use Rattle.std.proofs.Math.Option.{Option, none, some}
use Rattle.text.specs.Utf8.{Bytes}
use Rattle.path.specs.Path.{Name, render}
use Rattle.model.specs.Refusals.{not_found}
use Rattle.model.specs.Tree.{Path, Time, Meta}
use Rattle.model.specs.Prog.{Kind, kind?, mask?, make, go, umask, Prog, ret, asks, edits, ◌>>=◌, ◌>>◌, need, is_nil}
use Rattle.model.specs.Lookup.{lookup}
use Rattle.model.specs.Operations.Steps.{Reply, plain_reply, number_reply, bytes_reply, fresh, is_directory, fits, on_path, leads}

-- ---- canonicalize, current directory, umask

-- "Canonicalize and set times: `""` is 8"; set current directory too
unfoldable pub on_given : (path : Bytes) → (Path → Prog Reply) → Prog Reply
on_given s f = do
  need (not (is_nil s)) not_found
  on_path s f

-- canonicalize answers the path of the entry that is there
unfoldable pub canonicalize_at : (bound lent : ℕ) → Path → Prog Reply
canonicalize_at b lent p = do
  e ← leads b p
  fits (length (render e.path)) lent
  ret (bytes_reply (render e.path) (length e.links))

-- "Set current directory: canonicalize (`""` too), kind not tested"
unfoldable pub set_current_dir_at : (bound : ℕ) → Path → Prog Reply
set_current_dir_at b p = do
  e ← leads b p
  edits (go e.path)
  ret (plain_reply (length e.links))

-- "Set umask answers the old value"
unfoldable pub umask_to : (mask : ℕ) → Prog Reply
umask_to new = do
  old ← asks mask?
  edits (umask new)
  ret (number_reply old 0)

-- ---- create directory

-- "Create directory: .. mode 755", in octal
abbrev pub fresh_dir : Time → Meta
fresh_dir t = fresh 0o755 t

-- a directory where nothing is
unfoldable pub make_if : Meta → Path → Option Kind → Prog (Unit {0})
make_if m d none = edits (make d m)
make_if m d (some k) = ret tt

-- "makes all missing names": at d and at each longer path to d ++ r
unfoldable pub make_missing : Meta → (d : Path) (r : List Name) → Prog (Unit {0})
make_missing m d [] = do
  k ← asks (kind? d)
  make_if m d k
make_missing m d (x ∷ r) = do
  k ← asks (kind? d)
  make_if m d k
  make_missing m (d ++ (x ∷ [])) r

-- "for create directory this includes the last name": 9
unfoldable pub not_file : Option Kind → Prog (Unit {0})
not_file none = ret tt
not_file (some k) = is_directory k

-- base_fs_create_dir: "an existing directory is accepted; through a dangling link the target is made"
unfoldable pub create_dir_at : (bound : ℕ) → Time → Path → Prog Reply
create_dir_at b t p = do
  w ← lookup b p
  not_file w.kind
  make_missing (fresh_dir t) [] w.path
  ret (plain_reply (length w.links))
