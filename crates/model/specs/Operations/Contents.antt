-- Open, read, write, copy, hard link (01, "Operations").
-- Assumes nothing.
use Rattle.std.specs.Prelude.{Bool, true, false, not, ℕ, ◌+◌, length}
use mathlib.Core.List.{[], drop_last}
use Rattle.std.proofs.Math.Option.{Option, none, some}
use Rattle.text.specs.Utf8.{Bytes}
use Rattle.model.specs.Refusals.{not_found, already_there}
use Rattle.model.specs.Tree.{Path, Time, write}
use Rattle.model.specs.Prog.{Kind, kind?, bytes?, mask?, create, change, opens, Prog, ret, asks, edits, ◌>>=◌, ◌>>◌, need}
use Rattle.model.specs.Lookup.{text_or, Where, lookup}
use Rattle.model.specs.Operations.Steps.{Reply, plain_reply, number_reply, bytes_reply, fresh, must, only_file, fits, leads, parted}

-- ---- open

-- "Open: follows links"; 5 "on the resolved path"
unfoldable pub open_walk : (bound : ℕ) → Path → Prog Where
open_walk b p = do
  w ← lookup b p
  _ ← parted w.path
  ret w

-- "create makes a missing file in an existing directory"
unfoldable pub parent_stands : Path → Prog (Unit {0})
parent_stands p = do
  k ← asks (kind? (drop_last p))
  _ ← must k
  ret tt

-- how a file is opened
pub record Opening : Type 0 where
  pub create : Bool
  pub create_new : Bool
  pub truncate : Bool
  pub append : Bool
  pub mode : Option ℕ

-- "Mode is the one given, else the umask value itself"
unfoldable pub new_mode : Option ℕ → Prog ℕ
new_mode none = asks mask?
new_mode (some m) = ret m

-- "Truncate clears and sets modified"
unfoldable pub truncated : Bool → Path → Time → Prog (Unit {0})
truncated true p t = edits (change p (write [] t))
truncated false p t = ret tt

-- "Position 0, with append the length"
unfoldable pub start_at : (append : Bool) → Path → Prog ℕ
start_at false p = ret 0
start_at true p = do
  s ← asks (bytes? p)
  ret (length (text_or s))

-- the number on the entry that is there, or is made; "missing without create is 8 even with create-new"
unfoldable pub open_entry : Opening → (number : ℕ) → Time → Path → Option Kind → Prog (Unit {0})
open_entry o n t p (some k) = do
  only_file k
  need (not o.create_new) already_there
  truncated o.truncate p t
  a ← start_at o.append p
  edits (opens n p a)
open_entry o n t p none = do
  parent_stands p
  need o.create not_found
  m ← new_mode o.mode
  edits (create p (record { meta = fresh m t; bytes = [] }))
  edits (opens n p 0)

-- "Open": the walk, then the number on the file
unfoldable pub open_at : (bound : ℕ) → Opening → (number : ℕ) → Time → Path → Prog Reply
open_at b o n t p = do
  w ← open_walk b p
  open_entry o n t w.path w.kind
  ret (plain_reply (length w.links))

-- ---- read, write

-- a file's bytes, and how many links led to it
pub record Source : Type 0 where
  pub bytes : Bytes
  pub link_count : ℕ

-- a file that is read: what open without flags refuses
unfoldable pub source_at : (bound : ℕ) → Path → Prog Source
source_at b p = do
  w ← open_walk b p
  k ← must w.kind
  only_file k
  s ← asks (bytes? w.path)
  ret (record { bytes = text_or s; link_count = length w.links })

-- "Read": the whole file, or 14
unfoldable pub read_at : (bound lent : ℕ) → Path → Prog Reply
read_at b lent p = do
  f ← source_at b p
  fits (length f.bytes) lent
  ret (bytes_reply f.bytes f.link_count)

-- base_fs_write: what is there is open's create and truncate; the contents are replaced
unfoldable pub write_entry : Time → (contents : Bytes) → Path → Option Kind → Prog (Unit {0})
write_entry t s p (some k) = do
  only_file k
  edits (change p (write s t))
write_entry t s p none = do
  parent_stands p
  m ← new_mode none
  edits (create p (record { meta = fresh m t; bytes = s }))

-- the walk of the path written to, and how many links were followed there
unfoldable pub write_to : (bound : ℕ) → Time → (contents : Bytes) → Path → Prog ℕ
write_to b t s p = do
  w ← open_walk b p
  write_entry t s w.path w.kind
  ret (length w.links)

-- "write"
unfoldable pub write_at : (bound : ℕ) → Time → (contents : Bytes) → Path → Prog Reply
write_at b t s p = do
  k ← write_to b t s p
  ret (plain_reply k)

-- ---- copy, hard link

-- "Copy and hard link finish with the source before they walk the other path"
unfoldable pub copy_at : (bound : ℕ) → Time → (old new : Path) → Prog Reply
copy_at b t p q = do
  f ← source_at b p
  k ← write_to b t f.bytes q
  ret (number_reply (length f.bytes) (f.link_count + k))

-- "Hard link copies the bytes and overwrites"; of a directory 10, also of `/`
unfoldable pub hard_link_at : (bound : ℕ) → Time → (old new : Path) → Prog Reply
hard_link_at b t p q = do
  e ← leads b p
  only_file e.kind
  s ← asks (bytes? e.path)
  k ← write_to b t (text_or s) q
  ret (plain_reply (length e.links + k))
