-- Metadata, symlink metadata, read link, set permissions, set times, list (01, "Operations").
-- Assumes nothing.
use Rattle.std.specs.Prelude.{List, [], ◌∷◌, ◌++◌, ℕ, length}
use Rattle.text.specs.Utf8.{Bytes}
use Rattle.path.specs.Path.{Name, names, is_absolute}
use Rattle.model.specs.Refusals.{not_found, wrong_kind}
use Rattle.model.specs.Tree.{Path, Time, chmod, touch}
use Rattle.model.specs.Prog.{Stat, stat?, target?, list?, change, Prog, ret, stop, asks, edits, ◌>>=◌, ◌>>◌, need}
use Rattle.model.specs.Lookup.{text_or, End, found, missing, last_link, no_follow, most_links}
use Rattle.model.specs.Operations.Steps.{Reply, plain_reply, bytes_reply, stat_reply, only_dir, fits, leads}

-- ---- metadata

-- "Metadata" of the entry that the path leads to
unfoldable pub metadata_at : (bound lent : ℕ) → Path → Prog Reply
metadata_at b lent p = do
  e ← leads b p
  s ← asks (stat? e.path)
  fits 1 lent
  ret (stat_reply s (length e.links))

-- an entry, or a last link itself; 8: "Not found"
unfoldable pub end_there : End → Prog Path
end_there (found d k) = ret d
end_there (missing d) = stop not_found
end_there (last_link d) = ret d

-- "symlink metadata": a last link is not followed
unfoldable pub symlink_metadata_at : (lent : ℕ) → Path → Prog Reply
symlink_metadata_at lent p = do
  w ← no_follow most_links p []
  d ← end_there w.end
  s ← asks (stat? d)
  fits 1 lent
  ret (stat_reply s (length w.links))

-- ---- read link

-- 10: "read link on a non-link"
unfoldable pub only_link : End → Prog Path
only_link (found d k) = stop wrong_kind
only_link (missing d) = stop not_found
only_link (last_link d) = ret d

-- read link answers the "target as given, not normalised"
unfoldable pub read_link_at : (lent : ℕ) → Path → Prog Reply
read_link_at lent p = do
  w ← no_follow most_links p []
  d ← only_link w.end
  s ← asks (target? d)
  fits (length (text_or s)) lent
  ret (bytes_reply (text_or s) (length w.links))

-- ---- permissions, times

-- "set permissions": the mode of the entry that the path leads to
unfoldable pub set_permissions_at : (bound mode : ℕ) → Path → Prog Reply
set_permissions_at b m p = do
  e ← leads b p
  edits (change e.path (chmod m))
  ret (plain_reply (length e.links))

-- "Set times takes the path raw, neither made absolute nor rid of `..`": what does not begin at the root is not found
unfoldable pub on_raw : (path : Bytes) → (Path → Prog Reply) → Prog Reply
on_raw s f = do
  need (is_absolute s) not_found
  f (names s)

-- "accessed, changed, created get the first time, modified the second"
unfoldable pub set_times_at : (bound : ℕ) → (first second : Time) → Path → Prog Reply
set_times_at b first second p = do
  e ← leads b p
  edits (change e.path (touch first second))
  ret (plain_reply (length e.links))

-- ---- list

-- the names of a listing, each ended by a zero byte
unfoldable pub names_text : List (Name × Stat) → Bytes
names_text [] = []
names_text (e ∷ l) = e.0 ++ (0 ∷ names_text l)

-- the records of a listing
unfoldable pub stats_of : List (Name × Stat) → List Stat
stats_of [] = []
stats_of (e ∷ l) = e.1 ∷ stats_of l

-- "List: names in order, with metadata; it also fills a lent row of records, one per entry"
unfoldable pub list_at : (bound lent rows : ℕ) → Path → Prog Reply
list_at b lent rows p = do
  e ← leads b p
  only_dir e.kind
  l ← asks (list? e.path)
  fits (length (names_text l)) lent
  fits (length l) rows
  ret (record { number = length l; out = names_text l; rows = stats_of l; link_count = length e.links })
