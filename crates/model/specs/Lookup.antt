-- The lookups (01, "Lookups"): lookup_entry_detail_until_symlink, lookup_entry_detail_no_follow and lookup_entry_detail.
-- Assumes nothing.
use mathlib.Core.List.{List, [], ◌∷◌, ◌++◌, drop_last}
use Rattle.std.proofs.Math.Option.{Option, none, some}
use Rattle.std.specs.Prelude.{ℕ, zero, suc}
use Rattle.text.specs.Utf8.{Bytes}
use Rattle.path.specs.Path.{Name, followed, path_fits}
use Rattle.model.specs.Refusals.{path_too_long, link_loop, not_directory}
use Rattle.model.specs.Tree.{Path}
use Rattle.model.specs.Prog.{Kind, a_dir, aFile, a_link, kind?, target?, Prog, ret, stop, asks, ◌>>=◌, ◌>>◌, need}

-- a name is looked for in a directory: the kind of what it names, if anything
abbrev pub find : (directory : Path) → Name → Prog (Option Kind)
find d x = asks (kind? (d ++ (x ∷ [])))

-- the target of a link, which stands where it is asked for
abbrev pub text_or : Option Bytes → Bytes
text_or none = []
text_or (some s) = s

-- ---- the walk of one path

-- LookupNoFollowEntry: an entry that is no link, a missing name with the whole path, or a last link
pub data End : Type 0 where
  found : Path → Kind → End
  missing : Path → End
  last_link : Path → End

-- LookupUntilSymlinkEntry: an end, or a link before the names still to come
pub data Met : Type 0 where
  ends : End → Met
  mid_link : Path → List Name → Met

-- the walk stands at d, with no name to come
unfoldable pub arrived : (d : Path) → Option Kind → End
arrived d none = missing d
arrived d (some a_dir) = found d a_dir
arrived d (some aFile) = found d aFile
arrived d (some a_link) = last_link d

-- the walk stands at d, with the names r to come; 9: "A file stands where a directory is needed"
unfoldable pub onward : (d : Path) (r : List Name) → Option Kind → Prog Met
onward d [] k = ret (ends (arrived d k))
onward d (x ∷ r) none = ret (ends (missing (d ++ (x ∷ r))))
onward d (x ∷ r) (some a_dir) = do
  k ← find d x
  onward (d ++ (x ∷ [])) r k
onward d (x ∷ r) (some aFile) = stop not_directory
onward d (x ∷ r) (some a_link) = ret (mid_link d (x ∷ r))

-- lookup_entry_detail_until_symlink: from d on (a path from the root on), name by name, to the first link or the end
unfoldable pub until_symlink : (d : Path) (r : List Name) → Prog Met
until_symlink d r = do
  k ← asks (kind? d)
  onward d r k

-- ---- links before the last name

-- the path that a link gives, its target "with the rest of the path behind it"; 6: more than 1,024 bytes
unfoldable pub behind_link : (d : Path) (r : List Name) → Prog Path
behind_link d r = do
  s ← asks (target? d)
  need (path_fits (followed (drop_last d) (text_or s) r)) path_too_long
  ret (followed (drop_last d) (text_or s) r)

-- what a no-follow lookup ends in, and the links that it went through, in order
pub record Walked : Type 0 where
  pub end : End
  pub links : List Path

-- a walk that met no link before the last name is over; else it goes on as f says
unfoldable pub ended : (links : List Path) → Met → (Path → List Name → Prog Walked) → Prog Walked
ended ls (ends e) f = ret (record { end = e; links = ls })
ended ls (mid_link d r) f = f d r

-- lookup_entry_detail_no_follow, with k links before the last name still allowed: "the 41st link met before the last name is
-- refused (7), before its path is formed or measured"
unfoldable pub no_follow : (k : ℕ) → Path → (links : List Path) → Prog Walked
no_follow zero p ls = do
  m ← until_symlink [] p
  ended ls m (λ d r. stop link_loop)
no_follow (suc k) p ls = do
  m ← until_symlink [] p
  ended ls m (λ d r. do
    q ← behind_link d r
    no_follow k q (ls ++ (d ∷ [])))

-- "the 41st link .. is refused": 40 are followed
abbrev pub most_links : ℕ
most_links = 40

-- ---- last links

-- LookupEntry: an entry that is no link, or a missing name with its whole path; and the links followed, both sorts
pub record Where : Type 0 where
  pub path : Path
  pub kind : Option Kind
  pub links : List Path

-- a lookup that met no last link is over; else it goes on as f says
unfoldable pub reached : End → (links : List Path) → (Path → Prog Where) → Prog Where
reached (found d k) ls f = ret (record { path = d; kind = some k; links = ls })
reached (missing d) ls f = ret (record { path = d; kind = none; links = ls })
reached (last_link d) ls f = f d

-- lookup_entry_detail: "A last link starts a new no-follow lookup at its target, with the count again 0". As many last links as the
-- bound may be followed: "a chain of last links longer than the number of links in the tree is a loop" (7)
unfoldable pub following : (bound : ℕ) → Path → (links : List Path) → Prog Where
following zero p ls = do
  w ← no_follow most_links p ls
  reached w.end w.links (λ d. stop link_loop)
following (suc b) p ls = do
  w ← no_follow most_links p ls
  reached w.end w.links (λ d. do
    q ← behind_link d []
    following b q (w.links ++ (d ∷ [])))

-- lookup_entry_detail: a following lookup, from no link on
abbrev pub lookup : (bound : ℕ) → Path → Prog Where
lookup b p = following b p []
