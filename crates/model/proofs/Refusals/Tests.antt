-- The tests of the operations only ask, and what makes missing directories is never refused.
-- Assumes nothing.
use mathlib.Core.Bool.{Bool, true, false, not}
use mathlib.Core.List.{List, [], ◌∷◌, ◌++◌}
use mathlib.Core.Option.{Option, none, some}
use Prim.Native.Nat.{ℕ, zero, suc}
use lib.Dec.{leb}
use Rattle.text.specs.Utf8.{Bytes}
use Rattle.path.specs.Path.{Name, absolute, path_fits}
use Rattle.model.specs.Tree.{Path, Time, Meta}
use Rattle.model.specs.Prog.{Kind, a_dir, aFile, a_link, Ask, kind?, bytes?, asks, make, ret, ◌>>=◌, ◌>>◌, need}
use Rattle.model.specs.Lookup.{End, found, missing, last_link, lookup}
use Rattle.model.specs.Operations as O
use Rattle.model.proofs.Running.{Pure, pure-bind}
use Rattle.model.proofs.Refusals.Careful.{NeverStops, never-ret, never-ask, never-edits, never-bind}
use Rattle.model.proofs.Lookups.Pure.{pure-need, pure-no_follow, pure-following}

-- ---- single tests

-- an answer
pub pure-ret : {A : Type 0} (a : A) → Pure (ret a)
pure-ret a = tt

-- a question
pub pure-ask : (q : Ask) → Pure (asks q)
pure-ask q = λ a. tt

-- a following lookup
pub pure-lookup : (b : ℕ) (p : Path) → Pure (lookup b p)
pure-lookup b p = pure-following b p []

-- a path made absolute
pub pure-absolute : (s : Bytes) → Pure (O.to_absolute s)
unfolding O.to_absolute ◌>>=◌ ◌>>◌
pure-absolute s = λ h. pure-bind (need (path_fits (absolute h s)) 6) (λ _. ret (absolute h s)) (pure-need (path_fits (absolute h s)) 6) (λ _. tt)

-- what must be there
pub pure-must : {A : Type 0} (o : Option A) → Pure (O.must o)
unfolding O.must
pure-must none = tt
pure-must (some a) = tt

-- the last name apart
pub pure-parted : (p : Path) → Pure (O.parted p)
unfolding O.parted
pure-parted [] = tt
pure-parted (x ∷ p) = tt

-- a directory is needed
pub pure-is_directory : (k : Kind) → Pure (O.is_directory k)
unfolding O.is_directory
pure-is_directory a_dir = tt
pure-is_directory aFile = tt
pure-is_directory a_link = tt

-- a file
pub pure-only_file : (k : Kind) → Pure (O.only_file k)
unfolding O.only_file
pure-only_file a_dir = tt
pure-only_file aFile = tt
pure-only_file a_link = tt

-- nothing but a directory
pub pure-only_dir : (k : Kind) → Pure (O.only_dir k)
unfolding O.only_dir
pure-only_dir a_dir = tt
pure-only_dir aFile = tt
pure-only_dir a_link = tt

-- no file
pub pure-not_file : (o : Option Kind) → Pure (O.not_file o)
unfolding O.not_file
pure-not_file none = tt
pure-not_file (some k) = pure-is_directory k

-- no directory
pub pure-not_dir : (o : Option Kind) → Pure (O.not_dir o)
unfolding O.not_dir
pure-not_dir none = tt
pure-not_dir (some k) = pure-need (not (O.is_dir k)) 12

-- room for the answer
pub pure_fits : (n lent : ℕ) → Pure (O.fits n lent)
unfolding O.fits
pure_fits n lent = pure-need (leb n lent) 14

-- where a no-follow lookup ends
pub pure-end_there : (m : End) → Pure (O.end_there m)
unfolding O.end_there
pure-end_there (found d k) = tt
pure-end_there (missing d) = tt
pure-end_there (last_link d) = tt

-- at a link
pub pure-only_link : (m : End) → Pure (O.only_link m)
unfolding O.only_link
pure-only_link (found d k) = tt
pure-only_link (missing d) = tt
pure-only_link (last_link d) = tt

-- ---- several together

-- all single tests, and how they are put together
pub ruleset single =
    (pure-bind, pure-need, pure-ask, pure-lookup, pure-no_follow, pure-absolute, pure-must, pure-parted, pure-is_directory, pure-only_file, pure-only_dir, pure-not_file, pure-not_dir, pure_fits, pure-end_there, pure-only_link, pure-ret)

-- an entry that is there
pub pure-leads : (b : ℕ) (p : Path) → Pure (O.leads b p)
unfolding O.leads
pure-leads b p = search single depth 12

-- the directory at a path
pub pure-directory : (b : ℕ) (p : Path) → Pure (O.directory b p)
unfolding O.directory ◌>>◌
pure-directory b p = search (single, pure-leads) depth 12

-- the entry of a last name
pub pure-last_entry : (b : ℕ) (p : Path) → Pure (O.last_entry b p)
unfolding O.last_entry
pure-last_entry b p = search (single, pure-directory) depth 12

-- the walk of an open
pub pure-open_walk : (b : ℕ) (p : Path) → Pure (O.open_walk b p)
unfolding O.open_walk
pure-open_walk b p = search single depth 12

-- the directory of a missing file
pub pure-parent_stands : (p : Path) → Pure (O.parent_stands p)
unfolding O.parent_stands
pure-parent_stands p = search single depth 12

-- the mode of a new file
pub pure-new_mode : (o : Option ℕ) → Pure (O.new_mode o)
unfolding O.new_mode
pure-new_mode none = λ m. tt
pure-new_mode (some m) = tt

-- what is read
pub pure-source_at : (b : ℕ) (p : Path) → Pure (O.source_at b p)
unfolding O.source_at O.open_walk ◌>>◌
pure-source_at b p = search single depth 12

-- where a seek leads
pub pure-seek_from : (o k n size : ℕ) → Pure (O.seek_from o k n size)
unfolding O.seek_from O.from_end ◌>>◌
pure-seek_from zero n k size = tt
pure-seek_from (suc zero) n k size = tt
pure-seek_from (suc (suc o)) n k size = search single depth 12

pure-emptied : (b : Bool) (p : Path) → Pure (O.emptied b p)
unfolding O.emptied
pure-emptied true p = search single depth 12
pure-emptied false p = tt

-- what a rename replaces
pub pure-replaces : (k : Kind) (p : Path) (o : Option Kind) → Pure (O.replaces k p o)
unfolding O.replaces ◌>>◌
pure-replaces k p none = tt
pure-replaces k p (some e) = search (single, pure-emptied) depth 12

-- all that only ask
pub ruleset tests =
    (single, pure-leads, pure-directory, pure-last_entry, pure-open_walk, pure-parent_stands, pure-new_mode, pure-source_at, pure-seek_from, pure-replaces)

-- ---- what is never refused

never-make_if : (m : Meta) (d : Path) (o : Option Kind) → NeverStops (O.make_if m d o)
unfolding O.make_if
never-make_if m d none = never-edits (make d m)
never-make_if m d (some k) = never-ret tt

-- missing directories are made
pub never-make_missing : (m : Meta) (d : Path) (r : List Name) → NeverStops (O.make_missing m d r)
unfolding O.make_missing ◌>>◌
never-make_missing m d [] = never-bind _ _ (never-ask (kind? d)) (λ k. never-make_if m d k)
never-make_missing m d (x ∷ r) =
    never-bind _ _ (never-ask (kind? d)) λ k.
    never-bind _ _ (never-make_if m d k) λ _.
    never-make_missing m (d ++ (x ∷ [])) r

-- where an open file starts
pub never-start_at : (b : Bool) (p : Path) → NeverStops (O.start_at b p)
unfolding O.start_at
never-start_at false p = never-ret 0
never-start_at true p = never-bind _ _ (never-ask (bytes? p)) (λ s. never-ret _)

-- a file is cleared, or not
pub never-truncated : (b : Bool) (p : Path) (t : Time) → NeverStops (O.truncated b p t)
unfolding O.truncated
never-truncated true p t = never-edits _
never-truncated false p t = never-ret tt
