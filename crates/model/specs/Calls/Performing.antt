-- What a call answers and leaves: tests before it (screen), its program, and 15 and 16 of the state that it would leave (settle).
-- Assumes nothing.
use Rattle.std.specs.Prelude.{Bool, true, false, List, [], ◌∷◌, ℕ, zero, suc, ◌/◌, ◌%◌, leb, eqb}
use Rattle.std.proofs.Math.Option.{Option, none, some}
use Rattle.model.specs.Refusals.{no_entries, no_bytes}
use Rattle.model.specs.Tree.{links_in}
use Rattle.model.specs.Prog.{Prog, Out, done, refused, run}
use Rattle.model.specs.Operations.{Reply, Opening, on_path, on_paths, on_given, on_raw, canonicalize_at, set_current_dir_at, umask_to, create_dir_at, open_at, read_at, write_at, copy_at, hard_link_at, link_at, remove_at, a_file_out, a_dir_out, a_tree_out, rename_at, metadata_at, symlink_metadata_at, read_link_at, set_permissions_at, set_times_at, list_at, close_on, read_on, seek_on, set_length_on, set_mode_on, set_times_on, metadata_on}
use Rattle.model.specs.Calls.States.{State, entries_used, bytes_used, world_of, state_of}
use Rattle.model.specs.Calls.Calling.{Op, canonicalize, set_current_dir, set_umask, create_dir, open_file, read_file, write_file, copy_file, hard_link, link_file, remove_file, remove_dir, remove_tree, rename, metadata, symlink_metadata, read_link, set_permissions, set_times, list, close_number, read_number, seek_number, set_length, set_mode_number, set_times_number, metadata_number, Call, given_to, screen}

-- ---- what the call does

-- a bit of a flag word
abbrev pub bit : (word value : ℕ) → Bool
bit word value = eqb (word / value % 2) 1

-- what is given, or not
abbrev pub given_if : {A : Type 0} → Bool → A → Option A
given_if true a = some a
given_if false a = none

-- open's flags and mode
abbrev pub opening_of : (flags mode : ℕ) → Opening
opening_of f m = record { create = bit f 1; create_new = bit f 2; truncate = bit f 4; append = bit f 8; mode = given_if (bit f 16) m }

-- the program of each call: made absolute (set times: read raw), then the operation at that path; the bound is how many last links a
-- lookup follows
unfoldable pub program : (bound : ℕ) → Op → Prog Reply
program b (canonicalize s k) = on_given s (canonicalize_at b k)
program b (set_current_dir s) = on_given s (set_current_dir_at b)
program b (set_umask m) = umask_to m
program b (create_dir s t) = on_path s (create_dir_at b t)
program b (open_file n s f m t) = on_path s (open_at b (opening_of f m) n t)
program b (read_file s k) = on_path s (read_at b k)
program b (write_file s d t) = on_path s (write_at b t d)
program b (copy_file s d t) = on_paths s d (copy_at b t)
program b (hard_link s d t) = on_paths s d (hard_link_at b t)
program b (link_file g s t) = on_path s (link_at b g t)
program b (remove_file s) = on_path s (remove_at a_file_out b)
program b (remove_dir s) = on_path s (remove_at a_dir_out b)
program b (remove_tree s) = on_path s (remove_at a_tree_out b)
program b (rename s d t) = on_paths s d (rename_at b t)
program b (metadata s r) = on_path s (metadata_at b r)
program b (symlink_metadata s r) = on_path s (symlink_metadata_at r)
program b (read_link s k) = on_path s (read_link_at k)
program b (set_permissions s m) = on_path s (set_permissions_at b m)
program b (set_times s a m) = on_raw s (set_times_at b a m)
program b (list s k r) = on_path s (list_at b k r)
program b (close_number n) = close_on n
program b (read_number n k) = read_on n k
program b (seek_number n o k) = seek_on n o k
program b (set_length n k) = set_length_on n k
program b (set_mode_number n m) = set_mode_on n m
program b (set_times_number n f a m) = set_times_on n (given_if (bit f 1) a) (given_if (bit f 2) m)
program b (metadata_number n r) = metadata_on b n r

-- ---- what it comes to

-- accepted with an answer, or refused
pub data Result : Type 0 where
  accepted : Reply → Result
  refusal : ℕ → Result

-- "A refusal carries its number alone"; an accepted call has 0
abbrev pub result_number : Result → ℕ
result_number (accepted r) = 0
result_number (refusal n) = n

-- a result, and the state left
pub record Outcome : Type 0 where
  pub result : Result
  pub after : State

-- a result with the state left
abbrev pub outcome : Result → State → Outcome
outcome r s = record { result = r; after = s }

-- 15 before 16; a refusal leaves the state as it was
abbrev pub settle_by : (entries bytes : Bool) → (before : State) → Reply → (after : State) → Outcome
settle_by false b s r t = outcome (refusal no_entries) s
settle_by true false s r t = outcome (refusal no_bytes) s
settle_by true true s r t = outcome (accepted r) t

-- 15: "The tree that the call would leave passes the entry limit"; 16: "Bytes used after the call would pass the byte limit"
unfoldable pub settle : State → Out Reply → Outcome
settle s (refused n) = outcome (refusal n) s
settle s (done r w) = settle_by (leb (entries_used (state_of s w)) s.most) (leb (bytes_used (state_of s w)) s.room) s r (state_of s w)

-- refused before the program, or what the program comes to
abbrev pub decide_by : (refusal : ℕ) → State → Outcome → Outcome
decide_by zero s o = o
decide_by (suc n) s o = outcome (refusal (suc n)) s

-- a call with a bound on last links
unfoldable pub perform_with : (bound : ℕ) → Call → State → Outcome
perform_with b c s = decide_by (screen c.work (given_to c.op) s.opens) s (settle s (run (program b c.op) (world_of s)))

-- what a call answers and leaves: "a chain of last links longer than the number of links in the tree is a loop"
unfoldable pub perform : Call → State → Outcome
perform c s = perform_with (links_in s.tree) c s

-- ---- jobs

-- "A job is a list of calls", each on what the last one left
unfoldable pub after_job : List Call → State → State
after_job [] s = s
after_job (c ∷ j) s = after_job j (perform c s).after

-- what each call of a job answers
unfoldable pub results : List Call → State → List Result
results [] s = []
results (c ∷ j) s = (perform c s).result ∷ results j (perform c s).after
