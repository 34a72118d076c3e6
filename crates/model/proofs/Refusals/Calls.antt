-- In every call's program no refusal follows an edit: but for rename every test stands before the first edit, and what follows
-- rename's first edit is not refused. So a refused call leaves everything as it was.
-- Assumes nothing.
use mathlib.Core.Bool.{Bool, true, false}
use mathlib.Core.Path.{◌≡◌, refl}
use Prim.Native.Nat.{ℕ, zero, suc, ◌≤◌}
use native.Mathlib.Omega.{arith}
use lib.Dec.{leb}
use Rattle.model.specs.Tree.{links_in}
use Rattle.model.specs.Prog.{◌>>◌, Out, done, refused, run}
use Rattle.model.specs.Operations as O
use Rattle.model.specs.Operations.{Reply}
use Rattle.model.specs.Calls as Calls
use Rattle.model.specs.Calls.{State, entries_used, bytes_used, Op, Call, given_to, screen, program, world_of, state_of, refusal, Outcome, settle_by, settle, decide_by, perform_with, perform}
use Rattle.model.proofs.Refusals.Careful.{late, leaves, untouched, careful-never-late}
use Rattle.model.proofs.Refusals.Tests.{never-make_missing}
use Rattle.model.proofs.Refusals.Rename.{late-rename}
use Rattle.model.proofs.Refusals.Operations.{careful, careful-open_entry, careful-write_to, careful-a_file_out, careful-a_dir_out, careful-a_tree_out, careful-remove_at}

-- how the programs of the calls are put together
ruleset calls =
    (careful, never-make_missing, careful-open_entry, careful-write_to, careful-a_file_out, careful-a_dir_out, careful-a_tree_out, careful-remove_at)

-- no refusal comes after an edit, with at least as many last links allowed as the tree has links
pub never-late : (o : Op) (b : ℕ) (s : State) → links_in s.tree ≤ b → late (program b o) (world_of s) ≡ false
unfolding program ◌>>◌ O.on_path O.on_paths O.on_given O.on_raw O.canonicalize_at O.set_current_dir_at O.umask_to O.create_dir_at O.open_at O.read_at O.write_at O.copy_at O.hard_link_at O.link_at O.metadata_at O.symlink_metadata_at O.read_link_at O.set_permissions_at O.set_times_at O.list_at O.close_on O.read_on O.seek_on O.set_length_on O.set_mode_on O.set_times_on O.metadata_on
never-late (Calls.canonicalize p k) b s h = careful-never-late _ _ (search calls depth 20)
never-late (Calls.set_current_dir p) b s h = careful-never-late _ _ (search calls depth 20)
never-late (Calls.set_umask m) b s h = careful-never-late _ _ (search calls depth 20)
never-late (Calls.create_dir p t) b s h = careful-never-late _ _ (search calls depth 20)
never-late (Calls.open_file n p f m t) b s h = careful-never-late _ _ (search calls depth 20)
never-late (Calls.read_file p k) b s h = careful-never-late _ _ (search calls depth 20)
never-late (Calls.write_file p d t) b s h = careful-never-late _ _ (search calls depth 20)
never-late (Calls.copy_file p d t) b s h = careful-never-late _ _ (search calls depth 20)
never-late (Calls.hard_link p d t) b s h = careful-never-late _ _ (search calls depth 20)
never-late (Calls.link_file g p t) b s h = careful-never-late _ _ (search calls depth 20)
never-late (Calls.remove_file p) b s h = careful-never-late _ _ (search calls depth 20)
never-late (Calls.remove_dir p) b s h = careful-never-late _ _ (search calls depth 20)
never-late (Calls.remove_tree p) b s h = careful-never-late _ _ (search calls depth 20)
never-late (Calls.rename p d t) b s h = late-rename b p d t (world_of s) h
never-late (Calls.metadata p k) b s h = careful-never-late _ _ (search calls depth 20)
never-late (Calls.symlink_metadata p k) b s h = careful-never-late _ _ (search calls depth 20)
never-late (Calls.read_link p k) b s h = careful-never-late _ _ (search calls depth 20)
never-late (Calls.set_permissions p m) b s h = careful-never-late _ _ (search calls depth 20)
never-late (Calls.set_times p a m) b s h = careful-never-late _ _ (search calls depth 20)
never-late (Calls.list p k r) b s h = careful-never-late _ _ (search calls depth 20)
never-late (Calls.close_number n) b s h = careful-never-late _ _ (search calls depth 20)
never-late (Calls.read_number n k) b s h = careful-never-late _ _ (search calls depth 20)
never-late (Calls.seek_number n o k) b s h = careful-never-late _ _ (search calls depth 20)
never-late (Calls.set_length n k) b s h = careful-never-late _ _ (search calls depth 20)
never-late (Calls.set_mode_number n m) b s h = careful-never-late _ _ (search calls depth 20)
never-late (Calls.set_times_number n f a m) b s h = careful-never-late _ _ (search calls depth 20)
never-late (Calls.metadata_number n k) b s h = careful-never-late _ _ (search calls depth 20)

-- carried out in place, edit by edit, a program that is refused has changed nothing
pub refused-untouched : (o : Op) (b : ℕ) (s : State) (n : ℕ) → links_in s.tree ≤ b
    → run (program b o) (world_of s) ≡ refused n → leaves (program b o) (world_of s) ≡ world_of s
refused-untouched o b s n h e = untouched (program b o) (world_of s) n (never-late o b s h) e

-- ---- what a refused call leaves

-- a refusal leaves the state
abbrev Kept : State → ℕ → Outcome → Type 0
Kept s n o = o.result ≡ refusal n → o.after ≡ s

kept-settled : (s : State) (n : ℕ) (o : Out Reply) → Kept s n (settle s o)
unfolding settle
kept-settled s n (refused m) = λ _. refl
kept-settled s n (done r w) = by (leb (entries_used (state_of s w)) s.most) (leb (bytes_used (state_of s w)) s.room)
  where
    by : (a b : Bool) → Kept s n (settle_by a b s r (state_of s w))
    by false b = λ _. refl
    by true false = λ _. refl
    by true true = λ e. absurd (let z : ◌≡◌ {A = ℕ} 0 1 = cc in omega arith)

kept-decided : (k : ℕ) (s : State) (n : ℕ) (o : Outcome) → Kept s n o → Kept s n (decide_by k s o)
kept-decided zero s n o h = h
kept-decided (suc k) s n o h = λ _. refl

-- a refused call leaves tree, files, open numbers, current directory, umask and limits
pub refused-unchanged : (c : Call) (s : State) (n : ℕ) → (perform c s).result ≡ refusal n → (perform c s).after ≡ s
unfolding perform perform_with
refused-unchanged c s n =
    kept-decided (screen c.work (given_to c.op) s.opens) s n _ (kept-settled s n (run (program (links_in s.tree) c.op) (world_of s)))
