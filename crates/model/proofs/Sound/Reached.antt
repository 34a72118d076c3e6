-- Every state reached from set up by calls obeys the rules of the tree: set up leaves none broken, and a call that passes the
-- screen is a program whose edits are all allowed.
-- Assumes nothing.
use mathlib.Core.Bool.{Bool, true, false, not}
use mathlib.Core.List.{List, [], ◌∷◌}
use mathlib.Core.Option.{Option, none, some}
use mathlib.Core.Path.{◌≡◌, refl, subst}
use Prim.Native.Nat.{ℕ, zero, suc, ◌≤◌}
use native.Mathlib.Omega.{arith}
use lib.Dec.{T, leb, leb→le, lit<}
use Rattle.text.specs.Utf8.{Bytes}
use Rattle.text.specs.Utf8.{text as isText}
use Rattle.path.specs.Path.{lengths_ok, path_fits, body}
use Rattle.path.proofs.Laws.{and_left, and_right}
use Rattle.model.specs.Tree
use Rattle.model.specs.Tree.{Time, file, Open, look, file_of, open_of, names_and_targets, contents_length}
use Rattle.model.specs.Prog.{World, run}
use Rattle.model.specs.Operations.{is_some, a_file_out, a_dir_out, a_tree_out}
use Rattle.model.specs.Calls
use Rattle.model.specs.Calls.{State, fresh_state, Op, Work, Call, bit, opening_of, given_if, Number, no_number, free, opened, Given, given_to, all, work_fits, number_fits, first_of, screen, program, world_of, settle, decide_by, perform_with, perform, after_job}
use Rattle.model.specs.Rules.{names_ok, path_ok, target_ok, Obeys}
use Rattle.model.specs.Passable.{Unsigned32, Signed64, OpFits, Passable, PassableJob}
use Rattle.model.proofs.Entries.{of_true, clash, some_inj}
use Rattle.model.proofs.Running.{After}
use Rattle.model.proofs.Sound.Worlds.{Sound, GivenOk}
use Rattle.model.proofs.Sound.Paths.{target_both}
use Rattle.model.proofs.Sound.Parts.{Fine, on_path-fine, on_paths-fine}
use Rattle.model.proofs.Sound.Operations.{Small, on_given-fine, canonicalize-fine, copy-fine, create_dir-fine, hard_link-fine, link-fine, list-fine, metadata-fine, open-fine, read-fine, read_link-fine, remove-fine, set_current_dir-fine, set_permissions-fine, set_times-fine, symlink_metadata-fine, write-fine}
use Rattle.model.proofs.Sound.Numbers.{close_number-fine, metadata_number-fine, read_number-fine, a_dir_out-fine, a_file_out-fine, a_tree_out-fine, seek_number-fine, set_length-fine, set_mode-fine, set_times_number-fine, set_umask-fine}
use Rattle.model.proofs.Sound.Rename.{rename-fine}
use Rattle.model.proofs.Sound.Settled.{world-sound, settle-obeys, files-small}
use Rattle.model.proofs.Sound.Meets.{sound-run}

-- ---- set up

-- a fresh state breaks no rule: it has no entry, no file and no open number
pub fresh-obeys : (most room : ℕ) → 1 ≤ most → most ≤ 4096 → 256 ≤ room → room ≤ 1048576 → Obeys (fresh_state most room)
unfolding look file_of open_of names_and_targets contents_length path_ok names_ok path_fits body
fresh-obeys most room a b c d = record {
  entry_limit = (a, b);
  byte_limit = (c, d);
  entries_fit = omega arith;
  bytes_fit = omega arith;
  paths = tt;
  root = λ n e. clash none n refl e;
  parents = λ p x n e. clash none n refl e;
  named = λ p n e. clash none n refl e;
  nodes = λ p n e. clash none n refl e;
  files = tt;
  each_file = λ i f e. clash none f refl e;
  one_name = λ p q i e _. clash none (file i) refl e;
  used = λ i f e. clash none f refl e;
  numbers = tt;
  opens = λ n o e. clash none o refl e;
  current = tt;
  umask = lit< tt;
}

-- ---- the screen

-- each text is as a target may be
abbrev TextsOk : List Bytes → Type 0
TextsOk [] = Unit {0}
TextsOk (t ∷ ts) = T (target_ok t) × TextsOk ts

texts-ok : (ts : List Bytes) → T (all isText ts) → T (all lengths_ok ts) → TextsOk ts
unfolding all
texts-ok [] a b = tt
texts-ok (t ∷ ts) a b = (
  target_both t (and_left (isText t) (all isText ts) a) (and_left (lengths_ok t) (all lengths_ok ts) b),
  texts-ok ts (and_right (isText t) (all isText ts) a) (and_right (lengths_ok t) (all lengths_ok ts) b),
)

-- a number that must be free is, and is one
abbrev NumberFits : Number → List Open → Type 0
NumberFits no_number os = Unit {0}
NumberFits (free n) os = (n ≤ 31) × (open_of os n ≡ none)
NumberFits (opened n) os = Unit {0}

number_fits_lem : (n : Number) (os : List Open) → T (number_fits n os) → NumberFits n os
unfolding number_fits
number_fits_lem no_number os h = tt
number_fits_lem (free n) os h =
    (leb→le n 31 (and_left (leb n 31) (not (is_some (open_of os n))) h), go (open_of os n) (and_right (leb n 31) (not (is_some (open_of os n))) h))
  where
    go : (o : Option Open) → T (not (is_some o)) → o ≡ none
    go none h = refl
    go (some o) h = absurd h
number_fits_lem (opened n) os h = tt

-- what passed the screen
record Screened (g : Given) (os : List Open) : Type 0 where
  texts : TextsOk g.texts
  number : NumberFits g.number os

-- a call that the screen does not refuse
screened : (k : Work) (g : Given) (os : List Open) → screen k g os ≡ 0 → Screened g os
unfolding screen
screened k g os e = go (work_fits g.walks k) (all isText g.texts) refl (all lengths_ok g.texts) refl (number_fits g.number os) refl e
  where
    go : (a b : Bool) → all isText g.texts ≡ b → (c : Bool) → all lengths_ok g.texts ≡ c → (d : Bool) → number_fits g.number os ≡ d
        → first_of a 14 (first_of b 2 (first_of c 3 (first_of d 4 0))) ≡ 0 → Screened g os
    go false b x c y d z e = absurd (omega arith)
    go true false x c y d z e = absurd (omega arith)
    go true true x false y d z e = absurd (omega arith)
    go true true x true y false z e = absurd (omega arith)
    go true true x true y true z e =
        record { texts = texts-ok g.texts (of_true x) (of_true y); number = number_fits_lem g.number os (of_true z) }

-- ---- the programs

-- a time that may be given
given-if : (b : Bool) (t : Time) → Signed64 t → GivenOk (given_if b t)
given-if true t k = k
given-if false t k = tt

-- a mode that may be given
mode_if : (b : Bool) (m : ℕ) → Unsigned32 m → (n : ℕ) → given_if b m ≡ some n → Unsigned32 n
mode_if true m k n e = subst Unsigned32 (some_inj e) k
mode_if false m k n e = clash none n refl e

module _ (b : ℕ) (w : World) (s : Sound w) (m : Small w.files) where
  -- the program of a call that passed the screen
  program-fine : (o : Op) → OpFits o → Screened (given_to o) w.opens → Fine (program b o) w
  unfolding program given_to
  program-fine (Calls.canonicalize g k) p c = on_given-fine w s b g _ c.texts.0 λ q _. canonicalize-fine w s b k q
  program-fine (Calls.set_current_dir g) p c = on_given-fine w s b g _ c.texts.0 λ q ok. set_current_dir-fine w s b q ok
  program-fine (Calls.set_umask k) p c = set_umask-fine w k p
  program-fine (Calls.create_dir g t) p c = on_path-fine w s g _ c.texts.0 λ q ok. create_dir-fine w s b t q p ok
  program-fine (Calls.open_file n g f k t) p c =
      on_path-fine w s g _ c.texts.0 λ q ok. open-fine w s b m (opening_of f k) n t q (mode_if (bit f 16) k p.2) p.3 c.number.0 c.number.1 ok
  program-fine (Calls.read_file g k) p c = on_path-fine w s g _ c.texts.0 λ q ok. read-fine w s b k q ok
  program-fine (Calls.write_file g d t) p c = on_path-fine w s g _ c.texts.0 λ q ok. write-fine w s b t p.1 d q p.0 ok
  program-fine (Calls.copy_file g d t) p c = on_paths-fine w s g d _ c.texts.0 c.texts.1.0 λ q r qk rk. copy-fine w s b t p q r qk rk
  program-fine (Calls.hard_link g d t) p c = on_paths-fine w s g d _ c.texts.0 c.texts.1.0 λ q r qk rk. hard_link-fine w s b t p q r rk
  program-fine (Calls.link_file g d t) p c = on_path-fine w s d _ c.texts.1.0 λ q ok. link-fine w s b g t q c.texts.0 p ok
  program-fine (Calls.remove_file g) p c = on_path-fine w s g _ c.texts.0 λ q ok. remove-fine w s b a_file_out q ok (a_file_out-fine w)
  program-fine (Calls.remove_dir g) p c = on_path-fine w s g _ c.texts.0 λ q ok. remove-fine w s b a_dir_out q ok (a_dir_out-fine w)
  program-fine (Calls.remove_tree g) p c = on_path-fine w s g _ c.texts.0 λ q ok. remove-fine w s b a_tree_out q ok (a_tree_out-fine w)
  program-fine (Calls.rename g d t) p c = on_paths-fine w s g d _ c.texts.0 c.texts.1.0 λ q r qk rk. rename-fine w s b t p q r qk rk
  program-fine (Calls.metadata g k) p c = on_path-fine w s g _ c.texts.0 λ q ok. metadata-fine w s b k q
  program-fine (Calls.symlink_metadata g k) p c = on_path-fine w s g _ c.texts.0 λ q ok. symlink_metadata-fine w s b k q
  program-fine (Calls.read_link g k) p c = on_path-fine w s g _ c.texts.0 λ q ok. read_link-fine w s b k q
  program-fine (Calls.set_permissions g k) p c = on_path-fine w s g _ c.texts.0 λ q ok. set_permissions-fine w s b k q p
  program-fine (Calls.set_times g a t) p c = set_times-fine w s b g a t p.0 p.1
  program-fine (Calls.list g k r) p c = on_path-fine w s g _ c.texts.0 λ q ok. list-fine w s b k r q
  program-fine (Calls.close_number n) p c = close_number-fine w n
  program-fine (Calls.read_number n k) p c = read_number-fine w n s m k
  program-fine (Calls.seek_number n o k) p c = seek_number-fine w n o k p.2
  program-fine (Calls.set_length n k) p c = set_length-fine w n s k
  program-fine (Calls.set_mode_number n k) p c = set_mode-fine w n k p.1
  program-fine (Calls.set_times_number n f a t) p c =
      set_times_number-fine w n (given_if (bit f 1) a) (given_if (bit f 2) t) (given-if (bit f 1) a p.2) (given-if (bit f 2) t p.3)
  program-fine (Calls.metadata_number n k) p c = metadata_number-fine w n s b k

-- ---- calls and jobs

-- the world that a call's program ends in
pub program-sound : (b : ℕ) (c : Call) (s : State) → Passable c → Obeys s → screen c.work (given_to c.op) s.opens ≡ 0
    → After (run (program b c.op) (world_of s)) (λ _ w. Sound w × Unit {0})
program-sound b c s p o e =
    sound-run (world-sound s o) (program-fine b (world_of s) (world-sound s o) (files-small s o) c.op p.2 (screened c.work (given_to c.op) s.opens e))

-- with any number of last links to follow
perform_with-obeys : (b : ℕ) (c : Call) (s : State) → Passable c → Obeys s → Obeys (perform_with b c s).after
unfolding perform_with
perform_with-obeys b c s p o = go (screen c.work (given_to c.op) s.opens) refl
  where
    go : (n : ℕ) → screen c.work (given_to c.op) s.opens ≡ n → Obeys (decide_by n s (settle s (run (program b c.op) (world_of s)))).after
    go zero e = settle-obeys s o (run (program b c.op) (world_of s)) (program-sound b c s p o e)
    go (suc n) e = o

-- a call of a state that obeys the rules leaves one that does
pub perform-obeys : (c : Call) (s : State) → Passable c → Obeys s → Obeys (perform c s).after
unfolding perform
perform-obeys c s p o = perform_with-obeys (Tree.links_in s.tree) c s p o

-- and so does a job
pub job-obeys : (j : List Call) (s : State) → PassableJob j → Obeys s → Obeys (after_job j s)
unfolding after_job
job-obeys [] s p o = o
job-obeys (c ∷ j) s p o = job-obeys j (perform c s).after p.1 (perform-obeys c s p.0 o)

-- every state reached from set up by calls obeys the rules of the tree
pub reached-obeys : (most room : ℕ) → 1 ≤ most → most ≤ 4096 → 256 ≤ room → room ≤ 1048576
    → (j : List Call) → PassableJob j → Obeys (after_job j (fresh_state most room))
reached-obeys most room a b c d j p = job-obeys j (fresh_state most room) p (fresh-obeys most room a b c d)
