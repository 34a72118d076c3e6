-- A whole call with one path: refused as it begins, or what its operation comes to at the path in front of the working buffer.
-- Assumes nothing.
use mathlib.Core.List.{[], ◌∷◌}
use mathlib.Core.Path.{◌≡◌, refl, sym, ap, ◌∙◌, subst}
use Prim.Native.Nat.{ℕ}
use native.Mathlib.Omega.{arith}
use lib.ListN.{length, take, replicate}
use Rattle.text.specs.Utf8.{Bytes}
use Rattle.path.specs.Path.{names}
use Rattle.model.specs.Tree.{Path, links_in}
use Rattle.model.specs.Prog.{Prog, Out, refused, run}
use Rattle.model.specs.Operations.Steps.{Reply}
use Rattle.model.specs.Calls.States.{State, world_of}
use Rattle.model.specs.Calls.Calling.{Op, canonicalize, set_current_dir, read_file, metadata, symlink_metadata, read_link, list, Given, given_to, with_texts, screen}
use Rattle.model.specs.Operations.Directories.{canonicalize_at, set_current_dir_at}
use Rattle.model.specs.Operations.Contents.{read_at}
use Rattle.model.specs.Operations.Shows.{metadata_at, symlink_metadata_at, read_link_at, list_at}
use Rattle.model.specs.Calls.Performing.{settle, result_number, program}
use Rattle.model.specs.Buffers.{Outputs, outputs_after}
use Rattle.std.specs.Prelude.{Result, Ok, Err}
use Rattle.std.specs.Result.{IsErrAnd}
use Rattle.refusal.specs.Numbers.{number_of, answered}
use Rattle.refusal.specs.declared.Refusal.{Refusal}
use Rattle.refusal.specs.declared.Refusal.TheVariants as is
use Rattle.layout.specs.Store.{Store, core}
use Rattle.layout.specs.Lent.{lent_by}
use Rattle.layout.specs.declared.slices.Slices.{Slices}
use Rattle.layout.specs.Lawful.{Passes, Sized}
use Rattle.layout.specs.Answers.{Lent, call_of, read_back, Answers}
use Rattle.model.specs.Buffers.{cleared}
use Rattle.store.specs.Shows.{Shows, Some}
use Rattle.op.specs.declared.begin.Sort.{Sort}
use Rattle.op.specs.declared.begin.Sort.TheVariants as sort
use Rattle.op.specs.Doing.{Does, Done}
use Rattle.walk.specs.Meets.{PathIn}
use Rattle.op.specs.Beginning.{taken, Stops, screened, Begins, broken, tested, formed}
use Rattle.op.specs.Parts.{cut, sizes_of}
use Rattle.op.proofs.Cutting.{shows-cut, shows_as, Returned, not_written}
use Rattle.op.proofs.Doing.{does-refused, done-broken, done-screened, done-does, done-err}

-- programs with one run come to the same
pub same_run : {p q : Prog Reply} {s : State} {u : Store} {o after : Outputs} {r : ℕ} → run p (world_of s) ≡ run q (world_of s) → Does q s u o after r → Does p s u o after r
same_run {s = s} {u = u} {o = o} e d = record {
  number = d.number ∙ ap (λ (x : Out Reply). result_number (settle s x).result) (sym e);
  answer = d.answer ∙ ap (λ (x : Out Reply). outputs_after (settle s x).result o) (sym e);
  shows = subst (λ (x : Out Reply). Shows u (settle s x).after) (sym e) d.shows;
}

-- a refusal is not 0
pub not-zero : (e : Refusal) → number_of e ≡ 0 → ⊥
not-zero is.BadStore z = absurd (omega arith)
not-zero is.BadText z = absurd (omega arith)
not-zero is.TextTooLong z = absurd (omega arith)
not-zero is.BadNumber z = absurd (omega arith)
not-zero is.NoLastName z = absurd (omega arith)
not-zero is.PathTooLong z = absurd (omega arith)
not-zero is.LinkLoop z = absurd (omega arith)
not-zero is.NotFound z = absurd (omega arith)
not-zero is.NotDirectory z = absurd (omega arith)
not-zero is.WrongKind z = absurd (omega arith)
not-zero is.UnderItself z = absurd (omega arith)
not-zero is.AlreadyThere z = absurd (omega arith)
not-zero is.BadSeek z = absurd (omega arith)
not-zero is.ShortBuffer z = absurd (omega arith)
not-zero is.NoEntries z = absurd (omega arith)
not-zero is.NoBytes z = absurd (omega arith)

-- ---- calls with one path

-- a call is given this path alone, takes it so, and does f at it
pub record Takes (c : Op) (o : Sort) (path : Bytes) (f : ℕ → Path → Prog Reply) : Type 0 where
  pub given : given_to c ≡ with_texts (path ∷ [])
  pub does : (bound : ℕ) → program bound c ≡ taken o path (f bound)

pub metadata-takes : (path : Bytes) (rows : ℕ) → Takes (metadata path rows) sort.Any path (λ b. metadata_at b rows)
unfolding given_to program
metadata-takes path rows = record { given = refl; does = λ b. refl }

pub symlink-metadata-takes : (path : Bytes) (rows : ℕ) → Takes (symlink_metadata path rows) sort.Any path (λ b. symlink_metadata_at rows)
unfolding given_to program
symlink-metadata-takes path rows = record { given = refl; does = λ b. refl }

pub read-link-takes : (path : Bytes) (lent : ℕ) → Takes (read_link path lent) sort.Any path (λ b. read_link_at lent)
unfolding given_to program
read-link-takes path lent = record { given = refl; does = λ b. refl }

pub list-takes : (path : Bytes) (lent rows : ℕ) → Takes (list path lent rows) sort.Any path (λ b. list_at b lent rows)
unfolding given_to program
list-takes path lent rows = record { given = refl; does = λ b. refl }

pub read-takes : (path : Bytes) (lent : ℕ) → Takes (read_file path lent) sort.Any path (λ b. read_at b lent)
unfolding given_to program
read-takes path lent = record { given = refl; does = λ b. refl }

pub canonicalize-takes : (path : Bytes) (lent : ℕ) → Takes (canonicalize path lent) sort.Named path (λ b. canonicalize_at b lent)
unfolding given_to program
canonicalize-takes path lent = record { given = refl; does = λ b. refl }

pub current-takes : (path : Bytes) → Takes (set_current_dir path) sort.Named path set_current_dir_at
unfolding given_to program
current-takes path = record { given = refl; does = λ b. refl }

-- the slices pass where the call goes on, and the path is there
module _ {st : Store} {first second : Bytes} {o : Sort} {path out : Bytes} {n : ℕ} where
  pub began : Begins st first second o path out (Ok n) → Passes st × (0 ≡ screened first second path (read_back st)) × Stops (read_back st) o path out (Ok n)
  began (broken h z) = absurd (let k : ◌≡◌ {A = ℕ} 0 1 = cc in omega arith)
  began (tested p e z t) = absurd (let k : ◌≡◌ {A = ℕ} 0 1 = cc in omega arith)
  began (formed p z k) = (p, z, k)

  pub begins-passes : Begins st first second o path out (Ok n) → Passes st
  begins-passes b = (began b).0

  pub begins-path : Begins st first second o path out (Ok n) → PathIn out n
  unfolding Stops
  begins-path b = (began b).2.0

module _ (l : Lent) (st : Store) {o : Sort} {path : Bytes} {f : ℕ → Path → Prog Reply} (t : Takes l.op o path f) where
  abbrev s : State
  s = read_back st

  abbrev bound : ℕ
  bound = links_in s.tree

  tests : screened l.first l.second path s ≡ screen (call_of l).work (given_to l.op) s.opens
  tests = ap (λ (v : Given). screen (call_of l).work v s.opens) (sym t.given)

  whole_run : (r : Out Reply) → run (taken o path (f bound)) (world_of s) ≡ r → run (program bound l.op) (world_of s) ≡ r
  whole_run r k = ap (λ (p : Prog Reply). run p (world_of s)) (t.does bound) ∙ k

  -- 1, 14, 2, 3, or 8 or 6
  pub done_refused : {out : Bytes} {e : Refusal} → Begins st l.first l.second o path out (Err e) → Done l st st l.outputs (number_of e)
  unfolding Stops
  done_refused {e = e} (broken h z) = done-broken l st h (number_of e) (cc)
  done_refused {e = e} (tested p d z k) = let i : e ≡ d = cc in done-screened l st p (number_of e) (not-zero e) (ap number_of i ∙ k ∙ tests)
  done_refused {e = e} (formed p z k) =
      done-does l st p (z ∙ tests) (cut st) st l.outputs (number_of e)
      (does-refused _ s (cut st) (shows-cut st p) l.outputs (number_of e) (whole_run (refused (number_of e)) (k (f bound)))) (not_written st) p.2

  -- what the operation comes to at the path
  pub done_at : {out : Bytes} {n : ℕ} → Begins st l.first l.second o path out (Ok n) → (u after : Store) (to : Outputs) (r : ℕ) → Does (f bound (names (take n out))) s u l.outputs to r
      → Returned (sizes_of st) st u after → Sized (core after) → Done l st after to r
  unfolding Stops
  done_at b u after to r d k z =
      let p = began b in
      done-does l st p.0 (p.1 ∙ tests) u after to r (same_run (whole_run _ (p.2.1 (f bound))) d) k z

  -- without an edit
  pub done-asked : {out : Bytes} {n : ℕ} → Begins st l.first l.second o path out (Ok n) → (u : Store) → u ≡ cut st → (to : Outputs) (r : ℕ) → Does (f bound (names (take n out))) s u l.outputs to r
      → Done l st st to r
  done-asked b u e to r d = done_at b u st to r d (subst (λ (x : Store). Returned (sizes_of st) st x st) (sym e) (not_written st)) (begins-passes b).2

-- ---- the same of a shell: the tests, and an operation that makes no edit, over the parts that the limits ask

module _ {l : Lent} {st : Store} {o : Sort} {path out : Bytes} where
  pub shell-refused : {f : ℕ → Path → Prog Reply} → Takes l.op o path f → (r : Result Unit Refusal) (e : Refusal) → IsErrAnd r (λ y. y ≡ e) → Begins st l.first l.second o path out (Err e)
      → Done l st st l.outputs (answered r)
  shell-refused t r e x b = done-err r e x (done_refused l st t b)

  pub shell-asked : {f : ℕ → Path → Prog Reply} → Takes l.op o path f → {n : ℕ} → Begins st l.first l.second o path out (Ok n) → {has : Store → Store} (u : Slices) → has (lent_by u) ≡ cut st → {to : Outputs} {r : ℕ}
      → ((v : Store) (s : State) → Shows (has v) s → Does (f (links_in s.tree) (names (take n out))) s (has v) l.outputs to r) → Done l st st to r
  shell-asked t b u e d = done-asked l st t b _ e _ _ (d (lent_by u) (read_back st) (shows_as e (shows-cut st (begins-passes b))))

-- what the operation asks
pub shell-requires : {st : Store} {first second : Bytes} {o : Sort} {path out : Bytes} {n : ℕ} → Begins st first second o path out (Ok n) → {has : Store → Store} (v : Store) → has v ≡ cut st
    → Some has × PathIn out n
shell-requires {st = st} b v e = ((v, read_back st, shows_as e (shows-cut st (begins-passes b))), begins-path b)

-- and both working buffers are cleared
pub answers : {l : Lent} {st after : Store} {to : Outputs} {r q : ℕ} → Done l st after to r → {first second : Bytes} → first ≡ cleared l.first → second ≡ cleared l.second → q ≡ r
    → Answers l st after to first second q
answers {l = l} {st = st} {after = after} {to = to} d a b e = subst (Answers l st after to _ _) (sym e) (record { passing = d.passing; broken = d.broken; first_cleared = a; second_cleared = b })

-- the first of them as the call has left it
pub answers_finished : {l : Lent} {st after : Store} {to : Outputs} {r q : ℕ} → Done l st after to r → (left : Bytes) {first second : Bytes} → length left ≡ length l.first → first ≡ cleared left
    → second ≡ cleared l.second → q ≡ r → Answers l st after to first second q
answers_finished d left n a b e = answers d (a ∙ ap (λ (k : ℕ). replicate k 0) n) b e
