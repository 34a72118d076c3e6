-- A whole call without a path: refused by its tests, or what its operation comes to. Where the tests ask for an open number, it is open.
-- Assumes nothing.
use mathlib.Core.Bool.{Bool, true, false, ◌&&◌}
use mathlib.Core.List.{[]}
use mathlib.Core.Option.{Option, none, some}
use mathlib.Core.Path.{◌≡◌, refl, sym, ap, ◌∙◌}
use Prim.Native.Nat.{ℕ, ◌≤◌}
use lib.ListN.{get_or}
use mir.Syntax.{w8, w64}
use mir.Val.{Fits}
use native.Mathlib.Omega.{arith}
use lib.Dec.{leb}
use borrow.Author.Tests.{leb-true}
use Rattle.text.specs.Utf8.{Bytes}
use Rattle.model.specs.Tree.{Time, Open, open_of, links_in}
use Rattle.model.specs.Prog.{Position, open?, answer, on_some, Prog, run}
use Rattle.model.specs.Operations.Steps.{Reply, is_some}
use Rattle.model.specs.Calls.States.{State, world_of}
use Rattle.model.specs.Operations.Directories.{umask_to}
use Rattle.model.specs.Operations.Numbers.{close_on, read_on, seek_on, set_length_on, set_mode_on, set_times_on, metadata_on}
use Rattle.model.specs.Calls.Calling.{Op, set_umask, close_number, read_number, seek_number, set_length, set_mode_number, set_times_number, metadata_number, Given, all, first_of, work_fits, number_fits, opened, given_to, screen}
use Rattle.model.specs.Calls.Calling as model
use Rattle.model.specs.Calls.Performing.{bit, given_if, program}
use Rattle.model.specs.Buffers.{Outputs}
use Rattle.std.specs.Prelude.{List, Some, None, Ok, Err}
use Rattle.refusal.specs.Numbers.{number_of}
use Rattle.refusal.specs.declared.Refusal.{Refusal}
use Rattle.layout.specs.Store.{Store, core}
use Rattle.layout.specs.Lawful.{Passes, Sized}
use Rattle.layout.specs.Answers.{Lent, call_of, read_back, Answers}
use Rattle.store.specs.Shows.{Shows, says}
use Rattle.op.specs.declared.ready.Number.{Number}
use Rattle.op.specs.declared.ready.Number.TheVariants as number
use Rattle.op.specs.Doing.{Does, Done}
use Rattle.op.specs.Lending.{call_with}
use Rattle.op.specs.Testing.{Work, work_of, walks, given_by, screen_of, Tested, broken, passing}
use Rattle.op.specs.declared.parts.Sizes.{Sizes}
use Rattle.op.specs.Parts.{sizes_of, SizesOf}
use Rattle.op.proofs.Cutting.{shows-cut, shows_as, cut_by, cut_alike, Returned, returned_alike, sized-kept}
use Rattle.op.proofs.Doing.{done-broken, done-screened, done-does}
use Rattle.op.proofs.Calling.{same_run, not-zero, answers}

-- what such a call is given
abbrev pub untold : Work → Number → Given
untold w m = given_by w [] m

-- tests that pass
module _ {st : Store} {w : Work} {ts : List Bytes} {m : Number} where
  tested : Tested st w ts m (Ok tt) → Passes st × (0 ≡ screen_of w ts m (read_back st))
  tested (broken k e) = absurd (let z : ◌≡◌ {A = ℕ} 0 1 = cc in omega arith)
  tested (passing p e) = (p, e)

  pub tested-passes : Tested st w ts m (Ok tt) → Passes st
  tested-passes t = (tested t).0

-- a number that passes is open, and the working buffers have room for a path
module _ (s : State) (w : Work) (n : ℕ) (h : 0 ≡ screen_of w [] (number.Opened n) s) where
  fit : (work_fits (walks w) (work_of w) ≡ true) × (number_fits (opened n) s.opens ≡ true)
  unfolding screen all
  fit = go (work_fits (walks w) (work_of w)) (number_fits (opened n) s.opens) h
    where
      go : (a b : Bool) → 0 ≡ first_of a 14 (first_of b 4 0) → (a ≡ true) × (b ≡ true)
      go true true e = (refl, refl)
      go true false e = absurd (omega (arith, e))
      go false b e = absurd (omega (arith, e))

  open_told : (o : Position) × (says (open? n) s ≡ some o)
  unfolding number_fits answer
  open_told = go (open_of s.opens n) refl fit.1
    where
      none_told : (b : Bool) → b && false ≡ true → Prim.⊥
      none_told true y = let z : ◌≡◌ {A = ℕ} 0 1 = cc in omega arith
      none_told false y = let z : ◌≡◌ {A = ℕ} 0 1 = cc in omega arith

      go : (o : Option Open) → open_of s.opens n ≡ o → leb n 31 && is_some o ≡ true
          → (p : Position) × (on_some {B = Position} (open_of s.opens n) (λ x. some (record { pos = x.pos; kept = x.kept })) ≡ some p)
      go none x y = absurd (none_told (leb n 31) y)
      go (some o) x y =
          (record { pos = o.pos; kept = o.kept }, ap (λ (v : Option Open). on_some {B = Position} v (λ q. some (record { pos = q.pos; kept = q.kept }))) x)

-- so it is after tests that pass
pub tested-open : {st : Store} {w : Work} {n : ℕ} → Tested st w [] (number.Opened n) (Ok tt) → (o : Position) × (says (open? n) (read_back st) ≡ some o)
tested-open {st = st} {w = w} {n = n} t = open_told (read_back st) w n (tested t).1

pub tested-room : {st : Store} {w : ℕ × ℕ} {n : ℕ} → Tested st (Some w) [] (number.Opened n) (Ok tt) → 1024 ≤ w.0
tested-room {st = st} {w = w} {n = n} t = go (leb 1024 w.0) refl (fit (read_back st) (Some w) n (tested t).1).0
  where
    go : (x : Bool) → leb 1024 w.0 ≡ x → x && leb 1024 w.1 ≡ true → 1024 ≤ w.0
    go true e f = leb-true 1024 w.0 e
    go false e f = absurd (let z : ◌≡◌ {A = ℕ} 0 1 = cc in omega arith)

-- ---- the calls

-- a call is lent such buffers, is given this number, or none, and does p
pub record Numbers (c : Op) (w : Work) (m : Number) (p : ℕ → Prog Reply) : Type 0 where
  pub given : given_to c ≡ untold w m
  pub does : (bound : ℕ) → program bound c ≡ p bound

pub umask-numbers : (mask : ℕ) → Numbers (set_umask mask) None number.NotGiven (λ b. umask_to mask)
unfolding given_to program
umask-numbers mask = record { given = refl; does = λ b. refl }

pub close-numbers : (n : ℕ) → Numbers (close_number n) None (number.Opened n) (λ b. close_on n)
unfolding given_to program
close-numbers n = record { given = refl; does = λ b. refl }

pub read-numbers : (n lent : ℕ) → Numbers (read_number n lent) None (number.Opened n) (λ b. read_on n lent)
unfolding given_to program
read-numbers n lent = record { given = refl; does = λ b. refl }

pub seek-numbers : (n origin offset : ℕ) → Numbers (seek_number n origin offset) None (number.Opened n) (λ b. seek_on n origin offset)
unfolding given_to program
seek-numbers n origin offset = record { given = refl; does = λ b. refl }

pub length-numbers : (n size : ℕ) → Numbers (set_length n size) None (number.Opened n) (λ b. set_length_on n size)
unfolding given_to program
length-numbers n size = record { given = refl; does = λ b. refl }

pub mode-numbers : (n mode : ℕ) → Numbers (set_mode_number n mode) None (number.Opened n) (λ b. set_mode_on n mode)
unfolding given_to program
mode-numbers n mode = record { given = refl; does = λ b. refl }

pub times-numbers : (n flags : ℕ) (a m : Time) → Numbers (set_times_number n flags a m) None (number.Opened n) (λ b. set_times_on n (given_if (bit flags 1) a) (given_if (bit flags 2) m))
unfolding given_to program
times-numbers n flags a m = record { given = refl; does = λ b. refl }

pub metadata-numbers : (n rows a b : ℕ) → Numbers (metadata_number n rows) (Some (a, b)) (number.Opened n) (λ k. metadata_on k n rows)
unfolding given_to program
metadata-numbers n rows a b = record { given = refl; does = λ k. refl }

module _ (l : Lent) (st : Store) {w : Work} {m : Number} {p : ℕ → Prog Reply} (k : Numbers l.op w m p) (x : work_of w ≡ (call_of l).work) where
  abbrev s : State
  s = read_back st

  tests : screen_of w [] m s ≡ screen (call_of l).work (given_to l.op) s.opens
  tests = ap (λ (v : Given). screen (work_of w) v s.opens) (sym k.given) ∙ ap (λ (v : model.Work). screen v (given_to l.op) s.opens) x

  -- 1, 14 or 4
  pub number-refused : {e : Refusal} → Tested st w [] m (Err e) → Done l st st l.outputs (number_of e)
  number-refused {e = e} (broken b y) = done-broken l st b (number_of e) (cc)
  number-refused {e = e} (passing y z) = done-screened l st y (number_of e) (not-zero e) (z ∙ tests)

  -- what the operation comes to
  pub number-done : Tested st w [] m (Ok tt) → (u after : Store) (out : Outputs) (q : ℕ) → Does (p (links_in s.tree)) s u l.outputs out q → Returned (sizes_of st) st u after → Sized (core after) → Done l st after out q
  number-done t u after out q d b y =
      done-does l st (tested-passes t) ((tested t).1 ∙ tests) u after out q (same_run (ap (λ (v : Prog Reply). run v (world_of s)) (k.does (links_in s.tree))) d) b y

-- the same of a call that is lent no working buffers
module _ {c : Op} {o : Outputs} (st : Store) {m : Number} {p : ℕ → Prog Reply} (k : Numbers c None m p) where
  pub answers-refused : {e : Refusal} {r : ℕ} → Tested st None [] m (Err e) → r ≡ number_of e → Answers (call_with c o [] []) st st o [] [] r
  answers-refused t x = answers (number-refused (call_with c o [] []) st k refl t) refl refl x

  pub answers-done : Tested st None [] m (Ok tt) → {u after : Store} {to : Outputs} {q r : ℕ} → Does (p (links_in (read_back st).tree)) (read_back st) u o to q → Returned (sizes_of st) st u after
      → Sized (core after) → r ≡ q → Answers (call_with c o [] []) st after to [] [] r
  answers-done t d b y x = answers (number-done (call_with c o [] []) st k refl t _ _ _ _ d b y) refl refl x

-- and of one that leaves the times
module _ {c : Op} {o : Outputs} {st : Store} {m : Number} {p : ℕ → Prog Reply} (k : Numbers c None m p) where
  pub answers-changed : Tested st None [] m (Ok tt) → {u after : Store} {to : Outputs} {q r : ℕ} → Does (p (links_in (read_back st).tree)) (read_back st) u o to q → Returned (sizes_of st) st u after
      → after.times ≡ st.times → ((i : ℕ) → Fits w64 (get_or after.words i 0)) → ((i : ℕ) → Fits w64 (get_or after.heads i 0)) → ((i : ℕ) → Fits w8 (get_or after.bytes i 0)) → r ≡ q
      → Answers (call_with c o [] []) st after to [] [] r
  answers-changed t d b f ws hs bs x = answers-done st k t d b (sized-kept st _ _ (tested-passes t) b d.shows.roomy.lawful f ws hs bs) x

-- ---- an operation over the parts that the limits ask: where the tests pass, they show the state that is read back, in which the number is open

module _ {st : Store} {n : Sizes} {w : Work} {k : ℕ} (z : SizesOf st n) (t : Tested st w [] (number.Opened k) (Ok tt)) where
  pub open-shows : Shows (cut_by n st) (read_back st)
  open-shows = shows_as (cut_alike z) (shows-cut st (tested-passes t))

  -- what it asks
  pub open-cut : {had : Store → Store} → had (cut_by n st) ≡ cut_by n st → (v : Store) × (s : State) × Shows (had v) s × ((o : Position) × (says (open? k) s ≡ some o))
  open-cut e = (cut_by n st, read_back st, shows_as e open-shows, tested-open t)

-- and what the call comes to, where the times are left
pub answers-open : {c : Op} {o : Outputs} {st : Store} {n : Sizes} {i : ℕ} {p : ℕ → Prog Reply} → Numbers c None (number.Opened i) p → SizesOf st n → Tested st None [] (number.Opened i) (Ok tt)
    → {had has : Store → Store} {to : Outputs} {q r : ℕ} → had (cut_by n st) ≡ cut_by n st
    → ((v : Store) (s : State) → Shows (had v) s → (x : Position) × (says (open? i) s ≡ some x) → Does (p (links_in s.tree)) s (has v) o to q)
    → {after : Store} → Returned n st (has (cut_by n st)) after → after.times ≡ st.times
    → ((i : ℕ) → Fits w64 (get_or after.words i 0)) → ((i : ℕ) → Fits w64 (get_or after.heads i 0)) → ((i : ℕ) → Fits w8 (get_or after.bytes i 0)) → r ≡ q
    → Answers (call_with c o [] []) st after to [] [] r
answers-open {st = st} {n = n} k z t e d b f ws hs bs x =
    answers-changed k t (d (cut_by n st) (read_back st) (shows_as e (open-shows z t)) (tested-open t)) (returned_alike z b) f ws hs bs x
