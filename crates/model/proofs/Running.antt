-- A run goes on where its first part ends. A program that only asks leaves the world, so what it tells can be said of one world,
-- part by part.
-- Assumes nothing.
use mathlib.Core.Bool.{Bool, true, false}
use mathlib.Core.Path.{◌≡◌, refl}
use Prim.Native.Nat.{ℕ}
use Rattle.model.specs.Prog.{World, Answer, answer, apply, Prog, ret, stop, ask, edit, ◌>>=◌, ◌>>◌, need, Out, done, refused, run}

-- what follows a result, on the world that it leaves
abbrev pub then : {A B : Type 0} → Out A → (A → World → Out B) → Out B
then (done a w) k = k a w
then (refused n) k = refused n

-- a run in two parts
pub run_bind : {A B : Type 0} (p : Prog A) (f : A → Prog B) (w : World) → run (p >>= f) w ≡ then (run p w) (λ a u. run (f a) u)
unfolding run ◌>>=◌
run_bind (ret a) f w = refl
run_bind (stop n) f w = refl
run_bind (ask q k) f w = run_bind (k (answer q w)) f w
run_bind (edit e p) f w = run_bind p f (apply e w)

-- a result, or the refusal
abbrev pub allowed : {A : Type 0} → Bool → ℕ → Out A → Out A
allowed true n o = o
allowed false n o = refused n

-- a test, and what follows
pub need-run : {A : Type 0} (b : Bool) (n : ℕ) (p : Prog A) (w : World) → run (need b n >> p) w ≡ allowed b n (run p w)
unfolding need ◌>>◌ ◌>>=◌ run
need-run true n p w = refl
need-run false n p w = refl

-- ---- programs that only ask

-- on this world the program only asks, and an answer is as Q says
abbrev pub Tells : {A : Type 0} → Prog A → World → (A → Type 0) → Type 0
Tells (ret a) w Q = Q a
Tells (stop n) w Q = Unit {0}
Tells (ask q k) w Q = Tells (k (answer q w)) w Q
Tells (edit e p) w Q = ⊥

-- what the second part tells, by what the first does
pub tells-bind : {A B : Type 0} (p : Prog A) (f : A → Prog B) (w : World) (Q : A → Type 0) (R : B → Type 0) →
    Tells p w Q → ((a : A) → Q a → Tells (f a) w R) → Tells (p >>= f) w R
unfolding ◌>>=◌
tells-bind (ret a) f w Q R h k = k a h
tells-bind (stop n) f w Q R h k = tt
tells-bind (ask q g) f w Q R h k = tells-bind (g (answer q w)) f w Q R h k
tells-bind (edit e p) f w Q R h k = absurd h

-- the world is left, and an answer is as Q says
abbrev pub Leaves : {A : Type 0} → World → (A → Type 0) → Out A → Type 0
Leaves w Q (done a u) = (u ≡ w) × Q a
Leaves w Q (refused n) = Unit {0}

-- what a run of it comes to
pub tells-run : {A : Type 0} (p : Prog A) (w : World) (Q : A → Type 0) → Tells p w Q → Leaves w Q (run p w)
unfolding run
tells-run (ret a) w Q h = (refl, h)
tells-run (stop n) w Q h = tt
tells-run (ask q k) w Q h = tells-run (k (answer q w)) w Q h
tells-run (edit e p) w Q h = absurd h

-- the same of a run with an answer
pub tells-done : {A : Type 0} (p : Prog A) (w : World) (Q : A → Type 0) → Tells p w Q → (a : A) (u : World) → run p w ≡ done a u → (u ≡ w) × Q a
tells-done p w Q h a u y = rw y at (tells-run p w Q h)

-- the answer that is told is the run's
pub tells_itself : {A : Type 0} (p : Prog A) (w : World) (Q : A → Type 0) → Tells p w Q → Tells p w (λ a. (run p w ≡ done a w) × Q a)
unfolding run
tells_itself (ret a) w Q h = (refl, h)
tells_itself (stop n) w Q h = tt
tells_itself (ask q k) w Q h = tells_itself (k (answer q w)) w Q h
tells_itself (edit e p) w Q h = absurd h

-- what follows a program that only asks, on the same world
abbrev pub onto : {A B : Type 0} → Out A → (A → Out B) → Out B
onto (done a w) k = k a
onto (refused n) k = refused n

-- a run in two parts, the first of which only asks
pub tells_then : {A B : Type 0} (p : Prog A) (f : A → Prog B) (w : World) (Q : A → Type 0) → Tells p w Q → run (p >>= f) w ≡ onto (run p w) (λ a. run (f a) w)
unfolding run ◌>>=◌
tells_then (ret a) f w Q h = refl
tells_then (stop n) f w Q h = refl
tells_then (ask q k) f w Q h = tells_then (k (answer q w)) f w Q h
tells_then (edit e p) f w Q h = absurd h

-- ---- programs that edit nothing, whatever is answered

-- the program edits nothing
abbrev pub Pure : {A : Type 0} → Prog A → Type 0
Pure (ret a) = Unit {0}
Pure (stop n) = Unit {0}
Pure (ask q k) = (a : Answer q) → Pure (k a)
Pure (edit e p) = ⊥

pub pure-bind : {A B : Type 0} (p : Prog A) (f : A → Prog B) → Pure p → ((a : A) → Pure (f a)) → Pure (p >>= f)
unfolding ◌>>=◌
pure-bind (ret a) f h k = k a
pure-bind (stop n) f h k = tt
pure-bind (ask q g) f h k = λ a. pure-bind (g a) f (h a) k
pure-bind (edit e p) f h k = absurd h

-- what holds of a run that is not refused
abbrev pub After : {A : Type 0} → Out A → (A → World → Type 0) → Type 0
After (done a w) Q = Q a w
After (refused n) Q = Unit {0}

pub after-bind : {A B : Type 0} (p : Prog A) (f : A → Prog B) (w : World) (Q : A → World → Type 0) (R : B → World → Type 0)
    → After (run p w) Q → ((a : A) (v : World) → Q a v → After (run (f a) v) R) → After (run (p >>= f) w) R
after-bind p f w Q R h k = rw (run_bind p f w) (go (run p w) h)
  where
    go : (o : Out _) → After o Q → After (then o (λ a v. run (f a) v)) R
    go (done a v) h = k a v h
    go (refused n) h = tt

pub pure-after : {A : Type 0} (p : Prog A) (w : World) → Pure p → After (run p w) (λ a v. v ≡ w)
unfolding run
pure-after (ret a) w h = refl
pure-after (stop n) w h = tt
pure-after (ask q k) w h = pure-after (k (answer q w)) w (h (answer q w))
pure-after (edit e p) w h = absurd h
