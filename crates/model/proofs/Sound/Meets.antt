-- Runs whose edits are all allowed: such a run leaves a sound world sound, since each edit does.
-- Assumes nothing.
use mathlib.Core.Option.{Option, none, some}
use mathlib.Core.Bool.{Bool, true, false}
use mathlib.Core.Path.{◌≡◌, refl, sym, ap, ◌∙◌, subst}
use Prim.Native.Nat.{ℕ}
use lib.Dec.{T}
use Rattle.model.specs.Prog.{World, Ask, Answer, answer, Edit, apply, Prog, ret, stop, ask, edit, asks, ◌>>=◌, need, done, run}
use Rattle.model.specs.Operations.{must}
use Rattle.model.proofs.Running.{After}
use Rattle.model.proofs.Sound.Worlds.{Sound, Allowed}
use Rattle.model.proofs.Sound.Edits.{sound-edit}

-- every edit of the run is allowed, and where it is not refused, its answer and world are as Q says
pub data Meets {A : Type 0} (Q : A → World → Type 0) : Prog A → World → Type 0 where
  gives : {a : A} {w : World} → Q a w → Meets Q (ret a) w
  stops : {n : ℕ} {w : World} → Meets Q (stop n) w
  asked : {q : Ask} {k : Answer q → Prog A} {w : World} → Meets Q (k (answer q w)) w → Meets Q (ask q k) w
  edited : {e : Edit} {p : Prog A} {w : World} → Allowed e w → Meets Q p (apply e w) → Meets Q (edit e p) w

-- the run edits nothing, and its answer is as Q says
abbrev pub Says : {A : Type 0} → (A → Type 0) → Prog A → World → Type 0
Says Q p w = Meets (λ a v. (v ≡ w) × Q a) p w

-- a run goes on where the first ends
pub bind : {A B : Type 0} {Q : A → World → Type 0} {R : B → World → Type 0} {p : Prog A} {f : A → Prog B} {w : World}
    → Meets Q p w → ((a : A) (v : World) → Q a v → Meets R (f a) v) → Meets R (p >>= f) w
unfolding ◌>>=◌
bind (gives h) k = k _ _ h
bind stops k = stops
bind (asked h) k = asked (bind h k)
bind (edited a h) k = edited a (bind h k)

-- what follows from Q may be said instead
pub weaken : {A : Type 0} {Q R : A → World → Type 0} {p : Prog A} {w : World} → Meets Q p w → ((a : A) (v : World) → Q a v → R a v) → Meets R p w
weaken (gives h) k = gives (k _ _ h)
weaken stops k = stops
weaken (asked h) k = asked (weaken h k)
weaken (edited a h) k = edited a (weaken h k)

-- after a run that edits nothing, the next one starts from the same world
pub then : {A B : Type 0} {p : Prog A} {f : A → Prog B} {w : World} {Q : A → Type 0} {R : B → World → Type 0}
    → Says Q p w → ((a : A) → Q a → Meets R (f a) w) → Meets R (p >>= f) w
then {f = f} {R = R} h k = bind h (λ a v e. subst (Meets R (f a)) (sym e.0) (k a e.1))

-- such a run leaves a sound world sound
pub sound-run : {A : Type 0} {Q : A → World → Type 0} {p : Prog A} {w : World} → Sound w → Meets Q p w → After (run p w) (λ a v. Sound v × Q a v)
unfolding run
sound-run s (gives h) = (s, h)
sound-run s stops = tt
sound-run s (asked h) = sound-run s h
sound-run {w = w} s (edited {e = e} a h) = sound-run (sound-edit e w s a) h

run-told : {A : Type 0} {Q : A → World → Type 0} {p : Prog A} {w : World} → Meets Q p w → Meets (λ a v. Q a v × (run p w ≡ done a v)) p w
unfolding run
run-told (gives h) = gives (h, refl)
run-told stops = stops
run-told (asked h) = asked (run-told h)
run-told (edited a h) = edited a (run-told h)

-- a run that edits nothing tells what it gives
pub told : {A : Type 0} {Q : A → Type 0} {p : Prog A} {w : World} → Says Q p w → Says (λ a. Q a × (run p w ≡ done a w)) p w
told h = weaken (run-told h) (λ a v e. (e.0.0, (e.0.1, e.1 ∙ ap (done a) e.0.0)))

both_meet : {A : Type 0} {Q R : A → World → Type 0} {p : Prog A} {w : World} → Meets Q p w → Meets R p w → Meets (λ a v. Q a v × R a v) p w
both_meet (gives h) (gives k) = gives (h, k)
both_meet stops stops = stops
both_meet (asked h) (asked k) = asked (both_meet h k)
both_meet (edited a h) (edited b k) = edited a (both_meet h k)

-- two things said of one run
pub also : {A : Type 0} {Q R : A → Type 0} {p : Prog A} {w : World} → Says Q p w → Says R p w → Says (λ a. Q a × R a) p w
also h k = weaken (both_meet h k) (λ a v e. (e.0.0, (e.0.1, e.1.1)))

-- ---- small programs

-- a question is answered by the world
pub asks-says : (q : Ask) (w : World) → Says (λ a. answer q w ≡ a) (asks q) w
asks-says q w = asked (gives (refl, refl))

-- a test that is passed holds
pub need-says : (b : Bool) (n : ℕ) (w : World) → Says (λ _. T b) (need b n) w
unfolding need
need-says true n w = gives (refl, tt)
need-says false n w = stops

-- what must stand does
pub must-says : {A : Type 0} (o : Option A) (w : World) → Says (λ a. o ≡ some a) (must o) w
unfolding must
must-says none w = stops
must-says (some a) w = gives (refl, refl)
