-- A refusal that comes after an edit, and programs that never have one: whatever they are answered, what can stop them stands
-- before the first edit.
-- Assumes nothing.
use mathlib.Core.Bool.{Bool, true, false}
use mathlib.Core.Path.{◌≡◌, refl, sym, ap, ◌∙◌}
use Prim.Native.Nat.{ℕ}
use native.Mathlib.Omega.{arith}
use Rattle.model.specs.Prog.{World, Ask, Answer, answer, Edit, apply, Prog, ret, stop, ask, edit, asks, edits, ◌>>=◌, Out, done, refused, run}
use Rattle.model.proofs.Running.{Pure}

-- the run is refused
abbrev pub is_refused : {A : Type 0} → Out A → Bool
is_refused (done a w) = false
is_refused (refused n) = true

-- the run ends in a refusal, and at least one edit came before it
unfoldable pub late : {A : Type 0} → Prog A → World → Bool
late (ret a) w = false
late (stop n) w = false
late (ask q k) w = late (k (answer q w)) w
late (edit e p) w = is_refused (run p (apply e w))

-- the world where the run ends, refused or not, with its edits made
unfoldable pub leaves : {A : Type 0} → Prog A → World → World
leaves (ret a) w = w
leaves (stop n) w = w
leaves (ask q k) w = leaves (k (answer q w)) w
leaves (edit e p) w = leaves p (apply e w)

-- a refusal that is not late finds the world as it was
pub untouched : {A : Type 0} (p : Prog A) (w : World) (n : ℕ) → late p w ≡ false → run p w ≡ refused n → leaves p w ≡ w
unfolding late leaves run
untouched (ret a) w n l r = refl
untouched (stop m) w n l r = refl
untouched (ask q k) w n l r = untouched (k (answer q w)) w n l r
untouched (edit e p) w n l r =
    absurd (let z : ◌≡◌ {A = Bool} false true = sym l ∙ ap is_refused r in let y : ◌≡◌ {A = ℕ} 0 1 = cc in omega arith)

-- ---- whatever the answers

-- the program is never refused
unfoldable pub NeverStops : {A : Type 0} → Prog A → Type 0
NeverStops (ret a) = Unit {0}
NeverStops (stop n) = ⊥
NeverStops (ask q k) = (a : Answer q) → NeverStops (k a)
NeverStops (edit e p) = NeverStops p

-- it is never refused once it has edited
unfoldable pub Careful : {A : Type 0} → Prog A → Type 0
Careful (ret a) = Unit {0}
Careful (stop n) = Unit {0}
Careful (ask q k) = (a : Answer q) → Careful (k a)
Careful (edit e p) = NeverStops p

-- an answer never stops
pub never-ret : {A : Type 0} (a : A) → NeverStops (ret a)
unfolding NeverStops
never-ret a = tt

-- a question
pub never-ask : (q : Ask) → NeverStops (asks q)
unfolding NeverStops
never-ask q = λ a. tt

-- an edit
pub never-edits : (e : Edit) → NeverStops (edits e)
unfolding NeverStops
never-edits e = tt

-- one program behind another
pub never-bind : {A B : Type 0} (p : Prog A) (f : A → Prog B) → NeverStops p → ((a : A) → NeverStops (f a)) → NeverStops (p >>= f)
unfolding NeverStops ◌>>=◌
never-bind (ret a) f h k = k a
never-bind (stop n) f h k = absurd h
never-bind (ask q g) f h k = λ a. never-bind (g a) f (h a) k
never-bind (edit e p) f h k = never-bind p f h k

-- careful behind what edits nothing
pub careful-bind : {A B : Type 0} (p : Prog A) (f : A → Prog B) → Pure p → ((a : A) → Careful (f a)) → Careful (p >>= f)
unfolding Careful ◌>>=◌
careful-bind (ret a) f h k = k a
careful-bind (stop n) f h k = tt
careful-bind (ask q g) f h k = λ a. careful-bind (g a) f (h a) k
careful-bind (edit e p) f h k = absurd h

-- what never stops is careful
pub never-careful : {A : Type 0} (p : Prog A) → NeverStops p → Careful p
unfolding NeverStops Careful
never-careful (ret a) h = tt
never-careful (stop n) h = tt
never-careful (ask q k) h = λ a. never-careful (k a) (h a)
never-careful (edit e p) h = h

-- an edit
pub careful-edits : (e : Edit) → Careful (edits e)
careful-edits e = never-careful (edits e) (never-edits e)

-- an answer
pub careful-ret : {A : Type 0} (a : A) → Careful (ret a)
careful-ret a = never-careful (ret a) (never-ret a)

-- careful before what never stops
pub careful_then : {A B : Type 0} (p : Prog A) (f : A → Prog B) → Careful p → ((a : A) → NeverStops (f a)) → Careful (p >>= f)
unfolding NeverStops Careful ◌>>=◌
careful_then (ret a) f h k = never-careful (f a) (k a)
careful_then (stop n) f h k = tt
careful_then (ask q g) f h k = λ a. careful_then (g a) f (h a) k
careful_then (edit e p) f h k = never-bind p f h k

-- what never stops is not refused on any world
pub never-refused : {A : Type 0} (p : Prog A) (w : World) → NeverStops p → is_refused (run p w) ≡ false
unfolding NeverStops run
never-refused (ret a) w h = refl
never-refused (stop n) w h = absurd h
never-refused (ask q k) w h = never-refused (k (answer q w)) w (h (answer q w))
never-refused (edit e p) w h = never-refused p (apply e w) h

-- what is careful is not late on any world
pub careful-never-late : {A : Type 0} (p : Prog A) (w : World) → Careful p → late p w ≡ false
unfolding Careful late
careful-never-late (ret a) w h = refl
careful-never-late (stop n) w h = refl
careful-never-late (ask q k) w h = careful-never-late (k (answer q w)) w (h (answer q w))
careful-never-late (edit e p) w h = never-refused p (apply e w) h

-- behind what edits nothing only its answer on this world counts
pub late-bind : {A B : Type 0} (p : Prog A) (f : A → Prog B) (w : World)
    → Pure p → ((a : A) → run p w ≡ done a w → late (f a) w ≡ false) → late (p >>= f) w ≡ false
unfolding late run ◌>>=◌
late-bind (ret a) f w h k = k a refl
late-bind (stop n) f w h k = refl
late-bind (ask q g) f w h k = late-bind (g (answer q w)) f w (h (answer q w)) k
late-bind (edit e p) f w h k = absurd h

-- what never stops behind a run that is not refused
pub refused_then : {A B : Type 0} (p : Prog A) (f : A → Prog B) (w : World)
    → is_refused (run p w) ≡ false → ((a : A) → NeverStops (f a)) → is_refused (run (p >>= f) w) ≡ false
unfolding run ◌>>=◌
refused_then (ret a) f w h k = never-refused (f a) w (k a)
refused_then (stop n) f w h k = h
refused_then (ask q g) f w h k = refused_then (g (answer q w)) f w h k
refused_then (edit e p) f w h k = refused_then p f (apply e w) h k

-- a run that is not refused is not late
pub accepted-never-late : {A : Type 0} (p : Prog A) (w : World) → is_refused (run p w) ≡ false → late p w ≡ false
unfolding late run
accepted-never-late (ret a) w h = refl
accepted-never-late (stop n) w h = refl
accepted-never-late (ask q k) w h = accepted-never-late (k (answer q w)) w h
accepted-never-late (edit e p) w h = h
