-- An operation by file number that is one edit and answers nothing: the store shows the edited state, so that it is done.
-- Assumes nothing.
use Rattle.std.proofs.Common.{◌/◌, ◌%◌, Bool, true, false, eqb, ap, ◌∙◌, arith, ◌≡◌, ℕ, refl, Option}
use Rattle.model.specs.Tree.{Time, chmod, touch_some}
use Rattle.model.specs.Prog.{Edit, close, change_held, apply, Prog, ◌>>=◌, ◌>>◌, done, run}
use Rattle.model.specs.Operations.Numbers.{close_on, set_mode_on, set_times_on}
use Rattle.model.specs.Operations.Steps.{Reply, plain_reply}
use Rattle.model.specs.Calls.States.{State, world_of, edited}
use Rattle.std.specs.Bool.{then_some}
use Rattle.model.specs.Calls.Performing.{bit, given_if}
use Rattle.model.specs.Buffers.{Outputs, row_numbers}
use Rattle.layout.specs.Store.{Store}
use Rattle.edit_slot.specs.Times.{in_model}
use Rattle.store.specs.Shows.{Shows}
use Rattle.op.specs.Doing.{Does}
use Rattle.op.specs.Lending.{in_nothing}
use Rattle.op.proofs.Doing.{does-done}

pub does-changed : (p : Prog Reply) (s : State) (u : Store) (e : Edit) → run p (world_of s) ≡ done (plain_reply 0) (apply e (world_of s)) → Shows u (edited e s)
    → Does p s u in_nothing in_nothing 0
unfolding row_numbers
does-changed p s u e r h = does-done p s u (plain_reply 0) (apply e (world_of s)) r h in_nothing in_nothing refl

module _ (s : State) (u : Store) (n : ℕ) where
  pub does-closed : Shows u (edited (close n) s) → Does (close_on n) s u in_nothing in_nothing 0
  unfolding run ◌>>=◌ ◌>>◌ close_on
  does-closed h = does-changed (close_on n) s u (close n) refl h

  pub does-mode : (m : ℕ) → Shows u (edited (change_held n (chmod m)) s) → Does (set_mode_on n m) s u in_nothing in_nothing 0
  unfolding run ◌>>=◌ ◌>>◌ set_mode_on
  does-mode m h = does-changed (set_mode_on n m) s u (change_held n (chmod m)) refl h

  pub does-times : (x y : Option Time) → Shows u (edited (change_held n (touch_some (in_model x) (in_model y))) s) → Does (set_times_on n (in_model x) (in_model y)) s u in_nothing in_nothing 0
  unfolding run ◌>>=◌ ◌>>◌ set_times_on
  does-times x y h = does-changed (set_times_on n (in_model x) (in_model y)) s u (change_held n (touch_some (in_model x) (in_model y))) refl h

-- a time that is given by a flag
given_then : (b : Bool) (t : Time) → in_model (then_some b t) ≡ given_if b t
given_then true t = refl
given_then false t = refl

-- times that are given by their flags: a flag that is tested by its last bit is the flag of value 1
pub by_flags : (n f : ℕ) {a b m k : Time} {x y : Option Time} {s : State} {u : Store} {o after : Outputs} {r : ℕ} → x ≡ then_some (eqb (f % 2) 1) a → y ≡ then_some (bit f 2) m → a ≡ b → m ≡ k
    → Does (set_times_on n (in_model x) (in_model y)) s u o after r → Does (set_times_on n (given_if (bit f 1) b) (given_if (bit f 2) k)) s u o after r
by_flags n f {a = a} {b = b} {k = k} {s = s} {u = u} {o = o} {after = after} {r = r} x y e g d =
    let z : eqb (f % 2) 1 ≡ bit f 1 = ap (λ (i : ℕ). eqb i 1) (let w : f % 2 ≡ f / 1 % 2 = omega arith in w) in
    let first : in_model _ ≡ given_if (bit f 1) b = ap in_model (x ∙ ap (λ (v : Bool). then_some v a) z ∙ ap (then_some (bit f 1)) e) ∙ given_then (bit f 1) b in
    let second : in_model _ ≡ given_if (bit f 2) k = ap in_model (y ∙ ap (then_some (bit f 2)) g) ∙ given_then (bit f 2) k in
    let z : Does (set_times_on n (given_if (bit f 1) b) (given_if (bit f 2) k)) s u o after r = coe 0 1 (i. Does (set_times_on n (first i) (second i)) s u o after r) d in z
