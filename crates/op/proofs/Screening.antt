-- The tests before a call, one by one: what each answers is the part of the model's screen that it stands for.
-- Assumes nothing.
use mathlib.Core.Bool.{Bool, true, false, ◌&&◌}
use mathlib.Core.List.{List, [], ◌∷◌}
use mathlib.Core.Option.{Option, none, some}
use mathlib.Core.Path.{◌≡◌, refl, ap}
use Prim.Native.Nat.{ℕ}
use native.Mathlib.Omega.{arith}
use denote.Ref.{Bor}
use Rattle.std.specs.List.{list_all}
use Rattle.std.specs.Option as option
use Rattle.std.specs.Prelude as Prelude
use Rattle.text.specs.Utf8.{Bytes}
use Rattle.model.specs.Tree.{Open, open_of}
use Rattle.model.specs.Prog.{Position, answer, on_some}
use Rattle.model.specs.Operations.Steps.{is_some}
use Rattle.model.specs.Calls.States.{State}
use Rattle.model.specs.Calls.Calling.{all}
use Rattle.store.specs.Shows.{NumberIs}
use Rattle.op.specs.Testing.{texts_of}

-- ---- texts

-- every one of the texts
pub all-texts : (f : Bytes → Bool) (ts : List (Bor Bytes)) → list_all (λ t. f t.now) ts ≡ all f (texts_of ts)
unfolding all
all-texts f [] = refl
all-texts f (t ∷ ts) = ap (λ (b : Bool). f t.now && b) (all-texts f ts)

-- ---- file numbers

-- what a number is told to be is whether it is among the open ones
pub number-open : (s : State) (n : ℕ) (r : Prelude.Option ℕ) → NumberIs s n r → option.is_some r ≡ is_some (open_of s.opens n)
unfolding answer
number-open s n Prelude.None e = go (open_of s.opens n) e
  where
    go : (o : Option Open) → on_some {B = Position} o (λ x. some (record { pos = x.pos; kept = x.kept })) ≡ none → false ≡ is_some o
    go none h = refl
    go (some x) h = absurd (let z : ◌≡◌ {A = ℕ} 0 1 = cc in omega arith)
number-open s n (Prelude.Some k) e = go (open_of s.opens n) e.1
  where
    go : (o : Option Open) → on_some {B = Position} o (λ x. some (record { pos = x.pos; kept = x.kept })) ≡ some e.0 → true ≡ is_some o
    go none h = absurd (let z : ◌≡◌ {A = ℕ} 0 1 = cc in omega arith)
    go (some x) h = refl
