-- A question about the slices: by the store's test.
-- Assumes nothing.
use mathlib.Core.Path.{◌≡◌, refl, sym, subst}
use Prim.Native.Nat.{ℕ}
use Rattle.model.specs.Calls.States.{State}
use Rattle.layout.specs.Store.{Store}
use Rattle.layout.specs.Lawful.{Passes}
use Rattle.layout.specs.Answers.{read_back}
use Rattle.op.specs.Telling.{Told}

pub told-broken : {st : Store} {tells : State → Type 0} {asWas : Type 0} → (Passes st → ⊥) → asWas → Told st tells asWas 1
told-broken h k = record { passing = λ p. absurd (h p); broken = λ _. (refl, k) }

pub told-passing : {st : Store} {tells : State → Type 0} {asWas : Type 0} {r : ℕ} → Passes st → tells (read_back st) → Told st tells asWas r
told-passing p t = record { passing = λ _. t; broken = λ h. absurd (h p) }

pub told-as : {st : Store} (tells : ℕ → State → Type 0) {asWas : Type 0} {r q : ℕ} → r ≡ q → Passes st → tells q (read_back st) → Told st (tells r) asWas r
told-as {st = st} tells e p t = record { passing = λ _. subst (λ (k : ℕ). tells k (read_back st)) (sym e) t; broken = λ h. absurd (h p) }
