-- The kind in the word of a slot beside its number.
-- Assumes nothing.
use mathlib.Core.Bool.{Bool, true, false, not}
use mathlib.Core.Path.{◌≡◌, refl, sym, ap, ◌∙◌}
use Prim.Native.Nat.{ℕ, zero, suc}
use native.Mathlib.Omega.{arith}
use lib.Dec.{eqb}
use borrow.Author.Tests.{ne_eqb, eqb-true, eqb-false}
use Rattle.std.specs.Option.{option_eq}
use Rattle.std.specs.Prelude.{Option, Some}
use Rattle.layout.specs.declared.kind.Kind.{Kind}
use Rattle.layout.specs.declared.kind.Kind.TheVariants.{Directory, File, Link}
use Rattle.layout.specs.contracts.kind.KindPartialEq.TheImpl.{eq-value}
use Rattle.layout.specs.Fields.{kind_of}
use Rattle.layout.specs.Kinds.{code_of, kind_numbered, kind_held}

beyond : (k : Kind) (n : ℕ) → suc (suc (suc (suc n))) ≡ code_of k → ⊥
beyond Directory n e = absurd (omega arith)
beyond File n e = absurd (omega arith)
beyond Link n e = absurd (omega arith)

-- the kind is asked for by its number
pub same_kind : (k : Kind) (h : ℕ) → option_eq eq-value.it (kind_held h) (Some k) ≡ eqb (kind_of h) (code_of k)
same_kind k h = go (kind_of h) k
  where
    more : (n : ℕ) (k : Kind) → option_eq eq-value.it (kind_numbered (suc (suc (suc (suc n))))) (Some k) ≡ eqb (suc (suc (suc (suc n)))) (code_of k)
    more n k =
        let m = suc (suc (suc (suc n))) in
        rw (ne_eqb m 1 (λ e. omega arith), ne_eqb m 2 (λ e. omega arith), ne_eqb m 3 (λ e. omega arith)) (sym (ne_eqb m (code_of k) (beyond k n)))

    go : (n : ℕ) (k : Kind) → option_eq eq-value.it (kind_numbered n) (Some k) ≡ eqb n (code_of k)
    go zero Directory = refl
    go zero File = refl
    go zero Link = refl
    go (suc zero) Directory = refl
    go (suc zero) File = refl
    go (suc zero) Link = refl
    go (suc (suc zero)) Directory = refl
    go (suc (suc zero)) File = refl
    go (suc (suc zero)) Link = refl
    go (suc (suc (suc zero))) Directory = refl
    go (suc (suc (suc zero))) File = refl
    go (suc (suc (suc zero))) Link = refl
    go (suc (suc (suc (suc n)))) k = more n k

flip : (x b : Bool) → not x ≡ not b → x ≡ b
flip true true e = refl
flip true false e = sym e
flip false true e = sym e
flip false false e = refl

module _ (k : Kind) (h : ℕ) {r : Option Kind} (e : r ≡ kind_held h) where
  pub kind-test : option_eq eq-value.it r (Some k) ≡ eqb (kind_of h) (code_of k)
  kind-test = ap (λ (x : Option Kind). option_eq eq-value.it x (Some k)) e ∙ same_kind k h

  -- by the answer of `==`
  pub kind-is : {b : Bool} → b ≡ option_eq eq-value.it r (Some k) → b ≡ true → kind_of h ≡ code_of k
  kind-is q t = eqb-true (kind_of h) (code_of k) (sym kind-test ∙ sym q ∙ t)

  pub kind-other : {b : Bool} → b ≡ option_eq eq-value.it r (Some k) → b ≡ false → kind_of h ≡ code_of k → ⊥
  kind-other q t = eqb-false (kind_of h) (code_of k) (sym kind-test ∙ sym q ∙ t)

  -- by that of `!=`
  pub kind-same : {b : Bool} → b ≡ not (option_eq eq-value.it r (Some k)) → b ≡ false → kind_of h ≡ code_of k
  kind-same q t = eqb-true (kind_of h) (code_of k) (sym kind-test ∙ flip _ true (sym q ∙ t))

  pub kind-differs : {b : Bool} → b ≡ not (option_eq eq-value.it r (Some k)) → b ≡ true → kind_of h ≡ code_of k → ⊥
  kind-differs q t = eqb-false (kind_of h) (code_of k) (sym kind-test ∙ flip _ false (sym q ∙ t))
