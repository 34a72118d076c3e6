-- A list of what n numbers have, from k on, where a test says that they have it: a number is found where it passes the test, and
-- once, since the numbers are gone through once.
-- Assumes nothing.
use mathlib.Core.Bool.{Bool, true, false, false≢true}
use mathlib.Core.List.{List, [], ◌∷◌}
use mathlib.Core.Option.{Option, none, some}
use mathlib.Core.Path.{◌≡◌, refl, sym, ap, ◌∙◌}
use Prim.Native.Nat.{ℕ, zero, suc, ◌+◌, ◌≤◌, ◌<◌}
use native.Mathlib.Decide.{ℕ_discrete}
use native.Mathlib.Omega.{arith}
use lib.Dec.{eqb}
use borrow.Author.Tests.{eq-eqb, ne_eqb}
use Rattle.model.specs.Tree.{or_else, keep_if}
use Rattle.model.specs.Rules.{Once}
use Rattle.model.proofs.Entries.{clash, some_inj}

module _ {A B : Type 0} (key : A → ℕ) (val : A → B) where
  -- what stands under a number
  unfoldable pub find : List A → ℕ → Option B
  find [] i = none
  find (a ∷ l) i = or_else (eqb (key a) i) (val a) (find l i)

  find-here : (a : A) (l : List A) (i : ℕ) → key a ≡ i → find (a ∷ l) i ≡ some (val a)
  unfolding find
  find-here a l i e = rw (eq-eqb (key a) i e)

  find_past : (a : A) (l : List A) (i : ℕ) → (key a ≡ i → ⊥) → find (a ∷ l) i ≡ find l i
  unfolding find
  find_past a l i e = rw (ne_eqb (key a) i e)

  module _ (test : ℕ → Bool) (make : ℕ → A) (keyed : (k : ℕ) → key (make k) ≡ k) where
    unfoldable pub keep_from : ℕ → ℕ → List A
    keep_from zero k = []
    keep_from (suc n) k = keep_if (test k) (make k) (keep_from n (suc k))

    -- what is found is what a number has that passes
    pub record Found (n k i : ℕ) (b : B) : Type 0 where
      pub low : k ≤ i
      pub high : i < k + n
      pub passes : test i ≡ true
      pub value : b ≡ val (make i)

    pub found : (n k i : ℕ) (b : B) → find (keep_from n k) i ≡ some b → Found n k i b
    unfolding keep_from
    found zero k i b e = clash (find [] i) b (unfold find in refl) e
    found (suc n) k i b e = go (test k) refl e (found n (suc k) i b)
      where
        later : Found n (suc k) i b → Found (suc n) k i b
        later h = record { low = omega arith; high = omega arith; passes = h.passes; value = h.value }

        go : (c : Bool) → test k ≡ c → find (keep_if c (make k) (keep_from n (suc k))) i ≡ some b → (find (keep_from n (suc k)) i ≡ some b → Found n (suc k) i b) → Found (suc n) k i b
        go false x y ih = later (ih y)
        go true x y ih = two (ℕ_discrete k i)
          where
            two : Dec (k ≡ i) → Found (suc n) k i b
            two (yes z) =
                record {
                  low = omega arith;
                  high = omega arith;
                  passes = ap test (sym z) ∙ x;
                  value = some_inj (sym y ∙ find-here (make k) (keep_from n (suc k)) i (keyed k ∙ z)) ∙ ap (λ (j : ℕ). val (make j)) z;
                }
            two (no z) = later (ih (sym (find_past (make k) (keep_from n (suc k)) i (λ w. z (sym (keyed k) ∙ w))) ∙ y))

    -- and what such a number has is found
    pub present : (n k i : ℕ) → k ≤ i → i < k + n → test i ≡ true → find (keep_from n k) i ≡ some (val (make i))
    unfolding keep_from
    present zero k i a b e = absurd (omega arith)
    present (suc n) k i a b e = go (test k) refl (ℕ_discrete k i) (present n (suc k) i)
      where
        go : (c : Bool) → test k ≡ c → Dec (k ≡ i) → (suc k ≤ i → i < suc k + n → test i ≡ true → find (keep_from n (suc k)) i ≡ some (val (make i)))
            → find (keep_if c (make k) (keep_from n (suc k))) i ≡ some (val (make i))
        go true x (yes z) ih = find-here (make k) (keep_from n (suc k)) i (keyed k ∙ z) ∙ ap (λ (j : ℕ). some (val (make j))) z
        go false x (yes z) ih = absurd (false≢true (sym x ∙ ap test z ∙ e))
        go true x (no z) ih = find_past (make k) (keep_from n (suc k)) i (λ w. z (sym (keyed k) ∙ w)) ∙ ih (omega arith) (omega arith) e
        go false x (no z) ih = ih (omega arith) (omega arith) e

    -- a number before the first is not
    none_first : (n k i : ℕ) → i < k → find (keep_from n k) i ≡ none
    none_first n k i h = go (find (keep_from n k) i) refl
      where
        go : (o : Option B) → find (keep_from n k) i ≡ o → find (keep_from n k) i ≡ none
        go none e = e
        go (some b) e = absurd (omega (arith, (found n k i b e).low))

    pub each-once : (n k : ℕ) → Once (λ l a. find l (key a) ≡ none) (keep_from n k)
    unfolding keep_from
    each-once zero k = tt
    each-once (suc n) k = go (test k) (each-once n (suc k))
      where
        go : (c : Bool) → Once (λ l a. find l (key a) ≡ none) (keep_from n (suc k)) → Once (λ l a. find l (key a) ≡ none) (keep_if c (make k) (keep_from n (suc k)))
        go true ih = (ap (find (keep_from n (suc k))) (keyed k) ∙ none_first n (suc k) k (omega arith), ih)
        go false ih = ih
