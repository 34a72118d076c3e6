-- A list of records counted one record further, and the marks that say the count.
-- Assumes nothing.
use mathlib.Core.Bool.{Bool, true, false, ◌||◌, cond, or-false, or-true, or_assoc}
use mathlib.Core.List.{List, [], ◌∷◌}
use mathlib.Core.Path.{◌≡◌, refl, sym, ap, ◌∙◌}
use Prim.Native.Nat.{ℕ, zero, suc, ◌+◌, ◌-◌, ◌*◌, ◌≤◌, ◌<◌}
use native.Mathlib.Nat.{zero-add}
use native.Mathlib.Numerals.{add-one}
use native.Mathlib.Omega.{arith}
use lib.Dec.{eqb}
use lib.ListN.{length, take, get_or, set}
use lib.Seq.{get_or-set_same, get_or-set_other}
use borrow.Author.Tests.{eq-eqb, ne_eqb, eqb-true, eqb-false}
use Rattle.layout.specs.Fields.{slot_of}
use Rattle.slots.specs.Uses.{uses_in, stands_from}

-- one record more
pub uses_more : (k : ℕ) (ws : List ℕ) (i : ℕ) → i < length ws → uses_in k (take (suc i) ws) ≡ uses_in k (take i ws) + cond (eqb (slot_of (get_or ws i 0)) k) 1 0
unfolding uses_in
uses_more k [] i h = absurd (omega arith)
uses_more k (w ∷ ws) zero h = omega arith
uses_more k (w ∷ ws) (suc i) h = let r = uses_more k ws i (omega arith) in omega arith

-- the first records name a slot no more often than all
pub uses_most : (k : ℕ) (ws : List ℕ) (i : ℕ) → uses_in k (take i ws) ≤ uses_in k ws
unfolding uses_in
uses_most k ws zero = omega arith
uses_most k [] (suc i) = omega arith
uses_most k (w ∷ ws) (suc i) = let r = uses_most k ws i in omega arith

-- the marks say how often the first i records name each slot
abbrev pub Said : List ℕ → List ℕ → ℕ → Type 0
Said ws marks i = (k : ℕ) → (get_or marks k 0 ≡ uses_in k (take i ws)) × (uses_in k (take i ws) ≤ 1)

pub said_none : (ws marks : List ℕ) → ((k : ℕ) → get_or marks k 0 ≡ 0) → Said ws marks 0
unfolding uses_in
said_none ws marks z k = (z k, omega arith)

module _ (ws marks : List ℕ) (i : ℕ) (h : i < length ws) (l : slot_of (get_or ws i 0) < length marks) (w : Said ws marks i) where
  -- a slot that is not marked yet
  pub said_more : get_or marks (slot_of (get_or ws i 0)) 0 ≡ 0 → Said ws (set marks (slot_of (get_or ws i 0)) 1) (i + 1)
  said_more z k = rw add-one (go (eqb (slot_of (get_or ws i 0)) k) refl)
    where
      go : (t : Bool) → eqb (slot_of (get_or ws i 0)) k ≡ t → (get_or (set marks (slot_of (get_or ws i 0)) 1) k 0 ≡ uses_in k (take (suc i) ws)) × (uses_in k (take (suc i) ws) ≤ 1)
      go true e =
          let s = slot_of (get_or ws i 0) in
          let q : s ≡ k = eqb-true s k e in
          let u : uses_in k (take (suc i) ws) ≡ uses_in k (take i ws) + 1 = uses_more k ws i h ∙ ap (λ (t : Bool). uses_in k (take i ws) + cond t 1 0) e in
          let n : get_or marks k 0 ≡ 0 = rw q at z in
          let o : get_or (set marks s 1) k 0 ≡ 1 = ap (λ (x : ℕ). get_or (set marks s 1) x 0) (sym q) ∙ get_or-set_same marks s 1 0 l in
          (omega (arith, (w k).0), omega (arith, (w k).0))
      go false e =
          let s = slot_of (get_or ws i 0) in
          let u : uses_in k (take (suc i) ws) ≡ uses_in k (take i ws) + 0 = uses_more k ws i h ∙ ap (λ (t : Bool). uses_in k (take i ws) + cond t 1 0) e in
          let o : get_or (set marks s 1) k 0 ≡ get_or marks k 0 = get_or-set_other marks s k 1 0 (λ q. eqb-false s k e (sym q)) in
          (omega (arith, (w k).0), omega (arith, (w k).1))

  -- one that is: it is named twice
  pub said-twice : (get_or marks (slot_of (get_or ws i 0)) 0 ≡ 0 → ⊥) → 2 ≤ uses_in (slot_of (get_or ws i 0)) ws
  said-twice z =
      let s = slot_of (get_or ws i 0) in
      let a : uses_in s (take (suc i) ws) ≡ uses_in s (take i ws) + cond (eqb s s) 1 0 = uses_more s ws i h in
      let b : ◌≡◌ {A = ℕ} (cond (eqb s s) 1 0) 1 = ap (λ (t : Bool). cond t 1 0) (eq-eqb s s refl) in
      omega (arith, uses_most s ws (suc i), (w s).0)

-- ---- file numbers

-- one number more
pub stands_more : (ws : List ℕ) (n i k : ℕ) → stands_from ws (suc n) i k ≡ stands_from ws n i k || eqb (get_or ws (5 + 3 * (n + i)) 0) (suc k)
unfolding stands_from
stands_more ws zero i k = rw zero-add (or-false (eqb (get_or ws (5 + 3 * i) 0) (suc k)))
stands_more ws (suc n) i k =
    let e : n + suc i ≡ suc n + i = omega arith in
    ap (λ (t : Bool). eqb (get_or ws (5 + 3 * i) 0) (suc k) || t) (stands_more ws n (suc i) k ∙ ap (λ (x : ℕ). stands_from ws n (suc i) k || eqb (get_or ws (5 + 3 * x) 0) (suc k)) e)
    ∙ sym (or_assoc (eqb (get_or ws (5 + 3 * i) 0) (suc k)) (stands_from ws n (suc i) k) (eqb (get_or ws (5 + 3 * (suc n + i)) 0) (suc k)))

-- by what the number says
pub stands_next : (ws : List ℕ) (j k : ℕ) (t : Bool) → eqb (get_or ws (5 + 3 * j) 0) (suc k) ≡ t → stands_from ws (j + 1) 0 k ≡ stands_from ws j 0 k || t
stands_next ws j k t e =
    let z : j + 0 ≡ j = omega arith in
    rw add-one (stands_more ws j 0 k ∙ ap (λ (x : ℕ). stands_from ws j 0 k || eqb (get_or ws (5 + 3 * x) 0) (suc k)) z ∙ ap (λ (b : Bool). stands_from ws j 0 k || b) e)

-- the marks with 2 more where one of the first j numbers stands
abbrev pub Added : List ℕ → List ℕ → List ℕ → ℕ → Type 0
Added ws marks₀ marks j = (k : ℕ) → get_or marks k 0 ≡ get_or marks₀ k 0 + cond (stands_from ws j 0 k) 2 0

pub added_none : (ws marks : List ℕ) → Added ws marks marks 0
unfolding stands_from
added_none ws marks k = omega arith

module _ (ws marks₀ marks : List ℕ) (j : ℕ) (w : Added ws marks₀ marks j) where
  more : (k : ℕ) (t : Bool) → eqb (get_or ws (5 + 3 * j) 0) (suc k) ≡ t → stands_from ws (j + 1) 0 k ≡ stands_from ws j 0 k || t
  more = stands_next ws j

  -- a closed number
  pub added-closed : get_or ws (5 + 3 * j) 0 ≡ 0 → Added ws marks₀ marks (j + 1)
  added-closed z k = w k ∙ ap (λ (t : Bool). get_or marks₀ k 0 + cond t 2 0) (sym (more k false (ne_eqb (get_or ws (5 + 3 * j) 0) (suc k) (λ e. omega arith)) ∙ or-false (stands_from ws j 0 k)))

  module _ (few : (k : ℕ) → get_or marks₀ k 0 ≤ 1) (p : 0 < get_or ws (5 + 3 * j) 0) where
    -- a slot that a number before stands on
    pub added-again : 2 ≤ get_or marks (get_or ws (5 + 3 * j) 0 - 1) 0 → Added ws marks₀ marks (j + 1)
    added-again l k = go (eqb (get_or ws (5 + 3 * j) 0) (suc k)) refl (stands_from ws j 0 k) refl
      where
        go : (t : Bool) → eqb (get_or ws (5 + 3 * j) 0) (suc k) ≡ t → (b : Bool) → stands_from ws j 0 k ≡ b → get_or marks k 0 ≡ get_or marks₀ k 0 + cond (stands_from ws (j + 1) 0 k) 2 0
        go true e true q = w k ∙ ap (λ (t : Bool). get_or marks₀ k 0 + cond t 2 0) (q ∙ sym (more k true e ∙ or-true (stands_from ws j 0 k)))
        go true e false q =
            let s : get_or ws (5 + 3 * j) 0 - 1 ≡ k = omega (arith, eqb-true (get_or ws (5 + 3 * j) 0) (suc k) e) in
            let m : 2 ≤ get_or marks k 0 = rw s at l in
            let n : get_or marks k 0 ≡ get_or marks₀ k 0 + 0 = w k ∙ ap (λ (t : Bool). get_or marks₀ k 0 + cond t 2 0) q in
            absurd (omega (arith, few k))
        go false e b q = w k ∙ ap (λ (t : Bool). get_or marks₀ k 0 + cond t 2 0) (sym (more k false e ∙ or-false (stands_from ws j 0 k)))

    -- one that none stands on yet
    pub added_more : get_or ws (5 + 3 * j) 0 - 1 < length marks → get_or marks (get_or ws (5 + 3 * j) 0 - 1) 0 < 2 → Added ws marks₀ (set marks (get_or ws (5 + 3 * j) 0 - 1) (get_or marks (get_or ws (5 + 3 * j) 0 - 1) 0 + 2)) (j + 1)
    added_more i l k = go (eqb (get_or ws (5 + 3 * j) 0) (suc k)) refl (stands_from ws j 0 k) refl
      where
        s : ℕ
        s = get_or ws (5 + 3 * j) 0 - 1

        v : ℕ
        v = get_or marks (get_or ws (5 + 3 * j) 0 - 1) 0 + 2

        go : (t : Bool) → eqb (get_or ws (5 + 3 * j) 0) (suc k) ≡ t → (b : Bool) → stands_from ws j 0 k ≡ b → get_or (set marks s v) k 0 ≡ get_or marks₀ k 0 + cond (stands_from ws (j + 1) 0 k) 2 0
        go true e true q =
            let y : s ≡ k = omega (arith, eqb-true (get_or ws (5 + 3 * j) 0) (suc k) e) in
            let m : get_or marks k 0 < 2 = rw y at l in
            let n : get_or marks k 0 ≡ get_or marks₀ k 0 + 2 = w k ∙ ap (λ (t : Bool). get_or marks₀ k 0 + cond t 2 0) q in
            absurd (omega arith)
        go true e false q =
            let y : s ≡ k = omega (arith, eqb-true (get_or ws (5 + 3 * j) 0) (suc k) e) in
            let o : get_or (set marks s v) k 0 ≡ v = ap (λ (x : ℕ). get_or (set marks s v) x 0) (sym y) ∙ get_or-set_same marks s v 0 i in
            let g : get_or marks s 0 ≡ get_or marks k 0 = ap (λ (x : ℕ). get_or marks x 0) y in
            let n : get_or marks k 0 ≡ get_or marks₀ k 0 + 0 = w k ∙ ap (λ (t : Bool). get_or marks₀ k 0 + cond t 2 0) q in
            let r : get_or marks₀ k 0 + 2 ≡ get_or marks₀ k 0 + cond (stands_from ws (j + 1) 0 k) 2 0 = ap (λ (t : Bool). get_or marks₀ k 0 + cond t 2 0) (sym (more k true e ∙ or-true (stands_from ws j 0 k))) in
            o ∙ omega arith ∙ r
        go false e b q =
            let o : get_or (set marks s v) k 0 ≡ get_or marks k 0 = get_or-set_other marks s k v 0 (λ y. eqb-false (get_or ws (5 + 3 * j) 0) (suc k) e (omega arith)) in
            o ∙ w k ∙ ap (λ (t : Bool). get_or marks₀ k 0 + cond t 2 0) (sym (more k false e ∙ or-false (stands_from ws j 0 k)))
