-- A slot's word and who has the slot, kind by kind.
-- Assumes nothing.
use mathlib.Core.Bool.{Bool, true, false, ◌&&◌, ◌||◌, not, or-false}
use mathlib.Core.List.{[]}
use mathlib.Core.Path.{◌≡◌, ◌∙◌, refl, sym, subst}
use Prim.Native.Nat.{ℕ, zero, suc, ◌≤◌, ◌<◌}
use native.Mathlib.Omega.{arith}
use lib.Dec.{T, eqb, eqb→eq}
use borrow.Author.Tests.{eq-eqb, ne_eqb}
use Rattle.text.specs.Utf8.{octets, text}
use Rattle.path.specs.Path.{pieces, all_short, lengths_ok}
use Rattle.path.proofs.Laws.{and_left, and_right, and_both}
use Rattle.model.specs.Rules.{target_ok}
use Rattle.layout.specs.Fields.{len_of, kind_of}
use Rattle.layout.specs.Lawful.{slot_by}
use Rattle.lawful_limits.specs.Settles.{Settles}
use Rattle.lawful_slots.specs.Uses.{entry_by, entry_word}

-- a slot that is named twice is wrong
pub twice-wrong : (k h u : ℕ) (held : Bool) → 2 ≤ u → T (slot_by k h u held []) → ⊥
twice-wrong k h u held l t = go k t
  where
    e : eqb u 0 ≡ false
    e = ne_eqb u 0 (λ q. omega arith)

    f : eqb u 1 ≡ false
    f = ne_eqb u 1 (λ q. omega arith)

    go : (k : ℕ) → T (slot_by k h u held []) → ⊥
    go zero t = subst T e (and_left (eqb u 0) (not held) (and_right (eqb h 0) (eqb u 0 && not held) t))
    go (suc zero) t = subst T f (and_left (eqb u 1) (not held) (and_right (eqb (len_of h) 0) (eqb u 1 && not held) t))
    go (suc (suc zero)) t = rw (f, e) at t
    go (suc (suc (suc zero))) t = subst T f (and_left (eqb u 1) (not held) (and_right (target_ok []) (eqb u 1 && not held) t))
    go (suc (suc (suc (suc k)))) t = t

-- the test of the word of an entry's slot
pub entry-word : (h : ℕ) → ((eqb (kind_of h) 1 && eqb (len_of h) 0) || eqb (kind_of h) 2) || eqb (kind_of h) 3 ≡ entry_word h
unfolding entry_word
entry-word h = go (kind_of h)
  where
    go : (k : ℕ) → ((eqb k 1 && eqb (len_of h) 0) || eqb k 2) || eqb k 3 ≡ entry_by k h
    go zero = refl
    go (suc zero) = or-false (eqb (len_of h) 0 || false) ∙ or-false (eqb (len_of h) 0)
    go (suc (suc zero)) = refl
    go (suc (suc (suc zero))) = refl
    go (suc (suc (suc (suc k)))) =
        let n = suc (suc (suc (suc k))) in
        rw (ne_eqb n 1 (λ e. omega arith), ne_eqb n 2 (λ e. omega arith), ne_eqb n 3 (λ e. omega arith))

-- a word that is none of an entry's slot
pub word-wrong : (h u : ℕ) (held : Bool) → entry_word h ≡ false → 1 ≤ u → T (slot_by (kind_of h) h u held []) → ⊥
unfolding entry_word
word-wrong h u held e l t = go (kind_of h) e t
  where
    go : (k : ℕ) → entry_by k h ≡ false → T (slot_by k h u held []) → ⊥
    go zero e t = subst T (ne_eqb u 0 (λ q. omega arith)) (and_left (eqb u 0) (not held) (and_right (eqb h 0) (eqb u 0 && not held) t))
    go (suc zero) e t = subst T e (and_left (eqb (len_of h) 0) (eqb u 1 && not held) t)
    go (suc (suc zero)) e t = absurd (let z : ◌≡◌ {A = ℕ} 0 1 = cc in omega arith)
    go (suc (suc (suc zero))) e t = absurd (let z : ◌≡◌ {A = ℕ} 0 1 = cc in omega arith)
    go (suc (suc (suc (suc k)))) e t = t

-- a file number stands on a file
pub number-wrong : (h u : ℕ) → (kind_of h ≡ 2 → ⊥) → T (slot_by (kind_of h) h u true []) → ⊥
number-wrong h u n t = go (kind_of h) n t
  where
    go : (k : ℕ) → (k ≡ 2 → ⊥) → T (slot_by k h u true []) → ⊥
    go zero n t = and_right (eqb u 0) false (and_right (eqb h 0) (eqb u 0 && false) t)
    go (suc zero) n t = and_right (eqb u 1) false (and_right (eqb (len_of h) 0) (eqb u 1 && false) t)
    go (suc (suc zero)) n t = n refl
    go (suc (suc (suc zero))) n t = and_right (eqb u 1) false (and_right (target_ok []) (eqb u 1 && false) t)
    go (suc (suc (suc (suc k)))) n t = t

module _ (h u : ℕ) (held : Bool) where
  -- a slot that nothing has is free
  pub slot-used : T (slot_by (kind_of h) h u held []) → u ≡ 0 → held ≡ false → h ≡ 0
  slot-used t z e = go (kind_of h) (subst (λ (n : ℕ). T (slot_by (kind_of h) h n false [])) z (subst (λ (b : Bool). T (slot_by (kind_of h) h u b [])) e t))
    where
      go : (k : ℕ) → T (slot_by k h 0 false []) → h ≡ 0
      go zero t = eqb→eq h 0 (and_left (eqb h 0) true t)
      go (suc zero) t = absurd (and_right (eqb (len_of h) 0) false t)
      go (suc (suc zero)) t = absurd t
      go (suc (suc (suc zero))) t = absurd (and_right (target_ok []) false t)
      go (suc (suc (suc (suc k)))) t = absurd t

  -- a slot is right, where what has it says so
  pub slot_right : u ≤ 1 → (0 < u → T (entry_word h)) → (T held → kind_of h ≡ 2) → (u ≡ 0 → held ≡ false → h ≡ 0) → T (slot_by (kind_of h) h u held [])
  unfolding entry_word target_ok text octets lengths_ok pieces all_short
  slot_right l w f z = go (kind_of h) u held refl l w f z
    where
      go : (k u : ℕ) (held : Bool) → kind_of h ≡ k → u ≤ 1 → (0 < u → T (entry_by k h)) → (T held → k ≡ 2) → (u ≡ 0 → held ≡ false → h ≡ 0) → T (slot_by k h u held [])
      go zero zero false e l w f z = and_both (eqb h 0) true (subst T (sym (eq-eqb h 0 (z refl refl))) tt) tt
      go zero zero true e l w f z = absurd (omega (arith, f tt))
      go zero (suc zero) held e l w f z = absurd (w (omega arith))
      go (suc zero) zero false e l w f z = absurd (omega (arith, z refl refl))
      go (suc zero) zero true e l w f z = absurd (omega (arith, f tt))
      go (suc zero) (suc zero) false e l w f z = and_both (eqb (len_of h) 0) true (w (omega arith)) tt
      go (suc zero) (suc zero) true e l w f z = absurd (omega (arith, f tt))
      go (suc (suc zero)) zero false e l w f z = absurd (omega (arith, z refl refl))
      go (suc (suc zero)) zero true e l w f z = tt
      go (suc (suc zero)) (suc zero) held e l w f z = tt
      go (suc (suc (suc zero))) zero false e l w f z = absurd (omega (arith, z refl refl))
      go (suc (suc (suc zero))) zero true e l w f z = absurd (omega (arith, f tt))
      go (suc (suc (suc zero))) (suc zero) false e l w f z = tt
      go (suc (suc (suc zero))) (suc zero) true e l w f z = absurd (omega (arith, f tt))
      go (suc (suc (suc (suc k)))) zero false e l w f z = absurd (omega (arith, z refl refl))
      go (suc (suc (suc (suc k)))) zero true e l w f z = absurd (omega (arith, f tt))
      go (suc (suc (suc (suc k)))) (suc zero) held e l w f z = absurd (w (omega arith))
      go k (suc (suc u)) held e l w f z = absurd (omega arith)

-- ---- all slots

-- what settles one settles the other
pub settle : (r : Bool) {P Q : Type 0} → (P → Q) → (Q → P) → Settles r P → Settles r Q
settle true f g p = f p
settle false f g p = λ q. p (g q)
