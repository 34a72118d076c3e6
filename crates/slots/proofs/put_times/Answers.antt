-- `slots::put_times` meets its contract: four take the places of four.
-- Assumes nothing.
use mathlib.Core.List.{List, [], ◌∷◌, ◌++◌}
use mathlib.Core.Path.{◌≡◌, refl, ap, ◌∙◌}
use Prim.Native.Nat.{ℕ, zero, suc, ◌+◌, ◌-◌, ◌*◌, ◌<◌}
use native.Mathlib.Omega.{arith}
use lib.IntN.{ℤ}
use mir.Syntax.{w64}
use mir.ValLaws.{to_z-of_z}
use lib.ListN.{length, take, drop, set}
use borrow.Rule.Slice.PartMut.{put_mid}
use Rattle.slots.proofs.put_times.Goals as goal

four-set : (ts : List ℤ) (i : ℕ) (a b c d : ℤ) → suc (suc (suc i)) < length ts
    → take i ts ++ ((a ∷ b ∷ c ∷ d ∷ []) ++ drop 4 (drop i ts)) ≡ set (set (set (set ts i a) (suc i) b) (suc (suc i)) c) (suc (suc (suc i))) d
four-set [] i a b c d h = absurd (omega arith)
four-set (x ∷ []) zero a b c d h = absurd (omega arith)
four-set (x ∷ y ∷ []) zero a b c d h = absurd (omega arith)
four-set (x ∷ y ∷ z ∷ []) zero a b c d h = absurd (omega arith)
four-set (x ∷ y ∷ z ∷ w ∷ ts) zero a b c d h = refl
four-set (x ∷ ts) (suc i) a b c d h = ap (λ (us : List ℤ). x ∷ us) (four-set ts i a b c d (omega arith))

module _ (ts : List ℤ) (i j k l n : ℕ) (a b c d : ℤ) (p : n ≡ 4) (q : j ≡ suc i) (r : k ≡ suc (suc i)) (s : l ≡ suc (suc (suc i))) (h : l < length ts) where
  four-put : put_mid i n ts (a ∷ b ∷ c ∷ d ∷ []) ≡ set (set (set (set ts i a) j b) k c) l d
  four-put =
      rw (p, q, r, s) (four-set ts i a b c d (omega arith))

pub returns : goal.returns
returns c =
    let g = c.args in let i : ℕ = 4 * g.slot in
    ap (λ (s : List ℤ). put_mid i (i + 4 - i) g.times.now s) c.copy_from_slice.ensures.after
    ∙ rw (to_z-of_z w64 g.a c.ranges.a, to_z-of_z w64 g.t c.ranges.t) (four-put g.times.now i (i + 1) (i + 2) (i + 3) (i + 4 - i) g.a g.a g.a g.t (omega arith) (omega arith) (omega arith) (omega arith) c.requires)
