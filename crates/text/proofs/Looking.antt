-- Stretches of a text where no octet is odd: how they grow, and that what stands behind the first decides.
-- Assumes nothing.
use mathlib.Core.Bool.{Bool, true, false, ◌||◌, true≢false}
use mathlib.Core.List.{[], ◌∷◌}
use mathlib.Core.Path.{◌≡◌, refl, ap, ◌∙◌}
use Prim.Native.Nat.{ℕ, zero, suc, ◌+◌, ◌≤◌}
use native.Mathlib.Omega.{arith}
use lib.Dec.{eqb, leb}
use lib.ListN.{length, drop, get_or, drop_of_length-le}
use borrow.Author.Count.{below_more}
use borrow.Author.Tests.{le-leb, eqb-false, leb-false}
use Rattle.text.specs.Utf8.{Bytes, starts, char_length, octets, text}
use Rattle.text.specs.Looks.{Plain}

-- neither of two tests holds: the first
pub or_left : (a b : Bool) → a || b ≡ false → a ≡ false
or_left true b e = e
or_left false b e = refl

-- and the second
pub or_right : (a b : Bool) → a || b ≡ false → b ≡ false
or_right true b e = absurd (true≢false e)
or_right false b e = e

-- one octet more
pub plain_more : (s : Bytes) (a i : ℕ) (seen : Bool) → (seen ≡ false → Plain s a i)
    → (seen || eqb (get_or s i 0) 0) || leb 128 (get_or s i 0) ≡ false → Plain s a (i + 1)
plain_more s a i seen w e =
    let b : ℕ = get_or s i 0 in
    let o = or_left (seen || eqb b 0) (leb 128 b) e in
    below_more _ i (w (or_left seen (eqb b 0) o)) (λ _. rw (or_right seen (eqb b 0) o) (or_right (seen || eqb b 0) (leb 128 b) e))

-- such a stretch at the start does not decide
pub plain-drop : (n : ℕ) (s : Bytes) → n ≤ length s → Plain s 0 n → text s ≡ text (drop n s)
unfolding text octets char_length starts
plain-drop zero s h p = refl
plain-drop (suc n) [] h p = absurd (omega arith)
plain-drop (suc n) (b ∷ s) h p =
    let o = p 0 (omega arith) (omega arith) in
    let z = eqb-false b 0 (or_left (eqb b 0) (leb 128 b) o) in
    let w = leb-false 128 b (or_right (eqb b 0) (leb 128 b) o) in
    rw (le-leb 1 b (omega (arith, z)), le-leb b 127 (omega arith)) (plain-drop n s (omega arith) (λ k l _. p (suc k) (omega arith) (omega arith)))

-- octets that are text by themselves
pub plain-text : (s : Bytes) → Plain s 0 (length s) → text s ≡ true
unfolding text octets
plain-text s p = plain-drop (length s) s (omega arith) p ∙ ap text (drop_of_length-le s {i = length s} (omega arith))
