-- Where a seek leads, by its origin. From the end, the exact sum of length and offset is that of the length and how far the offset is
-- above or below 0.
-- Assumes nothing.
use Rattle.std.proofs.Common.{◌≡◌, ℕ, zero, suc, ◌+◌, ◌-◌, ◌%◌, ◌^◌, ◌<◌, ◌≤◌, Bool, true, false, ◌&&◌, ltb, leb, refl, sym, ap, ◌∙◌, arith, le-ltb, lt-ltb, le-leb}
use borrow.Author.Tests.{lt-leb, leb-true, leb-false, ltb-true, ltb-false}
use lib.IntN.{ℤ, pos, ◌+ℤ◌}
use mir.Syntax.{w64}
use mir.Val.{to_z, of_z}
use Rattle.std.proofs.lemmas.Int.{ints}
use Rattle.model.specs.Refusals.{bad_seek}
use Rattle.model.specs.Prog.{World, Out, ret, ◌>>=◌, ◌>>◌, done, refused, run}
use Rattle.model.specs.Operations.Numbers.{sum_above, from_end, seek_from, seek_on}
use Rattle.op_number.specs.declared.position.Origin.{Origin}
use Rattle.op_number.specs.Opened.{origin_from, number_from}
use Rattle.model.proofs.Running.{allowed, need-run}

-- ---- from the end

module _ (size offset : ℕ) (w : World) where
  abbrev sum : ℕ
  sum = sum_above size offset

  from_run : run (seek_from 2 offset 0 size) w ≡ allowed (leb (2 ^ 63) sum && ltb sum (2 ^ 64)) bad_seek (done (sum - 2 ^ 63) w)
  unfolding seek_from from_end run
  from_run = need-run (leb (2 ^ 63) sum && ltb sum (2 ^ 64)) bad_seek (ret (sum - 2 ^ 63)) w

  -- a place
  pub end_at : (k : ℕ) → sum ≡ k + 2 ^ 63 → k < 2 ^ 63 → run (seek_from 2 offset 0 size) w ≡ done k w
  end_at k e h =
      let x : leb (2 ^ 63) sum ≡ true = le-leb (2 ^ 63) sum (omega (arith, e)) in
      let y : ltb sum (2 ^ 64) ≡ true = lt-ltb sum (2 ^ 64) (omega (arith, e)) in
      let z : sum - 2 ^ 63 ≡ k = omega (arith, e) in
      from_run ∙ (λ i. allowed (x i && y i) bad_seek (done (z i) w))

  -- below 0
  pub end_below : sum < 2 ^ 63 → run (seek_from 2 offset 0 size) w ≡ refused bad_seek
  end_below h = from_run ∙ ap (λ (b : Bool). allowed (b && ltb sum (2 ^ 64)) bad_seek (done (sum - 2 ^ 63) w)) (lt-leb (2 ^ 63) sum h)

  -- above 2^63 - 1
  pub end-above : 2 ^ 64 ≤ sum → run (seek_from 2 offset 0 size) w ≡ refused bad_seek
  end-above h =
      let x : leb (2 ^ 63) sum ≡ true = le-leb (2 ^ 63) sum (omega arith) in
      let y : ltb sum (2 ^ 64) ≡ false = le-ltb sum (2 ^ 64) h in
      from_run ∙ (λ i. allowed (x i && y i) bad_seek (done (sum - 2 ^ 63) w))

-- the sum of an offset of 0 or above, and of one below
pub sum_up : (size offset : ℕ) → offset < 2 ^ 63 → sum_above size offset ≡ size + offset + 2 ^ 63
sum_up size offset h = omega arith

pub sum-down : (size offset : ℕ) → 2 ^ 63 ≤ offset → offset < 2 ^ 64 → sum_above size offset + 2 ^ 63 ≡ size + offset
sum-down size offset h k = omega arith

-- the sum, by the number that the offset stands for
pub sum_signed : (size offset : ℕ) (z : ℤ) → offset < 2 ^ 64 → z ≡ to_z w64 offset → pos (sum_above size offset) ≡ (pos size +ℤ to_z w64 (of_z w64 z)) +ℤ pos (2 ^ 63)
sum_signed size offset z h e = go (ltb offset (2 ^ 63)) refl
  where
    go : (b : Bool) → ltb offset (2 ^ 63) ≡ b → pos (sum_above size offset) ≡ (pos size +ℤ to_z w64 (of_z w64 z)) +ℤ pos (2 ^ 63)
    go true x = let k : offset < 2 ^ 63 = ltb-true offset (2 ^ 63) x in grind (arith, ints)
    go false x = let k : 2 ^ 63 ≤ offset = ltb-false offset (2 ^ 63) x in grind (arith, ints)

-- a sum that is not 0 or above
pub below : (size offset : ℕ) → (2 ^ 63 ≤ sum_above size offset → ⊥) → sum_above size offset < 2 ^ 63
below size offset h = go (leb (2 ^ 63) (sum_above size offset)) refl
  where
    go : (b : Bool) → leb (2 ^ 63) (sum_above size offset) ≡ b → sum_above size offset < 2 ^ 63
    go true e = absurd (h (leb-true (2 ^ 63) (sum_above size offset) e))
    go false e = leb-false (2 ^ 63) (sum_above size offset) e

-- ---- by the origin

module _ (origin offset at size : ℕ) (w : World) where
  pub seek-start : origin ≡ 0 → run (seek_from origin offset at size) w ≡ done offset w
  unfolding seek_from run
  seek-start e = ap (λ (k : ℕ). run (seek_from k offset at size) w) e

  pub seek-here : origin ≡ 1 → (k : ℕ) → k ≡ (at + offset) % 2 ^ 64 → run (seek_from origin offset at size) w ≡ done k w
  unfolding seek_from run
  seek-here e k x = ap (λ (j : ℕ). run (seek_from j offset at size) w) e ∙ ap (λ (j : ℕ). done j w) (sym x)

-- any other is the end, whatever the position
pub seek-other : (origin offset at size : ℕ) → (origin ≡ 0 → ⊥) → (origin ≡ 1 → ⊥) → (w : World)
    → run (seek_from origin offset at size) w ≡ run (seek_from 2 offset 0 size) w
unfolding seek_from
seek-other zero offset at size x y w = absurd (x refl)
seek-other (suc zero) offset at size x y w = absurd (y refl)
seek-other (suc (suc k)) offset at size x y w = refl

-- from the end, whatever the position
pub seek-end : (origin offset at size : ℕ) (w : World) → origin ≡ 2 → (r : Out ℕ) → run (seek_from 2 offset 0 size) w ≡ r → run (seek_from origin offset at size) w ≡ r
unfolding seek_from
seek-end origin offset at size w e r x = ap (λ (k : ℕ). run (seek_from k offset at size) w) e ∙ x

-- by an origin that its number stands for
pub origin_run : (n number offset : ℕ) (w : World) {o : Origin} → o ≡ origin_from number → run (seek_on n number offset) w ≡ run (seek_on n (number_from o) offset) w
unfolding seek_on seek_from run ◌>>=◌ ◌>>◌
origin_run n zero offset w e = ap (λ (k : Origin). run (seek_on n (number_from k) offset) w) (sym e)
origin_run n (suc zero) offset w e = ap (λ (k : Origin). run (seek_on n (number_from k) offset) w) (sym e)
origin_run n (suc (suc number)) offset w e = ap (λ (k : Origin). run (seek_on n (number_from k) offset) w) (sym e)
