-- The first eight bytes of a name as one number, zeros where it is shorter. Where the eight bytes that begin where another name
-- begins are less as a number, then in the first byte that differs; the zeros are never the greater, so that byte is one of the
-- name's. Whether the other name reaches that far or ends before, it is less.
-- Assumes nothing.
use mathlib.Core.Bool.{Bool, true, false}
use mathlib.Core.Path.{◌≡◌, refl, ◌∙◌}
use Prim.Native.Nat.{ℕ, zero, suc, ◌+◌, ◌*◌, ◌≤◌, ◌<◌}
use native.Mathlib.Omega.{arith}
use lib.Dec.{ltb}
use lib.ListN.{length, take, drop, get_or, length-drop, get_or-eq_default}
use lib.Seq.{get_or-take, get_or-drop, length-take-le}
use borrow.Author.Tests.{ltb-true, ltb-false}
use Rattle.text.specs.Utf8.{Bytes}
use Rattle.name_order.specs.Order.{order_of, number}
use Rattle.std.specs.declared.cmp.Ordering.TheVariants.{Less}
use Rattle.name_order.proofs.Orders.{order-short, order-less, past}
use Rattle.name_order.proofs.Numbers.{Lower, lower}

-- ---- one byte after the other

pub number_none : (x : Bytes) → number 0 0 x ≡ 0
unfolding number
number_none x = refl

pub number_next : (x : Bytes) (k : ℕ) → number k 0 x * 256 + get_or x k 0 ≡ number (suc k) 0 x
unfolding number
number_next x k = let e : 0 + k ≡ k = omega arith in rw e

-- fewer bytes, a lesser number
number_more : (x : Bytes) (k m : ℕ) → k ≤ m → number k 0 x ≤ number m 0 x
unfolding number
number_more x k zero l = let e : k ≡ 0 = omega arith in rw e (omega arith)
number_more x k (suc m) l = go (number_more x k m) (ltb m k) refl
  where
    go : (k ≤ m → number k 0 x ≤ number m 0 x) → (b : Bool) → ltb m k ≡ b → number k 0 x ≤ number (suc m) 0 x
    go h true q = let e : k ≡ suc m = omega (arith, ltb-true m k q) in rw e (omega arith)
    go h false q = omega (arith, h (ltb-false m k q))

-- seven bytes leave room for one more
pub number_small : (x : Bytes) → ((m : ℕ) → get_or x m 0 < 256) → (k : ℕ) → k < 8 → number k 0 x < 72057594037927936
unfolding number
number_small x g k l = omega (arith, number_more x k 7 (omega arith), g 0, g 1, g 2, g 3, g 4, g 5, g 6)

-- ---- by eight bytes

-- the name of n bytes at o, by the eight bytes there, which may reach behind it
pub key-less : (s x : Bytes) (o n : ℕ) → ((m : ℕ) → get_or s m 0 < 256) → ((m : ℕ) → get_or x m 0 < 256) → o + n ≤ length s
    → number 8 o s < number 8 0 x → order_of (take n (drop o s)) x ≡ Less
key-less s x o n f g r l = go (ltb d.at n) refl
  where
    d : Lower s x o 0 8
    d = lower s x f g o 0 8 l

    size : length (take n (drop o s)) ≡ n
    size = length-take-le n (drop o s) (omega (arith, length-drop o s, r))

    low : get_or s (o + d.at) 0 < get_or x d.at 0
    low = let e : 0 + d.at ≡ d.at = omega arith in rw e at d.lower

    inside : d.at < length x
    inside = by (ltb d.at (length x)) refl
      where
        by : (b : Bool) → ltb d.at (length x) ≡ b → d.at < length x
        by true q = ltb-true d.at (length x) q
        by false q = absurd (omega (arith, low, get_or-eq_default x 0 {n = d.at} (omega (arith, ltb-false d.at (length x) q))))

    same : (m : ℕ) → m < n → m < d.at → get_or (take n (drop o s)) m 0 ≡ get_or x m 0
    same m h k = let e : 0 + m ≡ m = omega arith in get_or-take n (drop o s) m 0 h ∙ get_or-drop o s m 0 ∙ (rw e at (d.alike m k))

    go : (b : Bool) → ltb d.at n ≡ b → order_of (take n (drop o s)) x ≡ Less
    go true q =
        let h = ltb-true d.at n q in
        past (take n (drop o s)) x d.at (omega (arith, size, h)) (omega (arith, inside)) (λ m k. same m (omega (arith, k, h)) k)
        ∙ order-less (take n (drop o s)) x d.at (omega (arith, size, h)) inside (rw (get_or-take n (drop o s) d.at 0 h, get_or-drop o s d.at 0) low)
    go false q =
        let h = ltb-false d.at n q in
        past (take n (drop o s)) x n (omega (arith, size)) (omega (arith, inside, h)) (λ m k. same m k (omega (arith, k, h)))
        ∙ order-short (take n (drop o s)) x n (omega (arith, size)) (omega (arith, inside, h))
