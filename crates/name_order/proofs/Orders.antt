-- The order of names by cases, and step by step. Two names are compared by their first bytes, and where these are the same by the
-- rest; so the answer is Equal for no two different names, and the other two answers exclude each other.
-- Assumes nothing.
use mathlib.Core.Bool.{Bool, true, false, not, false≢true}
use mathlib.Core.Path.{◌≡◌, refl, sym, ap, ◌∙◌}
use mathlib.Core.List.{[], ◌∷◌}
use Prim.Native.Nat.{ℕ, zero, suc, ◌≤◌, ◌<◌}
use native.Mathlib.Omega.{arith}
use lib.ListN.{length, drop, get_or, drop_of_length-le}
use lib.Seq.{drop-cons}
use borrow.Author.Tests.{lt-ltb, le-ltb, eq-eqb, ne_eqb}
use Rattle.std.specs.declared.cmp.Ordering.TheVariants.{Less, Equal, Greater}
use Rattle.std.specs.Ordering.{nat_cmp, ordering_then}
use Rattle.std.specs.Cmp.Lexicographic.{slice_cmp}
use Rattle.text.specs.Utf8.{Bytes}
use Rattle.model.specs.Tree.{precedes}
use Rattle.model.proofs.Entries.{name-dec}
use Rattle.model.proofs.Ordering.{Sides, less, equal, more, sides, cons-less, cons-equal, one_way, not_itself, joins}
use Rattle.name_order.specs.Order.{order_of}

-- ---- what stands before what

-- not both stand before the other
pub asymmetric : (x y : Bytes) → precedes x y ≡ true → precedes y x ≡ false
asymmetric x y h = go (precedes y x) refl
  where
    go : (v : Bool) → precedes y x ≡ v → precedes y x ≡ false
    go true k = absurd (false≢true (sym (not_itself x) ∙ joins x y x h k))
    go false k = k

-- ---- the answer

pub order_of_before : (x y : Bytes) → precedes x y ≡ true → order_of x y ≡ Less
unfolding order_of
order_of_before x y h = rw h

pub order_of_behind : (x y : Bytes) → precedes y x ≡ true → order_of x y ≡ Greater
unfolding order_of
order_of_behind x y h = rw (asymmetric y x h, h)

pub order_of_same : (x : Bytes) → order_of x x ≡ Equal
unfolding order_of
order_of_same x = rw (not_itself x)

-- names that begin alike are compared by the rest
pub order-cons : (a b : ℕ) (s t : Bytes) → a ≡ b → order_of (a ∷ s) (b ∷ t) ≡ order_of s t
unfolding order_of
order-cons a b s t h = rw (cons-equal a b s t h, cons-equal b a t s (sym h))

-- the three cases of two names
pub data Compared (x y : Bytes) : Type 0 where
  below : precedes x y ≡ true → Compared x y
  alike : x ≡ y → Compared x y
  above : precedes y x ≡ true → Compared x y

-- one of two names is before the other, or they are one
pub compared : (x y : Bytes) → Compared x y
compared x y = go (name-dec x y)
  where
    by : (x ≡ y → ⊥) → (v : Bool) → precedes y x ≡ v → Compared x y
    by n true k = above k
    by n false k = below (one_way x y n ∙ ap not k)

    go : Dec (x ≡ y) → Compared x y
    go (yes e) = alike e
    go (no n) = by n (precedes y x) refl

-- the answer Less, Equal, Greater says which
pub before_of_less : (x y : Bytes) → order_of x y ≡ Less → precedes x y ≡ true
before_of_less x y h = go (compared x y)
  where
    go : Compared x y → precedes x y ≡ true
    go (below k) = k
    go (alike k) = let e = order_of_same x in cc
    go (above k) = let e = order_of_behind x y k in cc

pub same_of_same : (x y : Bytes) → order_of x y ≡ Equal → x ≡ y
same_of_same x y h = go (compared x y)
  where
    go : Compared x y → x ≡ y
    go (below k) = let e = order_of_before x y k in cc
    go (alike k) = k
    go (above k) = let e = order_of_behind x y k in cc

pub behind_of_more : (x y : Bytes) → order_of x y ≡ Greater → precedes y x ≡ true
behind_of_more x y h = go (compared x y)
  where
    go : Compared x y → precedes y x ≡ true
    go (below k) = let e = order_of_before x y k in cc
    go (alike k) = let e = order_of_same x in cc
    go (above k) = k

-- ---- numbers

pub cmp-less : (x y : ℕ) → x < y → nat_cmp x y ≡ Less
cmp-less x y h = rw (lt-ltb x y h)

pub cmp_same : (x y : ℕ) → x ≡ y → nat_cmp x y ≡ Equal
cmp_same x y h = rw (le-ltb x y (omega arith), eq-eqb x y h)

pub cmp_more : (x y : ℕ) → y < x → nat_cmp x y ≡ Greater
cmp_more x y h = rw (le-ltb x y (omega arith), ne_eqb x y (λ e. omega arith))

-- the order of names is that of lists of numbers
pub order_is : (a b : Bytes) → slice_cmp nat_cmp a b ≡ order_of a b
unfolding order_of precedes
order_is [] [] = refl
order_is [] (y ∷ t) = refl
order_is (x ∷ s) [] = refl
order_is (x ∷ s) (y ∷ t) = go (sides x y) (order_is s t)
  where
    go : Sides x y → slice_cmp nat_cmp s t ≡ order_of s t → slice_cmp nat_cmp (x ∷ s) (y ∷ t) ≡ order_of (x ∷ s) (y ∷ t)
    go (less h) e = ap (λ o. ordering_then o (slice_cmp nat_cmp s t)) (cmp-less x y h) ∙ sym (order_of_before (x ∷ s) (y ∷ t) (cons-less x y s t h))
    go (equal h) e = ap (λ o. ordering_then o (slice_cmp nat_cmp s t)) (cmp_same x y h) ∙ e ∙ sym (order-cons x y s t h)
    go (more h) e = ap (λ o. ordering_then o (slice_cmp nat_cmp s t)) (cmp_more x y h) ∙ sym (order_of_behind (x ∷ s) (y ∷ t) (cons-less y x t s h))

-- ---- the steps of a comparison

module _ (a b : Bytes) (i : ℕ) where
  pub order-end : length a ≤ i → length b ≤ i → order_of (drop i a) (drop i b) ≡ Equal
  order-end h k = rw (drop_of_length-le a h, drop_of_length-le b k) (order_of_same [])

  pub order-short : length a ≤ i → i < length b → order_of (drop i a) (drop i b) ≡ Less
  unfolding order_of precedes
  order-short h k = rw (drop_of_length-le a h, drop-cons b i 0 k)

  pub order-long : i < length a → length b ≤ i → order_of (drop i a) (drop i b) ≡ Greater
  unfolding order_of precedes
  order-long h k = rw (drop-cons a i 0 h, drop_of_length-le b k)

  pub order-less : i < length a → i < length b → get_or a i 0 < get_or b i 0 → order_of (drop i a) (drop i b) ≡ Less
  order-less h k l = rw (drop-cons a i 0 h, drop-cons b i 0 k) (order_of_before _ _ (cons-less _ _ _ _ l))

  pub order_more : i < length a → i < length b → get_or b i 0 < get_or a i 0 → order_of (drop i a) (drop i b) ≡ Greater
  order_more h k l = rw (drop-cons a i 0 h, drop-cons b i 0 k) (order_of_behind _ _ (cons-less _ _ _ _ l))

  pub order_next : i < length a → i < length b → get_or a i 0 ≡ get_or b i 0
      → order_of (drop i a) (drop i b) ≡ order_of (drop (suc i) a) (drop (suc i) b)
  order_next h k l = rw (drop-cons a i 0 h, drop-cons b i 0 k) (order-cons _ _ _ _ l)

-- the bytes before i are the same
abbrev pub Alike : Bytes → Bytes → ℕ → Type 0
Alike a b i = (m : ℕ) → m < i → get_or a m 0 ≡ get_or b m 0

-- names are compared from their first byte on in which they differ
pub past : (a b : Bytes) (i : ℕ) → i ≤ length a → i ≤ length b → Alike a b i → order_of a b ≡ order_of (drop i a) (drop i b)
past a b zero l m h = refl
past a b (suc i) l m h = past a b i (omega arith) (omega arith) (λ n w. h n (omega arith)) ∙ order_next a b i (omega arith) (omega arith) (h i (omega arith))
