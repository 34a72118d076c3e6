-- Bytes as one number. Of two runs of bytes the one with the lesser number is less in the first byte in which they differ: what
-- follows a byte is less than one of that byte. So runs with one number are the same.
-- Assumes nothing.
use mathlib.Core.Bool.{Bool, true, false}
use mathlib.Core.List.{List, []}
use mathlib.Core.Path.{◌≡◌, refl, sym, ap, ◌∙◌}
use Prim.Native.Nat.{ℕ, zero, suc, ◌+◌, ◌-◌, ◌*◌, ◌/◌, ◌≤◌, ◌<◌, min}
use native.Mathlib.Omega.{arith}
use lib.Dec.{ltb}
use native.Mathlib.Nat.{zero-add, add-zero}
use lib.ListN.{length, take, drop, get_or}
use lib.Seq.{get_or-take, get_or-drop, length-take-le, drop-drop}
use borrow.Author.Tests.{ltb-true, ltb-false}
use Rattle.std.specs.declared.cmp.Ordering.{Ordering}
use Rattle.std.specs.declared.cmp.Ordering.TheVariants.{Less, Equal, Greater}
use Rattle.std.specs.Ordering.{nat_cmp, ordering_then, is_ne, MatchOrdering}
use Rattle.std.specs.Array.{IsWholeChunk}
use Rattle.std.specs.Simd.{first_chunks}
use Rattle.std.specs.Int.{w32, w64, from_be_bytes}
use Rattle.text.specs.Utf8.{Bytes}
use Rattle.model.proofs.Ordering.{Sides, less, equal, more, sides}
use Rattle.name_order.specs.Order.{order_of, number}
use Rattle.name_order.proofs.Orders.{cmp-less, cmp_same, cmp_more, before_of_less, order_of_behind, order-end, order-short, order-long, order-less, Alike, past}

-- ---- from bytes

-- the same bytes, the same number
pub number_same : (k : ℕ) (s t : Bytes) (i j : ℕ) → ((m : ℕ) → m < k → get_or s (i + m) 0 ≡ get_or t (j + m) 0) → number k i s ≡ number k j t
unfolding number
number_same zero s t i j h = refl
number_same (suc k) s t i j h = omega (arith, number_same k s t i j (λ m l. h m (omega arith)), h k (omega arith))

-- the bytes of a part
pub number_part : (k i : ℕ) (s bs : Bytes) → IsWholeChunk (take (i + k - i) (drop i s)) bs k → number k 0 bs ≡ number k i s
number_part k i s bs h =
    number_same k bs s 0 i (λ m l. let z : m < i + k - i = omega arith in rw (h.same, zero-add m) (get_or-take (i + k - i) (drop i s) m 0 z ∙ get_or-drop i s m 0))

-- eight bytes after eight
chunk_at : (k : ℕ) (s : Bytes) (j : ℕ) → j < k → get_or (first_chunks 8 k s) j [] ≡ take 8 (drop (8 * j) s)
chunk_at zero s j l = absurd (omega arith)
chunk_at (suc k) s zero l = refl
chunk_at (suc k) s (suc j) l =
    let e : 8 + 8 * j ≡ 8 * suc j = omega arith in chunk_at k (drop 8 s) j (omega arith) ∙ ap (take 8) (drop-drop (8 * j) 8 s ∙ ap (λ (i : ℕ). drop i s) e)

chunks_long : (k : ℕ) (s : Bytes) → length (first_chunks 8 k s) ≡ k
chunks_long zero s = refl
chunks_long (suc k) s = ap suc (chunks_long k (drop 8 s))

-- the chunks of the first e bytes
abbrev pub chunks : Bytes → ℕ → List Bytes
chunks s e = first_chunks 8 (length (take e s) / 8) (take e s)

pub chunks-long : (s : Bytes) (e : ℕ) → e ≤ length s → length (chunks s e) ≡ e / 8
chunks-long s e l = chunks_long (length (take e s) / 8) (take e s) ∙ ap (λ (k : ℕ). k / 8) (length-take-le e s l)

pub number_chunk : (s : Bytes) (e j : ℕ) (x : Bytes) → e ≤ length s → j < length (chunks s e) → x ≡ get_or (chunks s e) j []
    → (8 * j + 8 ≤ e) × (number 8 0 x ≡ number 8 (8 * j) s)
number_chunk s e j x l k h = (fits, number_same 8 x s 0 (8 * j) each)
  where
    few : j < length (take e s) / 8
    few = omega (arith, k, chunks_long (length (take e s) / 8) (take e s))

    fits : 8 * j + 8 ≤ e
    fits = omega (arith, k, chunks-long s e l)

    each : (m : ℕ) → m < 8 → get_or x (0 + m) 0 ≡ get_or s (8 * j + m) 0
    each m z =
        rw (zero-add m, h, chunk_at (length (take e s) / 8) (take e s) j few)
        (get_or-take 8 (drop (8 * j) (take e s)) m 0 z ∙ get_or-drop (8 * j) (take e s) m 0 ∙ get_or-take e s (8 * j + m) 0 (omega (arith, fits)))

pub four : (bs : List ℕ) → from_be_bytes w32 bs ≡ number 4 0 bs
unfolding number
four bs = omega arith

pub eight : (bs : List ℕ) → from_be_bytes w64 bs ≡ number 8 0 bs
unfolding number
eight bs = omega arith

-- ---- longer runs from shorter ones

pub two : (i : ℕ) (s : Bytes) → get_or s (i + 1) 0 + get_or s i 0 * 256 ≡ number 2 i s
unfolding number
two i s = rw (add-zero i) (omega arith)

pub four_halves : (i : ℕ) (s : Bytes) → number 2 (i + 2) s + number 2 i s * 65536 ≡ number 4 i s
unfolding number
four_halves i s =
    let a : i + 2 + 0 ≡ i + 2 = omega arith in
    let b : i + 2 + 1 ≡ i + 3 = omega arith in
    rw (a, b) (omega arith)

pub eight_halves : (i : ℕ) (s : Bytes) → number 4 (i + 4) s + number 4 i s * 4294967296 ≡ number 8 i s
unfolding number
eight_halves i s =
    let a : i + 4 + 0 ≡ i + 4 = omega arith in
    let b : i + 4 + 1 ≡ i + 5 = omega arith in
    let c : i + 4 + 2 ≡ i + 6 = omega arith in
    let d : i + 4 + 3 ≡ i + 7 = omega arith in
    rw (a, b, c, d) (omega arith)

-- ---- what two runs say

-- the first byte in which s from i on differs from t from j on, one of k, is less in s
pub record Lower (s t : Bytes) (i j k : ℕ) : Type 0 where
  pub at : ℕ
  pub within : at < k
  pub alike : (m : ℕ) → m < at → get_or s (i + m) 0 ≡ get_or t (j + m) 0
  pub lower : get_or s (i + at) 0 < get_or t (j + at) 0

module _ (s t : Bytes) (f : (m : ℕ) → get_or s m 0 < 256) (g : (m : ℕ) → get_or t m 0 < 256) (i j : ℕ) where
  -- runs of one number are the same
  alike : (k : ℕ) → number k i s ≡ number k j t → (m : ℕ) → m < k → get_or s (i + m) 0 ≡ get_or t (j + m) 0
  unfolding number
  alike zero e m l = absurd (omega arith)
  alike (suc k) e m l = go (alike k (omega (arith, f (i + k), g (j + k))) m) (ltb m k) refl
    where
      go : (m < k → get_or s (i + m) 0 ≡ get_or t (j + m) 0) → (b : Bool) → ltb m k ≡ b → get_or s (i + m) 0 ≡ get_or t (j + m) 0
      go h true q = h (ltb-true m k q)
      go h false q = let r : m ≡ k = omega (arith, ltb-false m k q) in rw r (omega (arith, e, f (i + k), g (j + k)))

  pub lower : (k : ℕ) → number k i s < number k j t → Lower s t i j k
  unfolding number
  lower zero l = absurd (omega arith)
  lower (suc k) l = go (lower k) (sides (number k i s) (number k j t))
    where
      go : (number k i s < number k j t → Lower s t i j k) → Sides (number k i s) (number k j t) → Lower s t i j (suc k)
      go h (less z) = let d = h z in record { at = d.at; within = omega (arith, d.within); alike = d.alike; lower = d.lower }
      go h (equal z) = record { at = k; within = omega arith; alike = alike k z; lower = omega (arith, l, z) }
      go h (more z) = absurd (omega (arith, l, z, f (i + k), g (j + k)))

-- ---- names by runs

module _ (a b : Bytes) (f : (m : ℕ) → get_or a m 0 < 256) (g : (m : ℕ) → get_or b m 0 < 256) (i k : ℕ) (h : Alike a b i) where
  -- two runs behind what is the same
  further : (c d : Bytes) → Alike c d i → (n : ℕ) → ((m : ℕ) → m < n → get_or c (i + m) 0 ≡ get_or d (i + m) 0) → Alike c d (i + n)
  further c d u n v m l = go (ltb m i) refl
    where
      go : (t : Bool) → ltb m i ≡ t → get_or c m 0 ≡ get_or d m 0
      go true q = u m (ltb-true m i q)
      go false q = let r : i + (m - i) ≡ m = omega (arith, ltb-false m i q) in rw r at (v (m - i) (omega (arith, ltb-false m i q)))

  run-less : (c d : Bytes) → Alike c d i → Lower c d i i k → i + k ≤ length c → i + k ≤ length d → order_of c d ≡ Less
  run-less c d u z l m =
      past c d (i + z.at) (omega (arith, z.within)) (omega (arith, z.within)) (further c d u z.at z.alike)
      ∙ order-less c d (i + z.at) (omega (arith, z.within)) (omega (arith, z.within)) z.lower

  module _ (l : i + k ≤ length a) (m : i + k ≤ length b) where
    -- the numbers decide, or the runs are the same
    pub run : MatchOrdering (nat_cmp (number k i a) (number k i b)) (order_of a b ≡ Less) (Alike a b (i + k)) (order_of a b ≡ Greater)
    run = go (sides (number k i a) (number k i b))
      where
        go : Sides (number k i a) (number k i b) → MatchOrdering (nat_cmp (number k i a) (number k i b)) (order_of a b ≡ Less) (Alike a b (i + k)) (order_of a b ≡ Greater)
        go (less z) = rw (cmp-less _ _ z) (run-less a b h (lower a b f g i i k z) l m)
        go (equal z) = rw (cmp_same _ _ z) (further a b h k (alike a b f g i i k z))
        go (more z) = rw (cmp_more _ _ z) (order_of_behind a b (before_of_less b a (run-less b a (λ n u. sym (h n u)) (lower b a g f i i k z) m l)))

    pub run_ends : (o : Ordering) → o ≡ nat_cmp (number k i a) (number k i b) → is_ne o ≡ true → o ≡ order_of a b
    run_ends o e t = go o t (rw (sym e) at run)
      where
        go : (o : Ordering) → is_ne o ≡ true → MatchOrdering o (order_of a b ≡ Less) (Alike a b (i + k)) (order_of a b ≡ Greater) → o ≡ order_of a b
        go Less t r = sym r
        go Equal t r = cc
        go Greater t r = sym r

    pub run_goes : (o : Ordering) → o ≡ nat_cmp (number k i a) (number k i b) → is_ne o ≡ false → Alike a b (i + k)
    run_goes o e t = go o t (rw (sym e) at run)
      where
        go : (o : Ordering) → is_ne o ≡ false → MatchOrdering o (order_of a b ≡ Less) (Alike a b (i + k)) (order_of a b ≡ Greater) → Alike a b (i + k)
        go Less t r = cc
        go Equal t r = r
        go Greater t r = cc

    pub run_then : (r : Ordering) → (Alike a b (i + k) → r ≡ order_of a b) → ordering_then (nat_cmp (number k i a) (number k i b)) r ≡ order_of a b
    run_then r z = go (nat_cmp (number k i a) (number k i b)) run
      where
        go : (o : Ordering) → MatchOrdering o (order_of a b ≡ Less) (Alike a b (i + k)) (order_of a b ≡ Greater) → ordering_then o r ≡ order_of a b
        go Less t = sym t
        go Equal t = z t
        go Greater t = sym t

-- names that are the same as far as the shorter goes
pub by_end : (a b : Bytes) (n : ℕ) → n ≡ min (length a) (length b) → Alike a b n → nat_cmp (length a) (length b) ≡ order_of a b
by_end a b n e h = go (sides (length a) (length b))
  where
    on : order_of a b ≡ order_of (drop n a) (drop n b)
    on = past a b n (omega arith) (omega arith) h

    go : Sides (length a) (length b) → nat_cmp (length a) (length b) ≡ order_of a b
    go (less z) = cmp-less _ _ z ∙ sym (on ∙ order-short a b n (omega arith) (omega arith))
    go (equal z) = cmp_same _ _ z ∙ sym (on ∙ order-end a b n (omega arith) (omega arith))
    go (more z) = cmp_more _ _ z ∙ sym (on ∙ order-long a b n (omega arith) (omega arith))
