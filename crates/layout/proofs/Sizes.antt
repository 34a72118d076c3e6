-- The sizes of the numbers of a store: what holds of every element of a slice holds of a part's.
-- Assumes nothing.
use mathlib.Core.Bool.{Bool, true, false}
use mathlib.Core.List.{List, [], ◌∷◌}
use mathlib.Core.Path.{◌≡◌, refl, subst}
use Prim.Native.Nat.{ℕ, zero, suc, ◌+◌, ◌*◌, ◌≤◌, ◌<◌, ◌^◌}
use native.Mathlib.Omega.{arith}
use lib.Dec.{T, ltb, lt→ltb}
use lib.IntN.{ℤ, pos, negsuc}
use lib.ListN.{length, take, get_or}
use borrow.Author.Tests.{ltb-true, ltb-false}
use mir.Syntax.{w64}
use mir.Val.{SFits}
use Rattle.text.specs.Utf8.{Bytes}
use Rattle.path.proofs.Laws.{and_both, and_left, and_right}
use Rattle.model.specs.Rules.{time_ok, bytes_ok}
use Rattle.layout.specs.Numbers.{word_count}
use Rattle.layout.specs.Store.{Store, most, room, extent, slots_for, core}
use Rattle.layout.specs.Lawful.{Sized}

part-holds : {A : Type 0} (P : A → Type 0) (d : A) → P d → (l : List A) → ((i : ℕ) → P (get_or l i d)) → (n i : ℕ) → P (get_or (take n l) i d)
part-holds P d z [] h n i = none n i
  where
    none : (n i : ℕ) → P (get_or (take n []) i d)
    none zero i = z
    none (suc n) i = z
part-holds P d z (a ∷ l) h zero i = z
part-holds P d z (a ∷ l) h (suc n) zero = h 0
part-holds P d z (a ∷ l) h (suc n) (suc i) = part-holds P d z l (λ j. h (suc j)) n i

pub bytes-sized : (s : Bytes) → ((i : ℕ) → get_or s i 0 < 256) → T (bytes_ok s)
unfolding bytes_ok
bytes-sized [] h = tt
bytes-sized (b ∷ s) h = and_both (ltb b 256) (bytes_ok s) (lt→ltb b 256 (h 0)) (bytes-sized s (λ i. h (suc i)))

part_bytes : (n : ℕ) (s : Bytes) → T (bytes_ok s) → T (bytes_ok (take n s))
unfolding bytes_ok
part_bytes zero s h = tt
part_bytes (suc n) [] h = tt
part_bytes (suc n) (b ∷ s) h = and_both (ltb b 256) (bytes_ok (take n s)) (and_left (ltb b 256) (bytes_ok s) h) (part_bytes n s (and_right (ltb b 256) (bytes_ok s) h))

-- ---- times

pub time-known : (z : ℤ) → SFits w64 z → T (time_ok z)
unfolding time_ok
time-known (pos n) f = lt→ltb n (2 ^ 63) f.sfits
time-known (negsuc n) f = lt→ltb n (2 ^ 63) f.sfits

pub known_more : (l : List ℤ) (i : ℕ) → ((j : ℕ) → j < i → T (time_ok (get_or l j (pos 0)))) → T (time_ok (get_or l i (pos 0))) → (j : ℕ) → j < i + 1 → T (time_ok (get_or l j (pos 0)))
known_more l i h k j a = go (ltb j i) refl
  where
    go : (b : Bool) → ltb j i ≡ b → T (time_ok (get_or l j (pos 0)))
    go true e = h j (ltb-true j i e)
    go false e = let z : i ≡ j = omega (arith, ltb-false j i e, a) in subst (λ (m : ℕ). T (time_ok (get_or l m (pos 0)))) z k

past_end : (l : List ℤ) (j : ℕ) → length l ≤ j → T (time_ok (get_or l j (pos 0)))
unfolding time_ok
past_end [] j h = tt
past_end (a ∷ l) zero h = absurd (omega arith)
past_end (a ∷ l) (suc j) h = past_end l j (omega arith)

pub known_all : (l : List ℤ) (i : ℕ) → ((j : ℕ) → j < i → T (time_ok (get_or l j (pos 0)))) → length l ≤ i → (j : ℕ) → T (time_ok (get_or l j (pos 0)))
known_all l i h a j = go (ltb j i) refl
  where
    go : (b : Bool) → ltb j i ≡ b → T (time_ok (get_or l j (pos 0)))
    go true e = h j (ltb-true j i e)
    go false e = past_end l j (omega (arith, ltb-false j i e))

-- ---- the store

pub sized-cut : (st : Store) → ((i : ℕ) → get_or st.words i 0 < 2 ^ 64) → ((i : ℕ) → get_or st.heads i 0 < 2 ^ 64) → ((i : ℕ) → T (time_ok (get_or st.times i (pos 0)))) → ((i : ℕ) → get_or st.bytes i 0 < 256) → Sized (core st)
unfolding time_ok
sized-cut st ws hs ts bs = record {
  words = part-holds (λ x. x < 2 ^ 64) 0 (omega arith) st.words ws word_count;
  heads = part-holds (λ x. x < 2 ^ 64) 0 (omega arith) st.heads hs (extent st);
  times = part-holds (λ x. T (time_ok x)) (pos 0) tt st.times ts (4 * slots_for (most st));
  bytes = part_bytes (room st) st.bytes (bytes-sized st.bytes bs);
}
