-- What the bytes of the slots depend on: the lengths in the words, and the bytes behind `start`.
-- Assumes nothing.
use mathlib.Core.Path.{◌≡◌, refl, ap, ◌∙◌}
use mathlib.Core.List.{List, [], ◌∷◌}
use Prim.Native.Nat.{ℕ, zero, suc, ◌+◌, ◌-◌}
use lib.ListN.{length, take, drop, get_or, set}
use Rattle.layout.specs.Fields.{len_of}
use Rattle.layout.specs.Slots.{total, split, start, contents}

length-split : (hs s : List ℕ) → length (split hs s) ≡ length hs
unfolding split
length-split [] s = refl
length-split (h ∷ hs) s = ap suc (length-split hs (drop (len_of h) s))

-- one for each slot
pub length-contents : (hs bs : List ℕ) → length (contents hs bs) ≡ length hs
length-contents hs bs = length-split hs (drop (start hs bs) bs)

-- the same bytes behind `start` are the same bytes of each slot
pub contents-behind : (hs bs bs' : List ℕ) → length bs ≡ length bs' → drop (start hs bs) bs ≡ drop (start hs bs) bs' → contents hs bs ≡ contents hs bs'
contents-behind hs bs bs' l e = ap (split hs) e ∙ ap (λ (n : ℕ). split hs (drop (n - total hs) bs')) l

module _ (h : ℕ) where
  split_same : (hs : List ℕ) (k : ℕ) (s : List ℕ) → len_of h ≡ len_of (get_or hs k 0) → split (set hs k h) s ≡ split hs s
  unfolding split
  split_same [] k s e = refl
  split_same (x ∷ hs) zero s e = ap (λ (n : ℕ). take n s ∷ split hs (drop n s)) e
  split_same (x ∷ hs) (suc k) s e = ap (λ (l : List (List ℕ)). take (len_of x) s ∷ l) (split_same hs k (drop (len_of x) s) e)

  -- and not how many they are
  pub total_same : (hs : List ℕ) (k : ℕ) → len_of h ≡ len_of (get_or hs k 0) → total (set hs k h) ≡ total hs
  unfolding total
  total_same [] k e = refl
  total_same (x ∷ hs) zero e = ap (λ (n : ℕ). n + total hs) e
  total_same (x ∷ hs) (suc k) e = ap (λ (n : ℕ). len_of x + n) (total_same hs k e)

-- a word of the same length changes the bytes of no slot
pub contents_same : (hs bs : List ℕ) (k h : ℕ) → len_of h ≡ len_of (get_or hs k 0) → contents (set hs k h) bs ≡ contents hs bs
contents_same hs bs k h e =
    split_same h hs k (drop (start (set hs k h) bs) bs) e ∙ ap (λ (n : ℕ). split hs (drop (length bs - n) bs)) (total_same h hs k e)
