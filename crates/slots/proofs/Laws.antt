-- What a change of the slots says of each slot: the slot that is named has the new word and bytes, and every other its old ones.
-- (Of the words and bytes by themselves: Totals and Contents.)
-- Assumes nothing.
use mathlib.Core.Path.{◌≡◌, refl, sym, ap, ◌∙◌}
use mathlib.Core.Bool.{cond}
use mathlib.Core.List.{List, [], ◌∷◌}
use Prim.Native.Nat.{ℕ, zero, suc, ◌+◌, ◌≤◌, ◌<◌}
use native.Mathlib.Omega.{arith}
use lib.Dec.{eqb}
use lib.ListN.{length, get_or, set, length-set}
use lib.Seq.{get_or-set_same, get_or-set_other, set-set}
use Rattle.layout.specs.Fields.{len_of, kind_of, mode_of}
use Rattle.layout.specs.Slots.{total, contents}
use Rattle.slots.specs.Put.{with_len, swept_by, Put}
use Rattle.slots.proofs.Contents.{length-contents, contents_same}
use Rattle.slots.proofs.Change.{put-len}

-- ---- the word with another length

module _ (h n : ℕ) (hn : n < 16777216) where
  pub len_with : len_of (with_len h n) ≡ n
  len_with = omega arith

  pub kind_with : kind_of (with_len h n) ≡ kind_of h
  kind_with = omega arith

  pub mode_with : mode_of (with_len h n) ≡ mode_of h
  mode_with = omega arith

-- ---- bytes put in a slot

module _ (hs bs hs' bs' : List ℕ) (k n : ℕ) (x : List ℕ) (p : Put hs bs hs' bs' k n x) where
  -- as many slots
  pub put-slots : length hs' ≡ length hs
  put-slots = ap length p.heads ∙ length-set hs k (with_len (get_or hs k 0) n)

  -- they still have room
  pub put-fits : total hs + n ≤ length bs + len_of (get_or hs k 0) → total hs' ≤ length bs'
  put-fits h = let r = p.room in let l = p.long in omega arith

  -- the word of the slot
  pub put-head : k < length hs → get_or hs' k 0 ≡ with_len (get_or hs k 0) n
  put-head hk = ap (λ (l : List ℕ). get_or l k 0) p.heads ∙ get_or-set_same hs k (with_len (get_or hs k 0) n) 0 hk

  -- its bytes
  pub put-here : k < length hs → get_or (contents hs' bs') k [] ≡ x
  put-here hk = ap (λ (l : List (List ℕ)). get_or l k []) p.texts ∙ get_or-set_same (contents hs bs) k x [] (rw (length-contents hs bs) hk)

  -- the word of another slot
  pub put-head_other : (j : ℕ) → (j ≡ k → ⊥) → get_or hs' j 0 ≡ get_or hs j 0
  put-head_other j d = ap (λ (l : List ℕ). get_or l j 0) p.heads ∙ get_or-set_other hs k j (with_len (get_or hs k 0) n) 0 d

  -- its bytes
  pub put_other : (j : ℕ) → (j ≡ k → ⊥) → get_or (contents hs' bs') j [] ≡ get_or (contents hs bs) j []
  put_other j d = ap (λ (l : List (List ℕ)). get_or l j []) p.texts ∙ get_or-set_other (contents hs bs) k j x [] d

  -- and then another word of that length
  pub word-heads : (h : ℕ) → set hs' k h ≡ set hs k h
  word-heads h = ap (λ (l : List ℕ). set l k h) p.heads ∙ set-set hs k (with_len (get_or hs k 0) n) h

  pub word-texts : (h : ℕ) → len_of h ≡ n → k < length hs → n < 16777216 → contents (set hs' k h) bs' ≡ set (contents hs bs) k x
  word-texts h e hk hn = contents_same hs' bs' k h (e ∙ sym (put-len hs bs hs' bs' k n x p hk hn)) ∙ p.texts

-- ---- slots swept

module _ {A : Type 0} (none : A) where
  pub length-swept : (ms : List ℕ) (l : List A) → length (swept_by none ms l) ≡ length l
  unfolding swept_by
  length-swept [] l = refl
  length-swept (m ∷ ms) [] = refl
  length-swept (m ∷ ms) (x ∷ l) = ap suc (length-swept ms l)

  -- a slot whose mark is 0 is free, and another as it was
  pub get_d-swept : (ms : List ℕ) (l : List A) (k : ℕ) → length ms ≡ length l → get_or (swept_by none ms l) k none ≡ cond (eqb (get_or ms k 0) 0) none (get_or l k none)
  unfolding swept_by
  get_d-swept [] [] k e = refl
  get_d-swept [] (x ∷ l) k e = absurd (omega arith)
  get_d-swept (m ∷ ms) [] k e = absurd (omega arith)
  get_d-swept (m ∷ ms) (x ∷ l) zero e = refl
  get_d-swept (m ∷ ms) (x ∷ l) (suc k) e = get_d-swept ms l k (omega arith)
