-- Bytes of slots that no record has, and bytes of slots that one has: together they are the bytes of all slots, since no slot has
-- two records.
-- Assumes nothing.
use mathlib.Core.Bool.{Bool, cond}
use mathlib.Core.List.{List, [], ◌∷◌}
use mathlib.Core.Path.{◌≡◌, refl, sym, ap, ◌∙◌}
use Prim.Native.Nat.{ℕ, zero, suc, ◌+◌, ◌≤◌}
use native.Mathlib.Nat.{add-zero}
use native.Mathlib.Omega.{arith}
use lib.Dec.{eqb}
use lib.ListN.{length, get_or}
use borrow.Author.Tests.{eq-eqb, ne_eqb}
use Rattle.std.specs.List.{sum_by, zip}
use Rattle.std.proofs.lemmas.List.Sums.{sum_by-cons}
use Rattle.layout.specs.Fields.{len_of}
use Rattle.ask_used.specs.Unnamed.{alone, alone_from, unmarked_bytes}

-- one slot more
pub alone_more : (u : ℕ → ℕ) (hs : List ℕ) (n k : ℕ) → alone_from u hs (suc n) k ≡ alone_from u hs n k + alone u hs (k + n)
unfolding alone_from
alone_more u hs zero k = ap (λ (j : ℕ). alone u hs j + 0) (sym (add-zero k)) ∙ omega arith
alone_more u hs (suc n) k =
    let e : suc k + n ≡ k + suc n = omega arith in
    ap (λ (m : ℕ). alone u hs k + m) (alone_more u hs n (suc k)) ∙ (ap (λ (j : ℕ). alone u hs k + (alone_from u hs n (suc k) + alone u hs j)) e ∙ omega arith)

pub alone-marked : (u : ℕ → ℕ) (hs : List ℕ) (k : ℕ) → (u k ≡ 0 → ⊥) → alone u hs k ≡ 0
alone-marked u hs k h = ap (λ (b : Bool). cond b (len_of (get_or hs k 0)) 0) (ne_eqb (u k) 0 h)

pub alone-free : (u : ℕ → ℕ) (hs : List ℕ) (k : ℕ) → u k ≡ 0 → alone u hs k ≡ len_of (get_or hs k 0)
alone-free u hs k h = ap (λ (b : Bool). cond b (len_of (get_or hs k 0)) 0) (eq-eqb (u k) 0 h)

-- by another count of the same
pub alone_same : (u v : ℕ → ℕ) (hs : List ℕ) (n k : ℕ) → ((i : ℕ) → u i ≡ v i) → alone_from u hs n k ≡ alone_from v hs n k
unfolding alone_from
alone_same u v hs zero k h = refl
alone_same u v hs (suc n) k h = rw (h k, alone_same u v hs n (suc k) h) refl

-- what a slot adds, by its word and its mark
abbrev pub free_bytes : ℕ × ℕ → ℕ
free_bytes p = cond (eqb p.1 0) (len_of p.0) 0

-- the slots behind the first
shifted : (m h : ℕ) (ms hs : List ℕ) (n k : ℕ) → alone_from (λ j. get_or ms j 0) hs n k ≡ alone_from (λ j. get_or (m ∷ ms) j 0) (h ∷ hs) n (suc k)
unfolding alone_from
shifted m h ms hs zero k = refl
shifted m h ms hs (suc n) k = ap (λ (t : ℕ). alone (λ j. get_or ms j 0) hs k + t) (shifted m h ms hs n (suc k))

-- the sum over the slots beside their marks
pub unmarked-sum : (hs ms : List ℕ) → length hs ≤ length ms → sum_by free_bytes (zip hs ms) ≡ unmarked_bytes ms hs
unfolding alone_from
unmarked-sum [] ms l = refl
unmarked-sum (h ∷ hs) [] l = absurd (omega arith)
unmarked-sum (h ∷ hs) (m ∷ ms) l =
    sum_by-cons free_bytes (h, m) (zip hs ms)
    ∙ ap (λ (t : ℕ). free_bytes (h, m) + t) (unmarked-sum hs ms (omega arith) ∙ shifted m h ms hs (length hs) 0)
