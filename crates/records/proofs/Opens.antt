-- What putting an entry in leaves: the words from the k-th on and the names from there on move up by one word and by the new name, and
-- the bytes behind the names and the new room stay. Assumes nothing.
use mathlib.Core.Path.{◌≡◌, sym, ap, ◌∙◌}
use mathlib.Core.List.{List, [], ◌∷◌, ◌++◌, append_assoc}
use Prim.Native.Nat.{ℕ, ◌+◌, ◌-◌, ◌≤◌, ◌<◌}
use native.Mathlib.Omega.{arith}
use lib.ListN.{length, take, drop, set, length-append}
use lib.Seq.{paste, length-take-le, take_at, drop_at, take-take, length-slice, set_at}
use Rattle.blocks.specs.Moved.{moved}
use Rattle.blocks.proofs.Cuts.{quarter, up, over}
use Rattle.layout.specs.Fields.{nlen_of}
use Rattle.layout.specs.Rows.{Row, rows, name_total}
use Rattle.records.specs.Blocks.{row_of, Opened}
use Rattle.layout.proofs.Named.{total-append, total-split}
use Rattle.records.proofs.Entries.{total_up, rows-around, rows-tail, contents-kept}

-- the bytes
bytes-in : (bs bs₁ bs₂ x : List ℕ) (o u : ℕ) → o ≤ u → u + length x ≤ length bs → bs₁ ≡ moved bs o (o + length x) (u - o) → bs₂ ≡ paste bs₁ o x (length x)
    → bs₂ ≡ take o bs ++ (x ++ (drop o (take u bs) ++ drop (u + length x) bs))
bytes-in bs bs₁ bs₂ x o u h l e f =
    let n : ℕ = length x in
    let B : List ℕ = take o bs in
    let T : List ℕ = drop o (take u bs) in
    let G : List ℕ = drop u (take (u + length x) bs) in
    let K : List ℕ = drop (u + length x) bs in
    let l_b : length B ≡ o = length-take-le o bs (omega arith) in
    let l_t : length T ≡ u - o = length-slice o u bs (omega arith) in
    let l_g : length G ≡ n = length-slice u (u + n) bs l ∙ omega arith in
    let J : List ℕ = take n (T ++ G) in
    let l_j : length J ≡ length x = length-take-le n (T ++ G) (omega (arith, length-append T G)) in
    let one : bs₁ ≡ B ++ (J ++ (T ++ K)) = e ∙ ap (λ (r : List ℕ). moved r o (o + n) (u - o)) (quarter bs o u (u + n) h (omega arith)) ∙ up B T G K o n (u - o) l_b l_g l_t in
    f ∙ ap (λ (r : List ℕ). paste r o x (length x)) one ∙ over B J x (T ++ K) o l_b l_j

put : (p q z : List ℕ) (k w : ℕ) → length p ≡ k → 0 < length q → set (p ++ (take 1 q ++ z)) k w ≡ p ++ (w ∷ z)
put p [] z k w h l = absurd (omega arith)
put p (x ∷ q) z k w h l = set_at p x z w k h

-- the words
words_in : (ws ws₁ ws' : List ℕ) (n k w : ℕ) → k ≤ n → n < length ws → ws₁ ≡ moved ws k (k + 1) (n - k) → ws' ≡ set ws₁ k w
    → take (n + 1) ws' ≡ take k (take n ws) ++ (w ∷ drop k (take n ws))
words_in ws ws₁ ws' n k w h l e f =
    let A : List ℕ = take k ws in
    let Z : List ℕ = drop k (take n ws) in
    let G : List ℕ = drop n (take (n + 1) ws) in
    let R : List ℕ = drop (n + 1) ws in
    let l_a : length A ≡ k = length-take-le k ws (omega arith) in
    let l_z : length Z ≡ n - k = length-slice k n ws (omega arith) in
    let l_g : length G ≡ 1 = length-slice n (n + 1) ws (omega arith) ∙ omega arith in
    let one : ws₁ ≡ A ++ (take 1 (Z ++ G) ++ (Z ++ R)) = e ∙ ap (λ (r : List ℕ). moved r k (k + 1) (n - k)) (quarter ws k n (n + 1) h (omega arith)) ∙ up A Z G R k 1 (n - k) l_a l_g l_z in
    let two : ws' ≡ (A ++ (w ∷ Z)) ++ R = f ∙ ap (λ (r : List ℕ). set r k w) one ∙ put A (Z ++ G) (Z ++ R) k w l_a (omega (arith, length-append Z G)) ∙ sym (append_assoc A (w ∷ Z) R) in
    ap (take (n + 1)) two ∙ take_at (A ++ (w ∷ Z)) R (n + 1) (length-append A (w ∷ Z) ∙ omega arith)
    ∙ ap (λ (r : List ℕ). r ++ (w ∷ Z)) (sym (take-take k n ws h))

-- the entry itself, with its name first in the bytes
row_in : (z x y : List ℕ) (w : ℕ) → nlen_of w ≡ length x → rows (w ∷ z) (x ++ y) ≡ row_of w x ∷ rows z y
unfolding rows
row_in z x y w e =
    let one : take (nlen_of w) (x ++ y) ≡ x = take_at x y (nlen_of w) (sym e) in
    let two : drop (nlen_of w) (x ++ y) ≡ y = drop_at x y (nlen_of w) (sym e) in
    λ i. row_of w (one i) ∷ rows z (two i)

sum_in : (ws : List ℕ) (k w : ℕ) → name_total (take k ws ++ (w ∷ drop k ws)) ≡ name_total ws + nlen_of w
unfolding name_total
sum_in ws k w = total-append (take k ws) (w ∷ drop k ws) ∙ omega (arith, total-split ws k)

pub opened_all : (ws bs ws₁ bs₁ ws' bs' x : List ℕ) (n k w o u : ℕ) → k ≤ n → n < length ws → nlen_of w ≡ length x → name_total (take n ws) + length x ≤ length bs
    → o ≡ name_total (take k ws) → u ≡ name_total (take n ws)
    → bs₁ ≡ moved bs o (o + length x) (u - o) → bs' ≡ paste bs₁ o x (length x) → length bs' ≡ length bs
    → ws₁ ≡ moved ws k (k + 1) (n - k) → ws' ≡ set ws₁ k w → length ws' ≡ length ws → Opened ws bs ws' bs' n k w x
opened_all ws bs ws₁ bs₁ ws' bs' x n k w o u h l ew hn eo eu e f lb g i lw =
    let L : List ℕ = take n ws in
    let Z : List ℕ = drop k (take n ws) in
    let B : List ℕ = take o bs in
    let T : List ℕ = drop o (take u bs) in
    let K : List ℕ = drop (u + length x) bs in
    let R : List Row = rows (take n ws) bs in
    let n₁ = total_up ws k n h in
    let to : o ≡ name_total (take k (take n ws)) = eo ∙ ap name_total (sym (take-take k n ws h)) in
    let wd : take (n + 1) ws' ≡ take k (take n ws) ++ (w ∷ Z) = words_in ws ws₁ ws' n k w h l g i in
    let by : bs' ≡ B ++ (x ++ (T ++ K)) = bytes-in bs bs₁ bs' x o u (omega arith) (omega arith) e f in
    let low : drop (u + length x) bs' ≡ K =
    ap (drop (u + length x)) (by ∙ sym (append_assoc B x (T ++ K)) ∙ sym (append_assoc (B ++ x) T K))
    ∙ drop_at ((B ++ x) ++ T) K (u + length x) (length-append (B ++ x) T ∙ omega (arith, length-append B x, length-take-le o bs (omega arith), length-slice o u bs (omega arith))) in
    record {
      words = wd;
      all = (λ t. rows (wd t) (by t))
          ∙ rows-around L bs (w ∷ Z) (x ++ (T ++ K)) k o to (omega arith)
          ∙ ap (λ (r : List Row). take k R ++ r) (row_in Z x (T ++ K) w ew ∙ ap (λ (r : List Row). row_of w x ∷ r) (rows-tail L bs K k o u to eu (omega arith)));
      sum = ap name_total wd ∙ sum_in (take n ws) k w ∙ omega arith;
      texts = λ hs r. contents-kept hs bs bs' (u + length x) (omega arith) lb low;
      record_count = lw;
      byte_count = lb;
    }
