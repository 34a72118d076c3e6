-- The entries of a list of words, part by part: each word is an entry, and the names of those behind the first k begin behind the
-- names of these.
-- Assumes nothing.
use mathlib.Core.List.{List, [], ◌∷◌, ◌++◌}
use mathlib.Core.Path.{◌≡◌, refl, sym, ap, ◌∙◌}
use Prim.Native.Nat.{ℕ, zero, suc, ◌+◌, ◌*◌, ◌≤◌}
use native.Mathlib.Nat.{add_assoc, zero-add}
use native.Mathlib.Omega.{arith}
use lib.ListN.{length, take, drop, length-drop, take-append-drop}
use lib.Seq.{length-take-le, drop-drop}
use Rattle.std.specs.List.{sum_by}
use Rattle.std.proofs.lemmas.List.Sums.{sum_by-cons, sum_by-le}
use Rattle.text.specs.Utf8.{Bytes}
use Rattle.layout.specs.Fields.{depth_of, nlen_of, slot_of}
use Rattle.layout.specs.Rows.{Row, name_total, rows}

-- ---- the bytes of the names

pub total-append : (a b : List ℕ) → name_total (a ++ b) ≡ name_total a + name_total b
unfolding name_total
total-append [] b = sym (zero-add (name_total b))
total-append (w ∷ a) b = ap (λ (n : ℕ). nlen_of w + n) (total-append a b) ∙ sym (add_assoc (nlen_of w) (name_total a) (name_total b))

pub total-split : (ws : List ℕ) (k : ℕ) → name_total (take k ws) + name_total (drop k ws) ≡ name_total ws
total-split ws k = sym (total-append (take k ws) (drop k ws)) ∙ ap name_total (take-append-drop k ws)

-- as the library's sum, and a bound on it
pub sum-names : (ws : List ℕ) → sum_by nlen_of ws ≡ name_total ws
unfolding name_total
sum-names [] = refl
sum-names (w ∷ ws) = sum_by-cons nlen_of w ws ∙ ap (λ (n : ℕ). nlen_of w + n) (sum-names ws)

pub few_names : (ws : List ℕ) → name_total ws ≤ length ws * 255
few_names ws = let h = sum_by-le nlen_of 255 ws (λ k d h. omega arith) in omega (arith, sum-names ws)

-- ---- the entries

pub length-rows : (ws bs : List ℕ) → length (rows ws bs) ≡ length ws
unfolding rows
length-rows [] bs = refl
length-rows (w ∷ ws) bs = ap suc (length-rows ws (drop (nlen_of w) bs))

pub rows_take : (ws bs : List ℕ) (k : ℕ) → rows (take k ws) bs ≡ take k (rows ws bs)
unfolding rows
rows_take ws bs zero = refl
rows_take [] bs (suc k) = refl
rows_take (w ∷ ws) bs (suc k) = ap (λ (l : List Row). record { depth = depth_of w; name = take (nlen_of w) bs; slot = slot_of w } ∷ l) (rows_take ws (drop (nlen_of w) bs) k)

pub rows_drop : (ws bs : List ℕ) (k : ℕ) → rows (drop k ws) (drop (name_total (take k ws)) bs) ≡ drop k (rows ws bs)
unfolding rows name_total
rows_drop ws bs zero = refl
rows_drop [] bs (suc k) = refl
rows_drop (w ∷ ws) bs (suc k) =
    ap (rows (drop k ws)) (sym (drop-drop (name_total (take k ws)) (nlen_of w) bs)) ∙ rows_drop ws (drop (nlen_of w) bs) k

-- ---- names that stand within the bytes have their lengths

-- the bytes of the names of entries
unfoldable pub name_sum : List Row → ℕ
name_sum [] = 0
name_sum (r ∷ rs) = length r.name + name_sum rs

pub name-sum : (ws : List ℕ) (bs : Bytes) → name_total ws ≤ length bs → name_sum (rows ws bs) ≡ name_total ws
unfolding name_total rows name_sum
name-sum [] bs h = refl
name-sum (w ∷ ws) bs h =
    omega (
      arith,
      length-take-le (nlen_of w) bs (omega arith),
      name-sum ws (drop (nlen_of w) bs) (omega (arith, length-drop (nlen_of w) bs)),
    )

-- the offset of the name of record m + a, by that of record m
pub name-offset : (m a : ℕ) (ws : List ℕ) (bs : Bytes) → name_total ws ≤ length bs
    → name_total (take m ws) + name_sum (take a (drop m (rows ws bs))) ≡ name_total (take (m + a) ws)
name-offset m a ws bs h =
    let t : List ℕ = drop m ws in
    let c : Bytes = drop (name_total (take m ws)) bs in
    let u = total-split ws m in
    let v = total-split t a in
    let w = total-split ws (m + a) in
    let x : drop a t ≡ drop (m + a) ws = drop-drop a m ws in
    let e : take a (drop m (rows ws bs)) ≡ rows (take a t) c = ap (take a) (sym (rows_drop ws bs m)) ∙ sym (rows_take t c a) in
    let y : name_sum (rows (take a t) c) ≡ name_total (take a t) = name-sum (take a t) c (omega (arith, h, u, v, length-drop (name_total (take m ws)) bs)) in
    omega (arith, u, v, w, ap name_total x, ap name_sum e, y)
