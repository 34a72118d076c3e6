-- A record taken out and put back under another name: the entries before and behind it are as they were.
-- Assumes nothing.
use mathlib.Core.List.{List, ◌∷◌, ◌++◌}
use mathlib.Core.Path.{◌≡◌, refl, sym, ap, ◌∙◌, subst}
use Prim.Native.Nat.{ℕ, suc, ◌+◌, ◌-◌, ◌≤◌, ◌<◌}
use native.Mathlib.Numerals.{add-one}
use native.Mathlib.Omega.{arith}
use lib.ListN.{length, length-append, length-drop, length-take, take, drop, drop_of_length-le, get_or}
use lib.Seq.{length-take-le, take-length, take-append-le, take-take, take-append_seam, drop-append_seam, drop-cons, get_or-take}
use Rattle.layout.specs.Fields.{depth_of, nlen_of, slot_of, record_word}
use Rattle.layout.specs.Rows.{Row, rows, name_total}
use Rattle.records.specs.Blocks.{row_of, Opened, Closed}
use Rattle.layout.proofs.Named.{length-rows}
use Rattle.layout.proofs.Worded.{record-depth, record-name, record-slot}
use Rattle.edit_entry.specs.Renaming.{Renamed}

-- a word by its fields, however they were found
pub word_by : (n w : ℕ) {r d s : ℕ} → r ≡ record_word d n s → d ≡ depth_of w → s ≡ slot_of w → r ≡ record_word (depth_of w) n (slot_of w)
word_by n w {r} {d} {s} e f g = e ∙ (ap (λ (i : ℕ). record_word i n s) f ∙ ap (record_word (depth_of w) n) g)

-- one record between two indices
one_between : (ws : List ℕ) (i n : ℕ) → i < n → n ≤ length ws → name_total (drop i (take (i + 1) ws)) ≡ nlen_of (get_or ws i 0)
unfolding name_total
one_between ws i n a b =
    ap (λ (k : ℕ). name_total (drop i (take k ws))) (add-one i)
    ∙ (ap name_total (drop-cons (take (suc i) ws) i 0 (omega (arith, length-take (suc i) ws)))
    ∙ (ap (λ (r : List ℕ). nlen_of (get_or (take (suc i) ws) i 0) + name_total r) (drop_of_length-le (take (suc i) ws) {i = suc i} (omega (arith, length-take (suc i) ws)))
    ∙ (ap (λ (w : ℕ). nlen_of w + 0) (get_or-take (suc i) ws i 0 (omega arith)) ∙ omega arith)))

module _ (ws bs : List ℕ) (i : ℕ) (x : List ℕ) (a : i < length ws) (c : length ws ≤ 4096) (short : length x < 256) (room : name_total ws + length x ≤ length bs + nlen_of (get_or ws i 0)) where
  abbrev n : ℕ
  n = length ws

  abbrev w : ℕ
  w = get_or ws i 0

  -- the entries before it, and those behind it
  abbrev A : List Row
  A = take i (rows (take n ws) bs)

  abbrev B : List Row
  B = drop (suc i) (rows (take n ws) bs)

  -- the word that is put back
  abbrev again : ℕ
  again = record_word (depth_of w) (length x) (slot_of w)

  module _ (ws₁ bs₁ : List ℕ) (o : Closed ws bs ws₁ bs₁ n i (i + 1)) where
    left : n - (i + 1 - i) ≡ length ws₁ - 1
    left = omega (arith, o.record_count)

    sum_left : name_total (take (length ws₁ - 1) ws₁) + nlen_of w ≡ name_total (take n ws)
    sum_left = omega (arith, ap (λ (k : ℕ). name_total (take k ws₁)) left, o.sum, one_between ws i n a (omega arith))

    rows_left : rows (take (length ws₁ - 1) ws₁) bs₁ ≡ take i (rows (take n ws) bs) ++ drop (suc i) (rows (take n ws) bs)
    rows_left = ap (λ (k : ℕ). rows (take k ws₁) bs₁) (sym left) ∙ (o.all ∙ ap (λ (k : ℕ). take i (rows (take n ws) bs) ++ drop k (rows (take n ws) bs)) (add-one i))

    pub may-put : (w₂ : ℕ) → w₂ ≡ again → (i ≤ length ws₁ - 1) × (length ws₁ - 1 < length ws₁) × (length ws₁ - 1 ≤ 4096) × (nlen_of w₂ ≡ length x) × (name_total (take (length ws₁ - 1) ws₁) + length x ≤ length bs₁)
    may-put w₂ e = (
      omega (arith, o.record_count),
      omega (arith, o.record_count),
      omega (arith, o.record_count),
      ap nlen_of e ∙ record-name (depth_of w) (length x) (slot_of w) (omega arith) short,
      omega (arith, sum_left, o.byte_count, ap name_total (take-length ws)),
    )

    pub renamed : (w₂ : ℕ) (ws' bs' : List ℕ) → w₂ ≡ again → Opened ws₁ bs₁ ws' bs' (length ws₁ - 1) i w₂ x → Renamed ws bs ws' bs' n i x
    renamed w₂ ws' bs' e p =
        record {
          all =
              ap (λ (k : ℕ). rows (take k ws') bs') whole
              ∙ (p.all
              ∙ (ap (λ (r : List Row). take i r ++ (row_of w₂ x ∷ drop i r)) rows_left
              ∙ (ap (λ (r : List Row). r ++ (row_of w₂ x ∷ drop i (A ++ B))) first ∙ (ap (λ (r : List Row). A ++ (row_of w₂ x ∷ r)) second ∙ ap (λ (r : Row). A ++ (r ∷ B)) row_is))));
          sum = omega (arith, ap (λ (k : ℕ). name_total (take k ws')) whole, p.sum, sum_left);
          texts = λ hs r s. p.texts hs (omega (arith, sum_left, o.byte_count)) ∙ o.texts hs r;
          record_count = p.record_count ∙ o.record_count;
          byte_count = p.byte_count ∙ o.byte_count;
        }
      where
        whole : n ≡ length ws₁ - 1 + 1
        whole = omega (arith, o.record_count)

        A-length : length A ≡ i
        A-length = length-take-le i (rows (take n ws) bs) (omega (arith, length-rows (take n ws) bs, length-take n ws))

        first : take i (A ++ B) ≡ A
        first = ap (λ (k : ℕ). take k (A ++ B)) (sym A-length) ∙ take-append_seam A B

        second : drop i (A ++ B) ≡ B
        second = ap (λ (k : ℕ). drop k (A ++ B)) (sym A-length) ∙ drop-append_seam A B

        row_is : row_of w₂ x ≡ record { depth = depth_of w; name = x; slot = slot_of w }
        row_is =
            let f : depth_of w₂ ≡ depth_of w = ap depth_of e ∙ record-depth (depth_of w) (length x) (slot_of w) (omega arith) short in
            let g : slot_of w₂ ≡ slot_of w = ap slot_of e ∙ record-slot (depth_of w) (length x) (slot_of w) (omega arith) short in
            rw (f, g) refl

-- one of the first n renamed, in the whole
pub renamed_in : (ws : List ℕ) (n : ℕ) {bs f bs' : List ℕ} {i : ℕ} {x : List ℕ} → n ≤ length ws → i < n → Renamed (take n ws) bs f bs' (length (take n ws)) i x
    → Renamed ws bs (f ++ drop n ws) bs' n i x
renamed_in ws n {bs} {f} {bs'} {i} {x} h k o =
    let L : List ℕ = take n ws in
    let Z : List ℕ = drop n ws in
    let l : length L ≡ n = length-take-le n ws h in
    let c : Renamed L bs f bs' n i x = subst (λ (j : ℕ). Renamed L bs f bs' j i x) l o in
    let t : take n L ≡ L = take-take n n ws (omega arith) in
    let w : get_or L i 0 ≡ get_or ws i 0 = get_or-take n ws i 0 k in
    let front : take n (f ++ Z) ≡ take n f = take-append-le n f Z (omega (arith, c.record_count, l)) in
    record {
      all = (λ j. rows (front j) bs') ∙ c.all
          ∙ (λ j. take i (rows (t j) bs) ++ (record { depth = depth_of (w j); name = x; slot = slot_of (w j) } ∷ drop (suc i) (rows (t j) bs)));
      sum = omega (arith, ap name_total front, c.sum, ap name_total t, ap nlen_of w);
      texts = λ hs r s. c.texts hs (omega (arith, ap name_total t, r)) (omega (arith, ap name_total t, ap nlen_of w, s));
      record_count = length-append f Z ∙ omega (arith, c.record_count, l, length-drop n ws, h);
      byte_count = c.byte_count;
    }
