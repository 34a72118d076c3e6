-- An entry put one deeper with all below it, and another in its place: its word gets another slot, the words below it another depth, and
-- its own word and new name stand behind the first.
-- Assumes nothing.
use mathlib.Core.List.{List, [], ◌∷◌, ◌++◌, append_assoc, map}
use mathlib.Core.Path.{◌≡◌, refl, sym, ap, ◌∙◌}
use Prim.Native.Nat.{ℕ, zero, suc, ◌+◌, ◌-◌, ◌≤◌, ◌<◌}
use native.Mathlib.Omega.{arith}
use lib.ListN.{length, take, drop, get_or, set, length-append, length-set}
use lib.Seq.{length-take-le, take-length, take_at, drop_at, get_or-take, get_or-set_other, take-set-lt}
use Rattle.layout.specs.Fields.{depth_of, nlen_of, slot_of}
use Rattle.layout.specs.Rows.{Row, rows, name_total}
use Rattle.layout.specs.Parts.{deepen}
use Rattle.records.specs.Blocks.{changed, lift, raise, raised, row_of, Liftables, Opened, Lowered}
use Rattle.records.proofs.Swings.{length-changed, rows-lifted, first, size₁, total₁}

-- all but the first
abbrev tail : List Row → List Row
tail l = drop 1 l

-- another slot in the word of one entry
pub record Placed (ws bs : List ℕ) (A : List Row) (r : Row) (C : List Row) (w : ℕ) : Type 0 where
  pub depth : r.depth ≡ depth_of (get_or ws (length A) 0)
  pub slot : r.slot ≡ slot_of (get_or ws (length A) 0)
  pub rows : rows (set ws (length A) w) bs ≡ A ++ (record { depth = r.depth; name = r.name; slot = slot_of w } ∷ C)

-- the fields of the first row
abbrev head-depth : Row → List Row → ℕ
head-depth r [] = r.depth
head-depth r (q ∷ l) = q.depth

abbrev head-slot : Row → List Row → ℕ
head-slot r [] = r.slot
head-slot r (q ∷ l) = q.slot

abbrev head-name : Row → List Row → List ℕ
head-name r [] = r.name
head-name r (q ∷ l) = q.name

put-slot : (ws bs : List ℕ) (A : List Row) (r : Row) (C : List Row) (w : ℕ) → rows ws bs ≡ A ++ (r ∷ C)
    → depth_of w ≡ depth_of (get_or ws (length A) 0) → nlen_of w ≡ nlen_of (get_or ws (length A) 0) → Placed ws bs A r C w
unfolding rows
put-slot [] bs [] r C w e d n = absurd (let z : ◌≡◌ {A = ℕ} 0 (suc (length C)) = ap length e in omega arith)
put-slot [] bs (q ∷ A) r C w e d n = absurd (let z : ◌≡◌ {A = ℕ} 0 (suc (length (A ++ (r ∷ C)))) = ap length e in omega arith)
put-slot (v ∷ ws) bs [] r C w e d n =
    let x : depth_of v ≡ r.depth = ap (head-depth r) e in
    let y : slot_of v ≡ r.slot = ap (head-slot r) e in
    let z : take (nlen_of v) bs ≡ r.name = ap (head-name r) e in
    let rest : rows ws (drop (nlen_of v) bs) ≡ C = ap tail e in
    record {
      depth = sym x;
      slot = sym y;
      rows = λ i. record { depth = (d ∙ x) i; name = (ap (λ (k : ℕ). take k bs) n ∙ z) i; slot = slot_of w } ∷ (ap (λ (k : ℕ). rows ws (drop k bs)) n ∙ rest) i;
    }
put-slot (v ∷ ws) bs (q ∷ A) r C w e d n =
    let u = put-slot ws (drop (nlen_of v) bs) A r C w (ap tail e) d n in
    let x : depth_of v ≡ q.depth = ap (head-depth q) e in
    let y : slot_of v ≡ q.slot = ap (head-slot q) e in
    let z : take (nlen_of v) bs ≡ q.name = ap (head-name q) e in
    record {
      depth = u.depth;
      slot = u.slot;
      rows = λ i. record { depth = x i; name = z i; slot = y i } ∷ u.rows i;
    }

total-put : (ws : List ℕ) (i w : ℕ) → nlen_of w ≡ nlen_of (get_or ws i 0) → name_total (set ws i w) ≡ name_total ws
unfolding name_total
total-put [] i w n = refl
total-put (v ∷ ws) zero w n = ap (λ (k : ℕ). k + name_total ws) n
total-put (v ∷ ws) (suc i) w n = ap (λ (k : ℕ). nlen_of v + k) (total-put ws i w n)

-- by one more
each_deepen : (d : ℕ) (X : List Row) → map (raise 1 0) X ≡ deepen d (suc d) X
unfolding deepen
each_deepen d [] = refl
each_deepen d (r ∷ X) =
    let e : r.depth + 1 - 0 ≡ r.depth + suc d - d = omega arith in
    λ i. record { depth = e i; name = r.name; slot = r.slot } ∷ each_deepen d X i

-- a part changed
changed-part : (f : Row → Row) (P X Z : List Row) (a b : ℕ) → length P ≡ a → a + length X ≡ b → changed f (P ++ (X ++ Z)) a b ≡ P ++ (map f X ++ Z)
changed-part f P X Z a b e g =
    let j : length (P ++ X) ≡ b = length-append P X ∙ omega (arith, e, g) in
    let k : P ++ (X ++ Z) ≡ (P ++ X) ++ Z = sym (append_assoc P X Z) in
    let u : take b (P ++ (X ++ Z)) ≡ P ++ X = ap (take b) k ∙ take_at (P ++ X) Z b j in
    let v : drop b (P ++ (X ++ Z)) ≡ Z = ap (drop b) k ∙ drop_at (P ++ X) Z b j in
    λ i. take_at P (X ++ Z) a e i ++ (map f ((ap (drop a) u ∙ drop_at P X a e) i) ++ v i)

module _ (ws bs : List ℕ) (count i e s : ℕ) (x : List ℕ) (h₁ : i < e) (h₂ : e ≤ count) (h₃ : count < length ws)
    (w₁ w₂ : ℕ) (d₁ : depth_of w₁ ≡ depth_of (get_or ws i 0)) (n₁ : nlen_of w₁ ≡ nlen_of (get_or ws i 0)) (s₁ : slot_of w₁ ≡ s)
    (d₂ : depth_of w₂ ≡ suc (depth_of (get_or ws i 0))) (s₂ : slot_of w₂ ≡ slot_of (get_or ws i 0)) (hl : Liftables ws i e 1 0) where
  abbrev ws₁ : List ℕ
  ws₁ = set ws i w₁

  pub ready : Liftables ws₁ (i + 1) e 1 0
  ready j a b = let g : get_or ws₁ j 0 ≡ get_or ws j 0 = get_or-set_other ws i j w₁ 0 (λ q. omega arith) in rw g (hl j (omega arith) b)

  here : get_or (take count ws) i 0 ≡ get_or ws i 0
  here = get_or-take count ws i 0 (omega arith)

  cut-set : take count ws₁ ≡ set (take count ws) i w₁
  cut-set = take-set-lt count ws i w₁ (omega arith)

  total_same : name_total (take count ws₁) ≡ name_total (take count ws)
  total_same = ap name_total cut-set ∙ total-put (take count ws) i w₁ (n₁ ∙ ap nlen_of (sym here))

  long_same : length ws₁ ≡ length ws
  long_same = length-set ws i w₁

  module _ (hn : name_total (take count ws) + length x ≤ length bs) (ws₂ : List ℕ) (c : ws₂ ≡ changed (lift 1 0) ws₁ (i + 1) e) where
    abbrev L : List ℕ
    L = changed (lift 1 0) (take count ws₁) (i + 1) e

    fits : name_total (take count ws₁) ≤ length bs
    fits = omega (arith, total_same, hn)

    L-long : length L ≡ count
    L-long = size₁ ws₁ bs ws₂ count (i + 1) e 1 0 (omega (arith, h₁)) h₂ (omega (arith, long_same, h₃)) fits ready c

    front : take count ws₂ ≡ L
    front =
        first ws₁ bs ws₂ count (i + 1) e 1 0 (omega (arith, h₁)) h₂ (omega (arith, long_same, h₃)) fits ready c count (omega arith)
        ∙ (ap (λ (k : ℕ). take k L) (sym L-long) ∙ take-length L)

    pub total_kept : name_total (take count ws₂) ≡ name_total (take count ws)
    total_kept = ap name_total front ∙ (total₁ ws₁ bs ws₂ count (i + 1) e 1 0 (omega (arith, h₁)) h₂ (omega (arith, long_same, h₃)) fits ready c ∙ total_same)

    pub long_kept : length ws₂ ≡ length ws
    long_kept = ap length c ∙ (length-changed (lift 1 0) ws₁ (i + 1) e (omega (arith, h₁)) (omega (arith, long_same, h₂, h₃)) ∙ long_same)

    raised-rows : rows (take count ws₂) bs ≡ raised (rows (take count ws₁) bs) (i + 1) e 1 0
    raised-rows =
        let k : length (take count ws₁) ≡ count = length-take-le count ws₁ (omega (arith, long_same, h₃)) in
        ap (λ (l : List ℕ). rows l bs) front
        ∙ rows-lifted 1 0 (take count ws₁) (i + 1) e (omega (arith, h₁)) (omega (arith, k, h₂)) (λ j a b. let g : get_or (take count ws₁) j 0 ≡ get_or ws₁ j 0 = get_or-take count ws₁ j 0 (omega (arith, b, h₂)) in rw g (ready j a b)) bs fits

    module _ (ws₃ bs₃ : List ℕ) (o : Opened ws₂ bs ws₃ bs₃ count (i + 1) w₂ x) (A : List Row) (r : Row) (X C : List Row)
        (f : rows (take count ws) bs ≡ A ++ (r ∷ (X ++ C))) (g : length A ≡ i) (k : suc (i + length X) ≡ e) where
      word : get_or (take count ws) (length A) 0 ≡ get_or ws i 0
      word = ap (λ (j : ℕ). get_or (take count ws) j 0) g ∙ here

      put : Placed (take count ws) bs A r (X ++ C) w₁
      put = put-slot (take count ws) bs A r (X ++ C) w₁ f (d₁ ∙ ap depth_of (sym word)) (n₁ ∙ ap nlen_of (sym word))

      abbrev r₁ : Row
      r₁ = record { depth = r.depth; name = r.name; slot = slot_of w₁ }

      abbrev Q : List Row
      Q = A ++ (r₁ ∷ [])

      Q-long : length Q ≡ i + 1
      Q-long = length-append A (r₁ ∷ []) ∙ ap (λ (j : ℕ). j + 1) g

      first_rows : rows (take count ws₁) bs ≡ Q ++ (X ++ C)
      first_rows =
          ap (λ (l : List ℕ). rows l bs) (cut-set ∙ ap (λ (j : ℕ). set (take count ws) j w₁) (sym g)) ∙ (put.rows ∙ sym (append_assoc A (r₁ ∷ []) (X ++ C)))

      abbrev below : List Row
      below = map (raise 1 0) X ++ C

      then-rows : rows (take count ws₂) bs ≡ Q ++ below
      then-rows = raised-rows ∙ (ap (λ (l : List Row). raised l (i + 1) e 1 0) first_rows ∙ changed-part (raise 1 0) Q X C (i + 1) e Q-long (omega (arith, k)))

      deep : depth_of w₂ ≡ suc r.depth
      deep = d₂ ∙ ap suc (sym (put.depth ∙ ap depth_of word))

      its : slot_of w₂ ≡ r.slot
      its = s₂ ∙ sym (put.slot ∙ ap slot_of word)

      pub all-lowered : rows (take (count + 1) ws₃) bs₃
          ≡ A ++ (record { depth = r.depth; name = r.name; slot = s } ∷ (record { depth = suc r.depth; name = x; slot = r.slot } ∷ (deepen r.depth (suc r.depth) X ++ C)))
      all-lowered =
          o.all
          ∙ ((λ j. take (i + 1) (then-rows j) ++ (row_of w₂ x ∷ drop (i + 1) (then-rows j)))
          ∙ ((λ j. take_at Q below (i + 1) Q-long j ++ (row_of w₂ x ∷ drop_at Q below (i + 1) Q-long j))
          ∙ (append_assoc A (r₁ ∷ []) (row_of w₂ x ∷ below)
          ∙ (λ j. A ++ (record { depth = r.depth; name = r.name; slot = s₁ j } ∷ (record { depth = deep j; name = x; slot = its j } ∷ (each_deepen r.depth X j ++ C)))))))

    pub lowered : (ws₃ bs₃ : List ℕ) → Opened ws₂ bs ws₃ bs₃ count (i + 1) w₂ x → Lowered ws bs ws₃ bs₃ count i e s x
    lowered ws₃ bs₃ o =
        record {
          all = all-lowered ws₃ bs₃ o;
          sum = o.sum ∙ ap (λ (k : ℕ). k + length x) total_kept;
          texts = λ hs h. o.texts hs (omega (arith, h, total_kept));
          record_count = o.record_count ∙ long_kept;
          byte_count = o.byte_count;
        }
