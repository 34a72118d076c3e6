-- What the class of an octet tells: the row that it begins, and the ranges of second octets that it lies in. One test over the
-- 256 octets computes all of it, since bytes of one class lie in the same ranges of the RFC.
-- Assumes nothing.
use mathlib.Core.Bool.{Bool, true, false, ◌&&◌, cond, not}
use mathlib.Core.List.{List, [], ◌∷◌}
use mathlib.Core.Path.{◌≡◌, refl, sym, ap, ap₂, ◌∙◌}
use Prim.Native.Nat.{ℕ, zero, suc, ◌+◌, ◌≤◌, ◌<◌}
use native.Mathlib.Nat.{add-zero, zero-add, add-suc, suc-add, le_of_suc-le-suc, not-suc-le-zero}
use native.Mathlib.Omega.{arith}
use native.Mathlib.Numerals.{add-one}
use lib.Dec.{T, leb, ltb, eqb, eqb→eq}
use lib.ListN.{length, get_or, drop, replicate, drop_of_length-le}
use Rattle.std.proofs.Common.{Option, None, Some}
use lib.Seq.{drop-cons, drop-drop}
use Rattle.text.proofs.Table.{both, both_left, both_right, every, at}
use Rattle.text.proofs.Reading.{Next, stop, go, row_after, size, size-rows, ascends}
use Rattle.text.specs.Utf8.{Bytes, Range, to, tail, inside, rows, starts, char_length}
use Rattle.text.specs.Classes.{leads, classes, place, class_of, tabulate, table}
use Rattle.text.specs.Steps.{second_of}

-- an entry of a list that is made by f
tabulate_at : (f : ℕ → ℕ) (n k i : ℕ) → i < n → get_or (tabulate f n k) i 0 ≡ f (k + i)
unfolding tabulate
tabulate_at f zero k i h = absurd (not-suc-le-zero h)
tabulate_at f (suc n) k zero h = ap f (sym (add-zero k))
tabulate_at f (suc n) k (suc i) h = tabulate_at f n (suc k) i (le_of_suc-le-suc h) ∙ ap f (suc-add k i ∙ sym (add-suc k i))

-- the table has the class of each octet
pub table_at : (b : ℕ) → b < 256 → get_or table b 0 ≡ class_of b
unfolding table
table_at b h = tabulate_at class_of 256 0 b h ∙ ap class_of (zero-add b)

-- equality of two answers, as a test
same : Bool → Bool → Bool
same true y = y
same false y = not y

-- what it shows
same→ : (x y : Bool) → T (same x y) → x ≡ y
unfolding same
same→ true true t = refl
same→ true false t = absurd t
same→ false true t = absurd t
same→ false false t = refl

-- equality of the ranges asked for, as a test
eq_r : List Range → List Range → Bool
eq_r [] [] = true
eq_r [] (y ∷ ys) = false
eq_r (x ∷ xs) [] = false
eq_r (x ∷ xs) (y ∷ ys) = both (both (eqb x.low y.low) (eqb x.high y.high)) (eq_r xs ys)

-- what it shows
eq_r→ : (xs ys : List Range) → T (eq_r xs ys) → xs ≡ ys
unfolding eq_r
eq_r→ [] [] t = refl
eq_r→ [] (y ∷ ys) t = absurd t
eq_r→ (x ∷ xs) [] t = absurd t
eq_r→ (x ∷ xs) (y ∷ ys) t =
    let l : Bool = eqb x.low y.low in
    let h : Bool = eqb x.high y.high in
    let u : T (both l h) = both_left (both l h) (eq_r xs ys) t in
    ap₂ (λ (a : Range) (zs : List Range). a ∷ zs)
    (ap₂ to (eqb→eq x.low y.low (both_left l h u)) (eqb→eq x.high y.high (both_right l h u)))
    (eq_r→ xs ys (both_right (both l h) (eq_r xs ys) t))

-- equality of what is asked for, as a test
eq_n : Next → Next → Bool
eq_n stop stop = true
eq_n stop (go q) = false
eq_n (go p) stop = false
eq_n (go p) (go q) = eq_r p q

-- what it shows
eq_n→ : (m n : Next) → T (eq_n m n) → m ≡ n
unfolding eq_n
eq_n→ stop stop t = refl
eq_n→ stop (go q) t = absurd t
eq_n→ (go p) stop t = absurd t
eq_n→ (go p) (go q) t = ap go (eq_r→ p q t)

-- what the code asks for after a first octet of the class c
asked : ℕ → Next
asked c =
    cond (eqb c 0) (go [])
    (cond (ltb 8 c) stop (go (second_of c ∷ cond (eqb c 1) [] (tail ∷ cond (ltb c 6) [] (tail ∷ [])))))

-- an octet of the class c is second behind the class `lead` where its class lies between those of the range's ends
second : ℕ → ℕ → ℕ → ℕ → Bool
second b c lead _ =
    same (leb (class_of (second_of lead).low) c && leb c (class_of (second_of lead).high)) (inside (second_of lead) b)

-- the classes that begin a character: a list of nine
nine : List ℕ
nine = replicate 9 0

-- an octet of the class c begins what the code asks for, and is second where `second` says
right : ℕ → ℕ → Bool
right b c = both (eq_n (row_after rows b) (asked c)) (every (second b c) 0 nine)

-- the rule of the table, at the class of each octet
rule : (b : ℕ) → b < 256 → T (right b (class_of b))
unfolding table tabulate class_of classes leads place second_of right asked second nine same eq_n eq_r
rule b h = rw (table_at b h) at (at right table tt b h)

-- the row that an octet begins
row-asked : (b : ℕ) → b < 256 → row_after rows b ≡ asked (class_of b)
unfolding right
row-asked b h =
    let c : ℕ = class_of b in
    eq_n→ (row_after rows b) (asked c)
    (both_left (eq_n (row_after rows b) (asked c)) (every (second b c) 0 nine) (rule b h))

-- second octets
pub second-class : (b lead : ℕ) → b < 256 → lead < 9
    → (leb (class_of (second_of lead).low) (class_of b) && leb (class_of b) (class_of (second_of lead).high)) ≡ inside (second_of lead) b
unfolding right second nine
second-class b lead h l =
    let c : ℕ = class_of b in
    same→ (leb (class_of (second_of lead).low) c && leb c (class_of (second_of lead).high)) (inside (second_of lead) b)
    (at (second b c) nine (both_right (eq_n (row_after rows b) (asked c)) (every (second b c) 0 nine) (rule b h)) lead l)

-- the classes of the lowest and the highest second octet, as the code has them
abbrev pub ends_coded : ℕ → ℕ × ℕ
ends_coded lead = cond (eqb lead 2) (11, 11) (cond (eqb lead 4) (9, 10) (cond (eqb lead 6) (10, 11) (cond (eqb lead 8) (9, 9) (9, 11))))

-- both are the classes of the range's ends
right_ends : ℕ → ℕ → Bool
right_ends lead _ = both (eqb (ends_coded lead).0 (class_of (second_of lead).low)) (eqb (ends_coded lead).1 (class_of (second_of lead).high))

-- at each class that begins a character
ends_right : (lead : ℕ) → lead < 9 → T (right_ends lead (get_or nine lead 0))
unfolding class_of classes leads place second_of nine right_ends
ends_right lead l = at right_ends nine tt lead l

-- they are the range's
pub ends : (lead : ℕ) → lead < 9 → (class_of (second_of lead).low, class_of (second_of lead).high) ≡ ends_coded lead
unfolding right_ends
ends lead l =
    let x : Bool = eqb (ends_coded lead).0 (class_of (second_of lead).low) in
    let y : Bool = eqb (ends_coded lead).1 (class_of (second_of lead).high) in
    sym (ap₂ (λ (a b : ℕ). (a, b)) (eqb→eq (ends_coded lead).0 (class_of (second_of lead).low) (both_left x y (ends_right lead l)))
    (eqb→eq (ends_coded lead).1 (class_of (second_of lead).high) (both_right x y (ends_right lead l))))

-- the octet at a place, as what the text begins with there
pub starts-at : (r : Range) (rs : List Range) (s : Bytes) (i : ℕ) → i < length s
    → starts (r ∷ rs) (drop i s) ≡ (inside r (get_or s i 0) && starts rs (drop (i + 1) s))
unfolding starts
starts-at r rs s i l = rw (add-one, drop-cons s i 0)

-- and nothing more
and-true : (x : Bool) → (x && true) ≡ x
and-true true = refl
and-true false = refl

-- a second octet, by its class
pub second_starts : (s : Bytes) (i lead : ℕ) → i < length s → get_or s i 0 < 256 → lead < 9
    → starts (second_of lead ∷ []) (drop i s)
    ≡ (leb (class_of (second_of lead).low) (class_of (get_or s i 0)) && leb (class_of (get_or s i 0)) (class_of (second_of lead).high))
unfolding starts
second_starts s i lead l h w =
    starts-at (second_of lead) [] s i l ∙ and-true (inside (second_of lead) (get_or s i 0)) ∙ sym (second-class (get_or s i 0) lead h w)

-- none is there
pub second_past : (s : Bytes) (i lead : ℕ) → length s ≤ i → starts (second_of lead ∷ []) (drop i s) ≡ false
unfolding starts
second_past s i lead h = ap (λ (u : Bytes). starts (second_of lead ∷ []) u) (drop_of_length-le s h)

-- the text begins with an octet of the first range and then with those of the others
starts_both : (r : Range) (rs : List Range) (s : Bytes) → starts (r ∷ rs) s ≡ (starts (r ∷ []) s && starts rs (drop 1 s))
unfolding starts
starts_both r rs [] = refl
starts_both r rs (b ∷ s) = ap (λ (x : Bool). x && starts rs s) (sym (and-true (inside r b)))

-- one test of two, as two tests
and_cond : (x y : Bool) (n : Option ℕ) → cond (x && y) n None ≡ cond x (cond y n None) None
and_cond true y n = refl
and_cond false y n = refl

-- the length of a character as the code finds it: by its class and by what x, y and z say of the second, third and fourth octet
abbrev pub pick : ℕ → Bool → Bool → Bool → Option ℕ
pick c x y z =
    cond (eqb c 0) (Some 1) (cond (ltb 8 c) None (cond x (cond (eqb c 1) (Some 2) (cond y (cond (ltb c 6) (Some 3) (cond z (Some 4) None)) None)) None))

-- the length of what is asked for, range by range
asked-size : (q p u v : Bool) (r : Range) (s : Bytes)
    → size (cond q (go []) (cond p stop (go (r ∷ cond u [] (tail ∷ cond v [] (tail ∷ [])))))) s
    ≡ cond q (Some 1) (cond p None (cond (starts (r ∷ []) s) (cond u (Some 2) (cond (starts (tail ∷ []) (drop 1 s)) (cond v (Some 3)
    (cond (starts (tail ∷ []) (drop 1 (drop 1 s))) (Some 4) None)) None)) None))
unfolding starts
asked-size true p u v r s = refl
asked-size false true u v r s = refl
asked-size false false true v r s = refl
asked-size false false false true r s =
    rw (starts_both r (tail ∷ []) s) (and_cond (starts (r ∷ []) s) (starts (tail ∷ []) (drop 1 s)) (Some 3))
asked-size false false false false r s =
    let x : Bool = starts (r ∷ []) s in
    let y : Bool = starts (tail ∷ []) (drop 1 s) in
    let z : Bool = starts (tail ∷ []) (drop 1 (drop 1 s)) in
    rw (starts_both r (tail ∷ tail ∷ []) s, starts_both tail (tail ∷ []) (drop 1 s))
    (and_cond x (y && z) (Some 4) ∙ ap (λ (n : Option ℕ). cond x n None) (and_cond y z (Some 4)))

-- the length of the character at i
pub char_pick : (s : Bytes) (i : ℕ) → i < length s → get_or s i 0 < 256
    → char_length rows (drop i s)
    ≡ pick (class_of (get_or s i 0)) (starts (second_of (class_of (get_or s i 0)) ∷ []) (drop (i + 1) s))
    (starts (tail ∷ []) (drop (i + 2) s)) (starts (tail ∷ []) (drop (i + 3) s))
unfolding asked
char_pick s i l h =
    let c : ℕ = class_of (get_or s i 0) in
    let t : Bytes = drop (i + 1) s in
    let e₁ : drop i s ≡ get_or s i 0 ∷ t = rw (add-one, drop-cons s i 0) in
    let n₂ : i + 1 + 1 ≡ i + 2 = omega arith in
    let n₃ : i + 2 + 1 ≡ i + 3 = omega arith in
    let e₂ : drop 1 t ≡ drop (i + 2) s = drop-drop 1 (i + 1) s ∙ ap (λ (n : ℕ). drop n s) n₂ in
    let e₃ : drop 1 (drop (i + 2) s) ≡ drop (i + 3) s = drop-drop 1 (i + 2) s ∙ ap (λ (n : ℕ). drop n s) n₃ in
    ap (λ (u : Bytes). char_length rows u) e₁
    ∙ size-rows rows (get_or s i 0) t ascends
    ∙ ap (λ (n : Next). size n t) (row-asked (get_or s i 0) h)
    ∙ asked-size (eqb c 0) (ltb 8 c) (eqb c 1) (ltb c 6) (second_of c) t
    ∙ ap (λ (u : Bytes). pick c (starts (second_of c ∷ []) t) (starts (tail ∷ []) u) (starts (tail ∷ []) (drop 1 u))) e₂
    ∙ ap (λ (u : Bytes). pick c (starts (second_of c ∷ []) t) (starts (tail ∷ []) (drop (i + 2) s)) (starts (tail ∷ []) u)) e₃
