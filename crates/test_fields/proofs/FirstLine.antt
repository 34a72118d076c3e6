-- The first line of a text, and those behind it.
-- Assumes nothing.
use mathlib.Core.Bool.{Bool, true, false, cond}
use mathlib.Core.List.{List, [], ◌∷◌}
use mathlib.Core.Path.{◌≡◌, refl, sym, ap, ◌∙◌, subst}
use Prim.Native.Nat.{ℕ, suc, ◌+◌, ◌-◌, ◌<◌}
use native.Mathlib.Omega.{arith}
use lib.ListN.{length, get_or, take, drop}
use Rattle.std.specs.Prelude.{◌==◌}
use Rattle.std.specs.List.{slice_split, onto_first}
use Rattle.std.proofs.lemmas.Bool.{ne_eqb}
use Rattle.std.proofs.lemmas.List.Splits.{slice_split-cons_yes, slice_split-cons_no, length-slice_split}
use Rattle.test_fields.specs.Lines.{but_last_newline, lines_of}

-- what stands between the newlines
abbrev pieces : List ℕ → List (List ℕ)
pieces = slice_split (λ byte. byte == 10)

abbrev first : List ℕ → List ℕ
first text = get_or (pieces text) 0 []

-- the first piece is the first line, and behind it and its newline are the others
abbrev First : List ℕ → List ℕ → Type 0
First text line = lines_of text ≡ line ∷ lines_of (drop (length line + 1) text)

under : (b : Bool) (x : ℕ) (xs ys : List ℕ) → cond b (x ∷ xs) (x ∷ ys) ≡ x ∷ cond b xs ys
under true x xs ys = refl
under false x xs ys = refl

but_last_on : (x y : ℕ) (ys : List ℕ) → but_last_newline (x ∷ y ∷ ys) ≡ x ∷ but_last_newline (y ∷ ys)
but_last_on x y ys =
    let e : length (x ∷ y ∷ ys) - 1 ≡ suc (length (y ∷ ys) - 1) = omega arith in
    ap (λ n. cond (get_or (x ∷ y ∷ ys) n 0 == 10) (take n (x ∷ y ∷ ys)) (x ∷ y ∷ ys)) e
    ∙ under (get_or (y ∷ ys) (length (y ∷ ys) - 1) 0 == 10) x (take (length (y ∷ ys) - 1) (y ∷ ys)) (y ∷ ys)

but_last_one : (x : ℕ) (b : Bool) → (x == 10) ≡ b → but_last_newline (x ∷ []) ≡ cond b [] (x ∷ [])
but_last_one x b e =
    let z : length (x ∷ []) - 1 ≡ 0 = omega arith in
    ap (λ n. cond (get_or (x ∷ []) n 0 == 10) (take n (x ∷ [])) (x ∷ [])) z ∙ ap (λ t. cond t [] (x ∷ [])) e

lines_on : (x : ℕ) (xs : List ℕ) → lines_of (x ∷ xs) ≡ pieces (but_last_newline (x ∷ xs))
lines_on x xs = ap (λ b. cond b [] (pieces (but_last_newline (x ∷ xs)))) (ne_eqb (length (x ∷ xs)) 0 (λ z. omega arith))

onto : (x : ℕ) (parts : List (List ℕ)) → 0 < length parts → get_or (onto_first x parts) 0 [] ≡ x ∷ get_or parts 0 []
onto x [] l = absurd (omega arith)
onto x (part ∷ parts) l = refl

empty_first : (x : ℕ) (xs : List ℕ) → (x == 10) ≡ true → lines_of (x ∷ xs) ≡ [] ∷ lines_of xs
empty_first x [] e = lines_on x [] ∙ ap pieces (but_last_one x true e)
empty_first x (y ∷ ys) e =
    lines_on x (y ∷ ys) ∙ ap pieces (but_last_on x y ys) ∙ slice_split-cons_yes (λ byte. byte == 10) x (but_last_newline (y ∷ ys)) e
    ∙ ap (λ ls. [] ∷ ls) (sym (lines_on y ys))

longer_first : (x : ℕ) (xs : List ℕ) → (x == 10) ≡ false → (0 < length xs → First xs (first xs)) → First (x ∷ xs) (x ∷ first xs)
longer_first x [] e h = lines_on x [] ∙ ap pieces (but_last_one x false e) ∙ slice_split-cons_no (λ byte. byte == 10) x [] e
longer_first x (y ∷ ys) e h =
    let l = first (y ∷ ys) in
    let n : length (x ∷ l) + 1 ≡ suc (length l + 1) = omega arith in
    lines_on x (y ∷ ys) ∙ ap pieces (but_last_on x y ys) ∙ slice_split-cons_no (λ byte. byte == 10) x (but_last_newline (y ∷ ys)) e
    ∙ ap (onto_first x) (sym (lines_on y ys) ∙ h (omega arith))
    ∙ ap (λ m. (x ∷ l) ∷ lines_of (drop m (x ∷ y ∷ ys))) (sym n)

first_on : (x : ℕ) (xs : List ℕ) (b : Bool) → (x == 10) ≡ b → (0 < length xs → First xs (first xs)) → First (x ∷ xs) (first (x ∷ xs))
first_on x xs true e h = subst (First (x ∷ xs)) (sym (ap (λ ps. get_or ps 0 []) (slice_split-cons_yes (λ byte. byte == 10) x xs e))) (empty_first x xs e)
first_on x xs false e h =
    let is : first (x ∷ xs) ≡ x ∷ first xs =
    ap (λ ps. get_or ps 0 []) (slice_split-cons_no (λ byte. byte == 10) x xs e)
    ∙ onto x (pieces xs) (omega (arith, length-slice_split (λ byte. byte == 10) xs)) in
    subst (First (x ∷ xs)) (sym is) (longer_first x xs e h)

first_line : (text : List ℕ) → 0 < length text → First text (first text)
first_line [] l = absurd (omega arith)
first_line (x ∷ xs) l = first_on x xs (x == 10) refl (first_line xs)

pub next_line : (text line left : List ℕ) → 0 < length text → line ≡ get_or (slice_split (λ byte. byte == 10) text) 0 [] → left ≡ drop (length line + 1) text
    → lines_of text ≡ line ∷ lines_of left
next_line text line left l e d = subst (First text) (sym e) (first_line text l) ∙ ap (λ t. line ∷ lines_of t) (sym d)
