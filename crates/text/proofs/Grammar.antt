-- The test `text` says what the grammar `Octets` says. A character that the test passes is one of the rows; and a row's
-- octets are a text, since no octet begins two rows (Reading.antt), and texts joined are a text (Laws.antt).
-- Assumes nothing.
use mathlib.Core.Bool.{Bool, true, false, ◌&&◌, ◌||◌, cond}
use mathlib.Core.List.{List, [], ◌∷◌}
use mathlib.Core.Path.{◌≡◌, refl, subst}
use Prim.Native.Nat.{ℕ, zero, suc}
use native.Mathlib.Omega.{arith}
use lib.Dec.{T}
use Rattle.std.proofs.Common.{Option, None, Some}
use lib.ListN.{length, take, drop, take-append-drop}
use Rattle.text.proofs.Reading.{Next, stop, go, row_after, run, pend, ascending, ascends, behind, text-pend}
use Rattle.text.proofs.Laws.{text_none, text-append}
use Rattle.text.specs.Utf8.{Bytes, Range, inside, rows, matches, one_of, Octets, none, char, starts, char_length, past, octets, text}

-- a text that begins with an octet of each range, cut behind them
starts-matches : (rs : List Range) (s : Bytes) → T (starts rs s) → T (matches rs (take (length rs) s))
unfolding starts matches
starts-matches [] s t = tt
starts-matches (r ∷ rs) [] t = absurd t
starts-matches (r ∷ rs) (b ∷ s) t = pick (inside r b) (starts-matches rs s) t
  where
    pick : (i : Bool) → (T (starts rs s) → T (matches rs (take (length rs) s))) → T (i && starts rs s)
        → T (i && matches rs (take (length rs) s))
    pick true f h = f h
    pick false f h = h

-- the first character of a text is one of the rows
char_one : (more : List (List Range)) (s : Bytes) (k : ℕ) → char_length more s ≡ Some (suc k) → T (one_of more (take (suc k) s))
unfolding char_length one_of
char_one [] s k e = absurd (let z : ◌≡◌ {A = ℕ} 0 1 = cc in omega arith)
char_one (row ∷ more) s k e = pick (starts row s) (starts-matches row s) (char_one more s k) e
  where
    or_left : (x y : Bool) → T x → T (x || y)
    or_left true y t = tt
    or_left false y t = absurd t

    or_right : (x y : Bool) → T y → T (x || y)
    or_right true y t = tt
    or_right false y t = t

    pick : (x : Bool) → (T x → T (matches row (take (length row) s)))
        → (char_length more s ≡ Some (suc k) → T (one_of more (take (suc k) s)))
        → cond x (Some (length row)) (char_length more s) ≡ Some (suc k)
        → T (matches row (take (suc k) s) || one_of more (take (suc k) s))
    pick true f g h =
        or_left (matches row (take (suc k) s)) (one_of more (take (suc k) s))
        (let n : length row ≡ suc k = cc in subst (λ (n : ℕ). T (matches row (take n s))) n (f tt))
    pick false f g h = or_right (matches row (take (suc k) s)) (one_of more (take (suc k) s)) (g h)

-- what passes the test behind k octets is of the grammar
whole : (s : Bytes) (k : ℕ) → T (octets k s) → Octets (drop k s)
unfolding octets
whole [] zero t = none
whole [] (suc k) t = absurd t
whole (b ∷ s) (suc k) t = whole s k t
whole (b ∷ s) zero t = pick (char_length rows (b ∷ s)) refl (whole s) t
  where
    pick : (n : Option ℕ) → char_length rows (b ∷ s) ≡ n → ((k : ℕ) → T (octets k s) → Octets (drop k s))
        → T (past n (λ k. octets k s)) → Octets (b ∷ s)
    pick None e ih h = absurd h
    pick (Some zero) e ih h = absurd h
    pick (Some (suc k)) e ih h =
        subst (λ (u : Bytes). Octets (b ∷ u)) (take-append-drop k s)
        (char (b ∷ take k s) (drop k s) (char_one rows (b ∷ s) k e) (ih k h))

-- what passes the test is of the grammar
pub text-octets : (s : Bytes) → T (text s) → Octets s
unfolding text
text-octets s t = whole s 0 t

-- an octet of each range is right where these are asked for
matches-pend : (rs : List Range) (c : Bytes) → T (matches rs c) → T (pend rs c)
unfolding matches pend
matches-pend [] [] t = tt
matches-pend [] (b ∷ c) t = absurd t
matches-pend (r ∷ rs) [] t = absurd t
matches-pend (r ∷ rs) (b ∷ c) t = pick (inside r b) (matches-pend rs c) t
  where
    pick : (i : Bool) → (T (matches rs c) → T (pend rs c)) → T (i && matches rs c) → T (run (cond i (go rs) stop) (λ q. pend q c))
    pick true f h = f h
    pick false f h = h

-- the octets of a row are right
row-pend : (more : List (List Range)) (b : ℕ) (c : Bytes) → T (ascending more) → T (one_of more (b ∷ c))
    → T (run (row_after more b) (λ q. pend q c))
unfolding ascending one_of matches
row-pend [] b c a t = t
row-pend ([] ∷ more) b c a t = absurd a
row-pend ((r ∷ rs) ∷ more) b c a t =
    let w = behind r rs more b a in
    pick (inside r b) (matches rs c) (matches-pend rs c) (row-pend more b c w.0) w.1 t
  where
    pick : (i x : Bool) → (T x → T (pend rs c)) → (T (one_of more (b ∷ c)) → T (run (row_after more b) (λ q. pend q c)))
        → (i ≡ true → row_after more b ≡ stop) → T ((i && x) || one_of more (b ∷ c))
        → T (run (cond i (go rs) (row_after more b)) (λ q. pend q c))
    pick true true f g z h = f tt
    pick true false f g z h = absurd (subst (λ (n : Next). T (run n (λ q. pend q c))) (z refl) (g h))
    pick false x f g z h = g h

-- a character is a text
char-text : (c : Bytes) → T (one_of rows c) → T (text c)
unfolding one_of matches pend
char-text [] t = absurd t
char-text (b ∷ c) t = rw (text-pend (b ∷ c)) (row-pend rows b c ascends t)

-- what is of the grammar passes the test
pub octets-text : {s : Bytes} → Octets s → T (text s)
octets-text none = text_none
octets-text (char c s m o) = text-append c s (char-text c m) (octets-text o)
