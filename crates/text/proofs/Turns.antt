-- A turn of the walk: what is left of the text is a text where it is one behind its first character.
-- Assumes nothing.
use mathlib.Core.Bool.{Bool, true, false, ◌&&◌, cond}
use mathlib.Core.List.{List, [], ◌∷◌}
use mathlib.Core.Path.{◌≡◌, refl, sym, ap, ◌∙◌}
use Prim.Native.Nat.{ℕ, zero, suc, ◌+◌, ◌≤◌, ◌<◌}
use native.Mathlib.Nat.{le_of_suc-le-suc}
use native.Mathlib.Omega.{arith}
use lib.Dec.{T}
use Rattle.std.proofs.Common.{Option, None, Some}
use Rattle.text.proofs.Table.{both_right}
use Rattle.text.proofs.Reading.{above, ascending, ascends}
use lib.ListN.{length, drop, length-drop, drop_of_length-le}
use lib.Seq.{drop-drop}
use Rattle.text.specs.Utf8.{Bytes, Range, inside, rows, starts, char_length, past, octets, text}

-- the octets of the ranges that a text begins with are there
starts-fits : (rs : List Range) (s : Bytes) → starts rs s ≡ true → length rs ≤ length s
unfolding starts
starts-fits [] s e = omega arith
starts-fits (r ∷ rs) [] e = absurd (let z : ◌≡◌ {A = ℕ} 0 1 = cc in omega arith)
starts-fits (r ∷ rs) (b ∷ s) e = pick (inside r b) (starts-fits rs s) e
  where
    pick : (i : Bool) → (starts rs s ≡ true → length rs ≤ length s) → (i && starts rs s) ≡ true → suc (length rs) ≤ suc (length s)
    pick true f h = let w = f h in omega arith
    pick false f h = absurd (let z : ◌≡◌ {A = ℕ} 0 1 = cc in omega arith)

-- the octets of the first character are there, one at least
char-fits : (more : List (List Range)) (s : Bytes) (n : ℕ) → T (ascending more) → char_length more s ≡ Some n → (0 < n) × (n ≤ length s)
unfolding char_length ascending
char-fits [] s n a e = absurd (let z : ◌≡◌ {A = ℕ} 0 1 = cc in omega arith)
char-fits ([] ∷ more) s n a e = absurd a
char-fits ((r ∷ rs) ∷ more) s n a e =
    pick (starts (r ∷ rs) s) (starts-fits (r ∷ rs) s) (char-fits more s n (both_right (above r.high more) (ascending more) a)) e
  where
    pick : (x : Bool) → (x ≡ true → suc (length rs) ≤ length s) → (char_length more s ≡ Some n → (0 < n) × (n ≤ length s))
        → cond x (Some (suc (length rs))) (char_length more s) ≡ Some n → (0 < n) × (n ≤ length s)
    pick true f g h = let z : suc (length rs) ≡ n = cc in (omega arith, omega (arith, f refl))
    pick false f g h = g h

-- behind the octets that are passed
skip : (k : ℕ) (s : Bytes) → k ≤ length s → octets k s ≡ octets 0 (drop k s)
unfolding octets
skip zero s l = refl
skip (suc k) [] l = absurd (omega arith)
skip (suc k) (b ∷ s) l = skip k s (le_of_suc-le-suc l)

-- behind the first character
char-skip : (s : Bytes) (k : ℕ) → char_length rows s ≡ Some (suc k) → octets 0 s ≡ octets 0 (drop (suc k) s)
unfolding octets
char-skip s k e = pick s (char-fits rows s (suc k) ascends e).1 e
  where
    pick : (u : Bytes) → suc k ≤ length u → char_length rows u ≡ Some (suc k) → octets 0 u ≡ octets 0 (drop (suc k) u)
    pick [] l h = absurd (omega arith)
    pick (b ∷ u) l h = ap (λ (n : Option ℕ). past n (λ j. octets j u)) h ∙ skip k u (le_of_suc-le-suc l)

-- a turn of the loop, by the length of the character at i
pub turn : (s : Bytes) (i k : ℕ) → i ≤ length s → char_length rows (drop i s) ≡ Some k
    → text s ≡ octets 0 (drop i s) → (0 < k) × (i + k ≤ length s) × (text s ≡ octets 0 (drop (i + k) s))
turn s i zero l e h = absurd (omega (arith, (char-fits rows (drop i s) 0 ascends e).0))
turn s i (suc k) l e h = (
  omega arith,
  omega (arith, (char-fits rows (drop i s) (suc k) ascends e).1, length-drop i s),
  h ∙ char-skip (drop i s) k e ∙ ap (λ (u : Bytes). octets 0 u) (drop-drop (suc k) i s),
)

-- no character at i: no text
pub refused : (s : Bytes) (i : ℕ) → i < length s → char_length rows (drop i s) ≡ None → text s ≡ octets 0 (drop i s) → false ≡ text s
unfolding octets
refused s i l e h = sym (h ∙ none (drop i s) (omega (arith, length-drop i s)) e)
  where
    none : (u : Bytes) → 0 < length u → char_length rows u ≡ None → octets 0 u ≡ false
    none [] w z = absurd (omega arith)
    none (b ∷ u) w z = ap (λ (n : Option ℕ). past n (λ j. octets j u)) z

-- the end of the text
pub over : (s : Bytes) (i : ℕ) → length s ≤ i → text s ≡ octets 0 (drop i s) → true ≡ text s
unfolding octets
over s i l h = sym (h ∙ ap (λ (u : Bytes). octets 0 u) (drop_of_length-le s l))
