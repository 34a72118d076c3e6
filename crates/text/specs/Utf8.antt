-- Valid text (01, refusal 2): RFC 3629, section 4 (syntax of UTF-8 byte sequences), without the zero byte.
-- Assumes nothing.
use Rattle.std.specs.Prelude.{Bool, true, false, ◌&&◌, ◌||◌, cond, List, [], ◌∷◌, ◌++◌, ℕ, zero, suc, T, leb, length, Option, None, Some}

-- the octets of a path, a name, a target or a file
abbrev pub Bytes : Type 0
Bytes = List ℕ

-- %xLOW-HIGH
pub record Range : Type 0 where
  pub low : ℕ
  pub high : ℕ

-- from the first byte to the second
abbrev pub to : ℕ → ℕ → Range
to l h = record { low = l; high = h }

-- the byte is in the range
abbrev pub inside : Range → ℕ → Bool
inside r b = leb r.low b && leb b r.high

-- UTF8-tail = %x80-BF
abbrev pub tail : Range
tail = to 0x80 0xBF

-- UTF8-char = UTF8-1 / UTF8-2 / UTF8-3 / UTF8-4: a row for each alternative, in the order of the RFC.
-- UTF8-1 is %x00-7F there; 01 refuses the zero byte.
abbrev pub rows : List (List Range)
rows =
    (to 0x01 0x7F ∷ []) ∷
    (to 0xC2 0xDF ∷ tail ∷ []) ∷
    (to 0xE0 0xE0 ∷ to 0xA0 0xBF ∷ tail ∷ []) ∷
    (to 0xE1 0xEC ∷ tail ∷ tail ∷ []) ∷
    (to 0xED 0xED ∷ to 0x80 0x9F ∷ tail ∷ []) ∷
    (to 0xEE 0xEF ∷ tail ∷ tail ∷ []) ∷
    (to 0xF0 0xF0 ∷ to 0x90 0xBF ∷ tail ∷ tail ∷ []) ∷
    (to 0xF1 0xF3 ∷ tail ∷ tail ∷ tail ∷ []) ∷
    (to 0xF4 0xF4 ∷ to 0x80 0x8F ∷ tail ∷ tail ∷ []) ∷ []

-- an octet of each range, in their order, and nothing more
unfoldable pub matches : List Range → Bytes → Bool
matches [] [] = true
matches [] (b ∷ s) = false
matches (r ∷ rs) [] = false
matches (r ∷ rs) (b ∷ s) = inside r b && matches rs s

-- the octets are one of the alternatives
unfoldable pub one_of : List (List Range) → Bytes → Bool
one_of [] s = false
one_of (row ∷ rest) s = matches row s || one_of rest s

-- UTF8-octets = *( UTF8-char )
pub data Octets : Bytes → Type 0 where
  none : Octets []
  char : (c s : Bytes) → T (one_of rows c) → Octets s → Octets (c ++ s)

-- The same as a test that computes; `text-octets` and `octets-text` of proofs/Grammar.antt show that it says what `Octets` says.

-- the text begins with an octet of each range, in their order
unfoldable pub starts : List Range → Bytes → Bool
starts [] s = true
starts (r ∷ rs) [] = false
starts (r ∷ rs) (b ∷ s) = inside r b && starts rs s

-- the length of the first row that the text begins with
unfoldable pub char_length : List (List Range) → Bytes → Option ℕ
char_length [] s = None
char_length (row ∷ rest) s = cond (starts row s) (Some (length row)) (char_length rest s)

-- a character of so many octets, of which the first is passed, and then what f says behind the others
abbrev pub past : Option ℕ → (ℕ → Bool) → Bool
past None f = false
past (Some zero) f = false
past (Some (suc k)) f = f k

-- characters to the end, after k octets more of the one begun
unfoldable pub octets : ℕ → Bytes → Bool
octets zero [] = true
octets (suc k) [] = false
octets zero (b ∷ s) = past (char_length rows (b ∷ s)) (λ k. octets k s)
octets (suc k) (b ∷ s) = octets k s

-- a valid text
unfoldable pub text : Bytes → Bool
text s = octets 0 s
