-- The classes of a byte (01, refusal 2: "a table of 256 byte classes, whose rule is RFC 3629").
-- Assumes nothing.
use Rattle.std.specs.Prelude.{cond, List, [], ◌∷◌, ◌++◌, ℕ, zero, suc}
use Rattle.text.specs.Utf8.{Range, to, inside, rows}

-- the ranges that the rows begin with
unfoldable pub leads : List (List Range) → List Range
leads [] = []
leads ([] ∷ rest) = leads rest
leads ((r ∷ rs) ∷ rest) = r ∷ leads rest

-- Classes 0 to 8: the byte begins that row of the RFC. 9, 10 and 11: it only continues a character; the RFC's ranges of
-- continuing octets part between 8F and 90 and between 9F and A0.
unfoldable pub classes : List Range
classes = leads rows ++ (to 0x80 0x8F ∷ to 0x90 0x9F ∷ to 0xA0 0xBF ∷ [])

-- the number of the first range that has b, counted from k; behind the last where none has
unfoldable pub place : List Range → ℕ → ℕ → ℕ
place [] k b = k
place (r ∷ rs) k b = cond (inside r b) k (place rs (suc k) b)

-- the class of a byte; 12: in no valid text
unfoldable pub class_of : ℕ → ℕ
class_of b = place classes 0 b

-- f at each number from k on, n of them
unfoldable pub tabulate : (ℕ → ℕ) → ℕ → ℕ → List ℕ
tabulate f zero k = []
tabulate f (suc n) k = f k ∷ tabulate f n (suc k)

-- the table: the class of each byte
unfoldable pub table : List ℕ
table = tabulate class_of 256 0
