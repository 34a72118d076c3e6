-- The words from record j on: the word of record j, and those from the next record on; and the names, which stand one behind the
-- other.
-- Assumes nothing.
use mathlib.Core.Path.{◌≡◌, ap, ◌∙◌}
use mathlib.Core.List.{List, [], ◌∷◌}
use Prim.Native.Nat.{ℕ, suc, ◌+◌, ◌≤◌, ◌<◌}
use native.Mathlib.Omega.{arith}
use lib.ListN.{length, take, drop, get_or, length-drop, drop_of_length-le}
use lib.Seq.{drop-cons, get_or-take, length-take-le}
use Rattle.text.specs.Utf8.{Bytes}
use Rattle.layout.specs.Fields.{nlen_of}
use Rattle.layout.specs.Rows.{name_total}

-- the words of the first n records, from record j on
abbrev pub from : List ℕ → ℕ → ℕ → List ℕ
from ws n j = drop j (take n ws)

pub from_at : (ws : List ℕ) (n j : ℕ) → n ≤ length ws → j < n → from ws n j ≡ get_or ws j 0 ∷ from ws n (suc j)
from_at ws n j h l =
    let a : j < length (take n ws) = omega (arith, length-take-le n ws h) in
    drop-cons (take n ws) j 0 a ∙ ap (λ (w : ℕ). w ∷ from ws n (suc j)) (get_or-take n ws j 0 l)

pub from_end_lem : (ws : List ℕ) (n j : ℕ) → n ≤ length ws → n ≤ j → from ws n j ≡ []
from_end_lem ws n j h l = drop_of_length-le (take n ws) {i = j} (omega (arith, length-take-le n ws h))

pub from_length : (ws : List ℕ) (n j : ℕ) → n ≤ length ws → j ≤ n → j + length (from ws n j) ≡ n
from_length ws n j h l = omega (arith, length-take-le n ws h, length-drop j (take n ws))

pub names_at : (ws : List ℕ) (n j : ℕ) → n ≤ length ws → j < n → name_total (from ws n j) ≡ nlen_of (get_or ws j 0) + name_total (from ws n (suc j))
unfolding name_total
names_at ws n j h l = ap name_total (from_at ws n j h l)

-- a name that stands within the bytes has its length
pub name-length : (bs : Bytes) (o n : ℕ) → o + n ≤ length bs → length (take n (drop o bs)) ≡ n
name-length bs o n h = length-take-le n (drop o bs) (omega (arith, length-drop o bs))
