-- Valid text is bytes: every range of the grammar ends below 256.
-- Assumes nothing.
use mathlib.Core.List.{List, [], ◌∷◌}
use mathlib.Core.Logic.{◌⊎◌, inl, inr}
use native.Mathlib.Omega.{arith}
use lib.Dec.{T, leb, ltb, ltb→lt, lt→ltb, leb→le}
use Rattle.text.specs.Utf8.{Bytes, Range, inside, rows, matches, one_of, Octets, none, char, text}
use Rattle.text.proofs.Grammar.{text-octets}
use Rattle.path.proofs.Laws.{and_left, and_right, and_both}
use Rattle.model.specs.Rules.{bytes_ok}
use Rattle.model.proofs.Demand.Contents.{or_elim}
use Rattle.model.proofs.Sound.Numbers.{joined_bytes}

-- each range of a row ends below 256
abbrev Low : List Range → Type 0
Low [] = Unit {0}
Low (r ∷ rs) = T (ltb r.high 256) × Low rs

abbrev Lows : List (List Range) → Type 0
Lows [] = Unit {0}
Lows (r ∷ rs) = Low r × Lows rs

row-bytes : (rs : List Range) (c : Bytes) → Low rs → T (matches rs c) → T (bytes_ok c)
unfolding matches bytes_ok
row-bytes [] [] l t = tt
row-bytes [] (b ∷ s) l t = absurd t
row-bytes (r ∷ rs) [] l t = absurd t
row-bytes (r ∷ rs) (b ∷ s) l t =
    let i = and_left (inside r b) (matches rs s) t in
    let h = leb→le b r.high (and_right (leb r.low b) (leb b r.high) i) in
    and_both (ltb b 256) (bytes_ok s) (lt→ltb b 256 (omega (arith, h, ltb→lt r.high 256 l.0))) (row-bytes rs s l.1 (and_right (inside r b) (matches rs s) t))

rows-bytes : (rs : List (List Range)) (c : Bytes) → Lows rs → T (one_of rs c) → T (bytes_ok c)
unfolding one_of
rows-bytes [] c l t = absurd t
rows-bytes (r ∷ rs) c l t = go (or_elim (matches r c) (one_of rs c) t) (rows-bytes rs c l.1)
  where
    go : T (matches r c) ⊎ T (one_of rs c) → (T (one_of rs c) → T (bytes_ok c)) → T (bytes_ok c)
    go (inl u) ih = row-bytes r c l.0 u
    go (inr u) ih = ih u

all_low : Lows rows
all_low =
    ((tt, tt), ((tt, (tt, tt)), ((tt, (tt, (tt, tt))), ((tt, (tt, (tt, tt))), ((tt, (tt, (tt, tt))), ((tt, (tt, (tt, tt))), ((tt, (tt, (tt, (tt, tt)))), ((tt, (tt, (tt, (tt, tt)))), ((tt, (tt, (tt, (tt, tt)))), tt)))))))))

octet-bytes : {s : Bytes} → Octets s → T (bytes_ok s)
unfolding bytes_ok
octet-bytes none = tt
octet-bytes (char c s t o) = joined_bytes c s (rows-bytes rows c all_low t) (octet-bytes o)

pub text-bytes : (s : Bytes) → T (text s) → T (bytes_ok s)
text-bytes s t = octet-bytes (text-octets s t)
