-- The bytes that stand in the slots of a store (docs/LAYOUT.md, "Bytes").
-- Assumes nothing.
use Rattle.std.specs.Prelude.{List, [], ◌∷◌, ℕ, ◌+◌, ◌-◌, length, take, drop}
use Rattle.text.specs.Utf8.{Bytes}
use Rattle.layout.specs.Fields.{len_of}

-- the bytes of all slots
unfoldable pub total : List ℕ → ℕ
total [] = 0
total (h ∷ hs) = len_of h + total hs

-- the bytes of each slot, one behind the other
unfoldable pub split : List ℕ → Bytes → List Bytes
split [] s = []
split (h ∷ hs) s = take (len_of h) s ∷ split hs (drop (len_of h) s)

-- where they begin: they end where the byte storage ends
abbrev pub start : List ℕ → Bytes → ℕ
start hs bs = length bs - total hs

-- the bytes of each slot
abbrev pub contents : List ℕ → Bytes → List Bytes
contents hs bs = split hs (drop (start hs bs) bs)
