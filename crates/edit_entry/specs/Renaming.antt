-- An entry under another name, at its old place.
-- Assumes nothing.
use Rattle.std.specs.Prelude.{List, ◌∷◌, ◌++◌, ◌≡◌, ℕ, suc, ◌+◌, ◌≤◌, length, take, drop, get_or}
use Rattle.layout.specs.Fields.{depth_of, nlen_of, slot_of}
use Rattle.layout.specs.Rows.{rows, name_total}
use Rattle.layout.specs.Slots.{total, contents}

-- what is left where the i-th of the first count entries has the name x
pub record Renamed (ws bs ws' bs' : List ℕ) (count i : ℕ) (x : List ℕ) : Type 0 where
  pub all : rows (take count ws') bs'
      ≡ take i (rows (take count ws) bs) ++ (record { depth = depth_of (get_or ws i 0); name = x; slot = slot_of (get_or ws i 0) } ∷ drop (suc i) (rows (take count ws) bs))
  pub sum : name_total (take count ws') + nlen_of (get_or ws i 0) ≡ name_total (take count ws) + length x
  pub texts : (hs : List ℕ) → name_total (take count ws) + total hs ≤ length bs → name_total (take count ws) + length x + total hs ≤ length bs + nlen_of (get_or ws i 0)
      → contents hs bs' ≡ contents hs bs
  pub record_count : length ws' ≡ length ws
  pub byte_count : length bs' ≡ length bs
