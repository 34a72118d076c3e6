-- Where a name stands in a directory.
-- Assumes nothing.
use Rattle.std.specs.Prelude.{cond, Result, Ok, Err, List, [], ◌∷◌, ◌≡◌, ℕ, suc, ◌+◌, ◌≤◌, ◌<◌, leb, eqb, length, drop, get_or}
use Rattle.text.specs.Utf8.{Bytes}
use Rattle.path.specs.Path.{Name}
use Rattle.layout.specs.Rows.{Row, name_total, rows}
use Rattle.name_order.specs.Order.{order_of, number}
use Rattle.std.specs.declared.cmp.Ordering.{Ordering}
use Rattle.std.specs.declared.cmp.Ordering.TheVariants.{Less, Equal, Greater}
use Rattle.ask_find.specs.declared.Spot.{Spot}

-- where an entry stands, or where it would: the record, and the offset of the name
abbrev pub Place : Type 0
Place = Result Spot Spot

-- record k, whose name stands at offset o
abbrev pub spot : ℕ → ℕ → Spot
spot k o = record { at = k; off = o }

-- by the order of an entry's name and the name that is looked for
abbrev pub by_order : Ordering → Place → Place → Place → Place
by_order Less a b c = a
by_order Equal a b c = b
by_order Greater a b c = c

-- Where the entry x of a directory of depth d stands among the entries behind the directory, or where it would; k and o are the
-- place of the first of them and the offset of its name.
unfoldable pub find_in : ℕ → Name → List Row → ℕ → ℕ → Place
find_in d x [] k o = Err (spot k o)
find_in d x (r ∷ rs) k o =
    cond (leb r.depth d) (Err (spot k o))
    (cond (eqb r.depth (suc d))
    (by_order (order_of r.name x) (find_in d x rs (suc k) (o + length r.name)) (Ok (spot k o)) (Err (spot k o)))
    (find_in d x rs (suc k) (o + length r.name)))

-- the same among the records that stand from a spot on
abbrev pub scan : List ℕ → Bytes → ℕ → Name → Spot → Place
scan ws bs d x s = find_in d x (rows (drop s.at ws) (drop s.off bs)) s.at s.off

-- the names of the records from a spot on stand within the bytes
abbrev pub Within : List ℕ → Bytes → Spot → Type 0
Within ws bs s = (s.at ≤ length ws) × (s.off + name_total (drop s.at ws) ≤ length bs)

-- Records passed from spot s on, up to spot r: the entry of no name whose first eight bytes are the number k is among them.
pub record Passed (ws : List ℕ) (bs : Bytes) (d k : ℕ) (s r : Spot) : Type 0 where
  pub within : Within ws bs r
  pub same : (x : Name) → ((m : ℕ) → get_or x m 0 < 256) → number 8 0 x ≡ k → scan ws bs d x s ≡ scan ws bs d x r
