-- The order of names, as an answer.
-- Assumes nothing.
use Rattle.std.specs.Prelude.{cond, ℕ, zero, suc, ◌+◌, ◌*◌, get_or}
use Rattle.text.specs.Utf8.{Bytes}
use Rattle.model.specs.Tree.{precedes}
use Rattle.std.specs.declared.cmp.Ordering.{Ordering}
use Rattle.std.specs.declared.cmp.Ordering.TheVariants.{Less, Equal, Greater}

-- the first is before the second, the second before the first, or neither
unfoldable pub order_of : Bytes → Bytes → Ordering
order_of a b = cond (precedes a b) Less (cond (precedes b a) Greater Equal)

-- k bytes from i on as one number, the first byte the highest
unfoldable pub number : ℕ → ℕ → Bytes → ℕ
number zero i s = 0
number (suc k) i s = number k i s * 256 + get_or s (i + k) 0
