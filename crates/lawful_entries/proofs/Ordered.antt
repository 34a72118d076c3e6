-- What the comparison of two names says of which is before the other.
-- Assumes nothing.
use Rattle.std.specs.Prelude.{Bool, true, false, cond}
use mathlib.Core.Path.{◌≡◌, refl}
use Rattle.std.specs.Ordering.{is_lt}
use Rattle.path.specs.Path.{Name}
use Rattle.model.specs.Tree.{precedes}
use Rattle.name_order.specs.Order.{order_of}
use Rattle.std.specs.declared.cmp.Ordering.TheVariants.{Less, Equal, Greater}

pub less_is : (a b : Name) → is_lt (order_of a b) ≡ precedes a b
unfolding order_of
less_is a b = go (precedes a b) (precedes b a)
  where
    go : (t u : Bool) → is_lt (cond t Less (cond u Greater Equal)) ≡ t
    go true u = refl
    go false true = refl
    go false false = refl
