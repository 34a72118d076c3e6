-- `compare` meets its contract: a few bytes are compared one by one. Assumes nothing.
use mathlib.Core.Path.{◌∙◌}
use Rattle.name_order.proofs.Orders.{order_is}
use Rattle.name_order.proofs.compare.Goals as goal

pub returns-then-n-lt4 : goal.returns-then-n-lt4
returns-then-n-lt4 c = c.cmp.ensures ∙ order_is c.args.a.now c.args.b.now
