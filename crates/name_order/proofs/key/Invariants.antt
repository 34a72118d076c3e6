-- `key` meets its contract: the number of the bytes so far, with zeros behind the name. Assumes nothing.
use mathlib.Core.Path.{◌≡◌}
use Rattle.name_order.specs.Order.{number}
use Rattle.name_order.proofs.key.Given as goal

abbrev pub invariant-loop-i : goal.invariant-loop-i
invariant-loop-i l = l.first ≡ number l.i 0 l.name
