-- `find_child` meets its contract: the records that are passed do not hold the entry. Assumes nothing.
use mathlib.Core.Path.{sym, ◌∙◌}
use native.Mathlib.Omega.{arith}
use Rattle.ask_find.proofs.find_child.Goals as goal

pub returns : goal.returns
returns c = c.find_from.ensures ∙ sym (c.pass-spot.ensures.same c.args.name.now (λ m. omega (arith, c.type_inv.name m)) (sym c.key.ensures))
