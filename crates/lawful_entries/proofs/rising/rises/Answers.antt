-- `rises` meets its contract.
-- Assumes nothing.
use mathlib.Core.Path.{ap, ◌∙◌}
use Rattle.std.specs.Ordering.{is_lt}
use Rattle.lawful_entries.proofs.Ordered.{less_is}
use Rattle.lawful_entries.proofs.rising.rises.Goals as goal

pub returns : goal.returns
returns c = c.is_lt.ensures ∙ ap is_lt c.compare.ensures ∙ less_is c.args.a.now c.args.b.now
