-- `half` meets its contract: the bytes of the part are those of the slice. Assumes nothing.
use mathlib.Core.Path.{◌∙◌}
use Rattle.name_order.proofs.Numbers.{four, number_part}
use Rattle.name_order.proofs.half.Goals as goal

pub returns : goal.returns
returns c = c.from_be_bytes.ensures ∙ four c.unwrap.result ∙ number_part 4 c.args.i c.args.s.now c.unwrap.result (rw c.unwrap.ensures at c.try_into.ensures.1)
