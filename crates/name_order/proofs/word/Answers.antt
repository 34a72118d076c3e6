-- `word` meets its contract: the bytes of the part are those of the slice. Assumes nothing.
use mathlib.Core.Path.{◌∙◌}
use Rattle.name_order.proofs.Numbers.{eight, number_part}
use Rattle.name_order.proofs.word.Goals as goal

pub returns : goal.returns
returns c = c.from_be_bytes.ensures ∙ eight c.unwrap.result ∙ number_part 8 c.args.i c.args.s.now c.unwrap.result (rw c.unwrap.ensures at c.try_into.ensures.1)
