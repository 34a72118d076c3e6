-- `mask` meets its contract: the umask of a store has 32 bits.
-- Assumes nothing.
use mathlib.Core.Path.{sym}
use Rattle.model.specs.Prog.{answer}
use Rattle.store.proofs.mask.Goals as goal

pub returns : goal.returns
unfolding answer
returns c = λ st s h. sym h.alike.umask
