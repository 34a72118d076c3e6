-- `root` meets its contract: the root of the store is that of each state that it shows.
-- Assumes nothing.
use mathlib.Core.Path.{refl}
use Rattle.store.proofs.Looking.{root_told}
use Rattle.store.proofs.root.Goals as goal

pub returns : goal.returns
returns c = λ st s h. root_told h c.root.result (c.root.ensures _ refl h.roomy.lawful)
