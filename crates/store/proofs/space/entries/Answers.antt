-- `entries` meets its contract: a state that the store shows has as many entries.
-- Assumes nothing.
use Rattle.store.proofs.Spaced.{entries-told}
use Rattle.store.proofs.space.entries.Goals as goal

pub returns : goal.returns
returns c = λ st s h. entries-told h
