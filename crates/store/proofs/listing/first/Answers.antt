-- `first` meets its contract: what the store gives out first is the first that each state lists.
-- Assumes nothing.
use mathlib.Core.Path.{sym}
use Rattle.store.proofs.Listed.{placed_live, first_told}
use Rattle.store.proofs.listing.first.Goals as goal

pub first-requires : goal.first-requires
first-requires c = placed_live c.live.ensures c.requires

pub returns : goal.returns
returns c = λ st s h p a. first_told h p c.first.result (c.first.ensures _ (sym c.live.ensures) h.roomy.lawful p a)
