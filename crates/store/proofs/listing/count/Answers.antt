-- `count` meets its contract: the store lists what each state lists.
-- Assumes nothing.
use mathlib.Core.Path.{sym, ap, ◌∙◌}
use lib.ListN.{length}
use Rattle.store.proofs.Listed.{placed_live, listed-told}
use Rattle.store.proofs.listing.count.Goals as goal

pub entry_count-requires : goal.entry_count-requires
entry_count-requires c = placed_live c.live.ensures c.requires

pub returns : goal.returns
returns c = λ st s h p a. c.entry_count.ensures _ (sym c.live.ensures) h.roomy.lawful p a ∙ ap length (listed-told h p)
