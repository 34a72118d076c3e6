-- `links` meets its contract: a state that the store shows has as many links.
-- Assumes nothing.
use mathlib.Core.Path.{sym, ◌∙◌}
use Rattle.edit_room.specs.Extents.{trim}
use Rattle.store.proofs.Spaced.{links-told}
use Rattle.store.proofs.space.links.Goals as goal

pub links_in-requires : goal.links_in-requires
links_in-requires c = let p = c.requires in record { store = trim _; records = sym c.live.ensures; heads = sym c.in_use.ensures; lawful = p.2.roomy.lawful }

pub returns : goal.returns
returns c = λ st s h. c.links_in.ensures _ (sym c.live.ensures) (sym c.in_use.ensures) h.roomy.lawful ∙ links-told h
