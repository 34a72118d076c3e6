-- `used` meets its contract: a state that the store shows uses as many bytes.
-- Assumes nothing.
use mathlib.Core.Path.{refl, sym, ◌∙◌}
use Rattle.edit_room.specs.Extents.{trim}
use Rattle.store.proofs.Spaced.{used-told}
use Rattle.store.proofs.space.used.Goals as goal

pub bytes_used-requires : goal.bytes_used-requires
bytes_used-requires c = let p = c.requires in record { store = trim _; words = refl; records = refl; heads = sym c.in_use.ensures; lawful = p.2.roomy.lawful }

pub returns : goal.returns
returns c = λ st s h. c.bytes_used.ensures _ refl refl (sym c.in_use.ensures) h.roomy.lawful ∙ used-told h
