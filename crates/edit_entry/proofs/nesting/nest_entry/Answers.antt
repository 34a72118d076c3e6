-- `nest_entry` meets its contract. Assumes nothing.
use mathlib.Core.Path.{refl}
use Rattle.edit_entry.proofs.Lowering.{may-lower, nested_at}
use Rattle.edit_entry.proofs.nesting.nest_entry.Goals as goal

pub lower_block-requires : goal.lower_block-requires
lower_block-requires c = may-lower c.requires.1 c.requires.2 c.vacant_slot-s.ensures.0

pub returns : goal.returns
returns c st l n p k = nested_at l n c.vacant_slot-s.ensures c.lower_block.ensures c.fill_slot.ensures refl p k
