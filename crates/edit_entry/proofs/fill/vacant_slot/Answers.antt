-- `fill::vacant_slot` meets its contract: the slot that is found is free. Assumes nothing.
use Rattle.std.proofs.Common.{rules}
use Rattle.slots.proofs.Frees.{found}
use Rattle.edit_entry.proofs.fill.vacant_slot.Goals as goal

pub returns : goal.returns
returns c = found c.args.heads.now c.unwrap.result (search rules)
