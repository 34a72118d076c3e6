-- `set_some_times` meets its contract: each time that is given is the slot's.
-- Assumes nothing.
use Rattle.edit_slot.proofs.Metadata.{some_changes}
use Rattle.edit_slot.proofs.set_some_times.Goals as goal

pub returns : goal.returns
returns c st l h = rw (c.put_if-2.ensures, c.put_if.ensures) (some_changes _ l _ h _ _)
