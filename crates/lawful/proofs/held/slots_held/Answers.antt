-- `slots_held` meets its contract.
-- Assumes nothing.
use Rattle.lawful.proofs.Slotting.{held-bad}
use Rattle.lawful.proofs.held.slots_held.Goals as goal

pub returns-else-slots_ok : goal.returns-else-slots_ok
returns-else-slots_ok c = let a = c.args in rw c.if-slots_ok.false (held-bad a.words.now a.recs.now a.heads.now a.bytes.now c.if-slots_ok.ensures)
