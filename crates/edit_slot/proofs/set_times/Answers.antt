-- `set_times` meets its contract: the four times are the slot's.
-- Assumes nothing.
use mir.Syntax.{w64}
use mir.ValLaws.{to_z-of_z}
use Rattle.edit_slot.proofs.Metadata.{times-changes}
use Rattle.edit_slot.proofs.set_times.Goals as goal

pub returns : goal.returns
returns c st l h =
    let a = c.args in
    rw (c.put_times.ensures, to_z-of_z w64 a.a c.ranges.a, to_z-of_z w64 a.t c.ranges.t) (times-changes _ l _ h _ _)
