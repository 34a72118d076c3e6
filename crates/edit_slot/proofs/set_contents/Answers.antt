-- `set_contents` meets its contract: the bytes are put in the slot, and then the time is stored.
-- Assumes nothing.
use mir.Syntax.{w64}
use mir.ValLaws.{to_z-of_z}
use Rattle.edit_slot.proofs.Putting.{asked, contents-changes}
use Rattle.edit_slot.proofs.set_contents.Goals as goal

pub write-requires : goal.write-requires
write-requires c = asked _ c.requires.1 _ _ c.requires.2

pub returns : goal.returns
returns c st l r =
    rw (to_z-of_z w64 c.args.t c.ranges.t) (contents-changes _ l _ _ r _ _ _ c.write.ensures _)
