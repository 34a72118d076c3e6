-- `records::move_block` meets its contract, by the parts that the move exchanges. Assumes nothing.
use Rattle.records.proofs.Swings.{may-go_down, may-go_up, moved_down, moved_up}
use Rattle.records.proofs.move_block.Goals as goal

pub swing-requires : goal.swing-requires
swing-requires c = may-go_down _ _ _ _ _ _ _ c.requires c.lift_words.ensures c.if-p-a.true

pub returns-then-p-a : goal.returns-then-p-a
returns-then-p-a c = moved_down _ _ _ _ _ _ _ c.requires c.lift_words.ensures c.swing.auto.records c.swing.auto.bytes c.if-p-a.true c.swing.ensures

pub swing-requires-2 : goal.swing-requires-2
swing-requires-2 c = may-go_up _ _ _ _ _ _ _ c.requires c.lift_words.ensures c.if-p-a.false

pub returns : goal.returns
returns c = moved_up _ _ _ _ _ _ _ c.requires c.lift_words.ensures c.swing-2.auto.records c.swing-2.auto.bytes c.if-p-a.false c.swing-2.ensures
