-- `try_move` is safe: the store is lawful, and the way is one that the entry may go.
-- Assumes nothing.
use Rattle.layout.specs.Store.{lent}
use Rattle.edit_room.specs.Extents.{trim}
use Rattle.test_tried.proofs.moved.try_move.Goals as goal

pub move_entry-requires : goal.move_entry-requires
move_entry-requires c =
    let a = c.args in
    (trim (lent a.words.now a.records.now a.heads.now a.times.now a.paths.now a.bytes.now), (c.ready.ensures c.if-not-ready.false).lawful, c.in-Some.ensures)
