-- `move_entry` meets its contract. Assumes nothing.
use native.Mathlib.Omega.{arith}
use Rattle.edit_entry.proofs.Moves.{may-rename, may-move-front, moves-front}
use Rattle.edit_entry.proofs.moving.move_entry.Goals as goal

pub offset_bounds-live-i : goal.offset_bounds-live-i
offset_bounds-live-i c = let p = c.requires in omega (arith, (may-rename p.1 p.2).0, (may-rename p.1 p.2).1)

pub bounds-live-i : goal.bounds-live-i
bounds-live-i c = (may-rename c.requires.1 c.requires.2).0

pub rename_record-requires : goal.rename_record-requires
rename_record-requires c = may-rename c.requires.1 c.requires.2

pub move_block-requires : goal.move_block-requires
move_block-requires c = may-move-front c.requires.1 c.requires.2 c.rename_record.ensures c.depth_of-depth.ensures

pub returns : goal.returns
returns c st l m = moves-front l m c.rename_record.ensures c.depth_of-depth.ensures c.move_block.ensures
