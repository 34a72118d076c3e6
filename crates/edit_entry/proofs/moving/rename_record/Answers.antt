-- `rename_record` meets its contract. Assumes nothing.
use Rattle.edit_entry.proofs.Renames.{word_by, may-put, renamed}
use Rattle.edit_entry.proofs.moving.rename_record.Goals as goal

pub open_entry-requires : goal.open_entry-requires
open_entry-requires c =
    let p = c.requires in
    may-put _ _ _ _ p.0 p.1 p.2 p.5 _ _ c.close_entries.ensures _ (word_by _ _ c.record_word-word.ensures c.depth_of.ensures c.slot_of.ensures)

pub returns : goal.returns
returns c =
    let p = c.requires in
    renamed _ _ _ _ p.0 p.1 p.2 p.5 _ _ c.close_entries.ensures _ _ _ (word_by _ _ c.record_word-word.ensures c.depth_of.ensures c.slot_of.ensures) c.open_entry.ensures
