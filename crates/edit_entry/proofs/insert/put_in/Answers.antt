-- `put_in` meets its contract. Assumes nothing.
use mathlib.Core.Path.{refl}
use Rattle.edit_entry.proofs.Inserts.{slot_small, may-open, put-at}
use Rattle.edit_entry.proofs.insert.put_in.Goals as goal

pub record_word-word-requires : goal.record_word-word-requires
record_word-word-requires c =
    let p = c.requires in
    (p.2.place.small, p.2.place.short, slot_small p.1 c.vacant_slot-s.ensures.0)

pub open_entry-requires : goal.open_entry-requires
open_entry-requires c =
    let p = c.requires in
    may-open p.1 p.2.allowed p.2.place c.vacant_slot-s.ensures c.record_word-word.ensures

pub returns : goal.returns
returns c st l m =
    put-at l m.allowed m.place c.vacant_slot-s.ensures c.record_word-word.ensures c.open_entry.ensures c.fill_slot.ensures refl
