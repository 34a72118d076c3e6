-- `remove_entry` meets its contract. Assumes nothing.
use mathlib.Core.Path.{refl}
use Rattle.edit_entry.proofs.Removes.{may-free-one, removed-one, may-free-unused, removed-more}
use Rattle.edit_entry.proofs.removing.remove_entry.Goals as goal

pub free_one-requires : goal.free_one-requires
free_one-requires c = let p = c.requires in may-free-one p.1 p.2 refl c.close_entries.ensures c.slot_of-s.ensures

pub returns-then-gone-eq1 : goal.returns-then-gone-eq1
returns-then-gone-eq1 c st l =
    let b = c.requires.2 in
    removed-one l (record { first = b.first; some = b.some; last = b.last; below = b.below; behind = b.behind }) refl c.close_entries.ensures c.if-gone-eq1.true c.slot_of-s.ensures c.free_one.ensures

pub free_unused-requires : goal.free_unused-requires
free_unused-requires c = let p = c.requires in may-free-unused p.1 p.2 refl c.close_entries.ensures

pub returns : goal.returns
returns c st l =
    let b = c.requires.2 in
    removed-more l (record { first = b.first; some = b.some; last = b.last; below = b.below; behind = b.behind }) refl c.close_entries.ensures c.free_unused.ensures
