-- `insert_root` meets its contract. Assumes nothing.
use Rattle.edit_entry.proofs.Rooting.{may-put-root, rooted}
use Rattle.edit_entry.proofs.insert.insert_root.Goals as goal

pub put_in-requires : goal.put_in-requires
put_in-requires c = let p = c.requires in (p.0, p.1, may-put-root p.1 p.2)

pub returns : goal.returns
returns c st l = rooted l c.requires.2.empty (c.put_in.ensures st l (may-put-root l (record { empty = c.requires.2.empty; free = c.requires.2.free })))
