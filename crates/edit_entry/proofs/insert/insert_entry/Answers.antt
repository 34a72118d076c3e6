-- `insert_entry` meets its contract. Assumes nothing.
use Rattle.edit_entry.proofs.Inserts.{may-put-in, inserted-at}
use Rattle.edit_entry.proofs.insert.insert_entry.Goals as goal

pub put_in-requires : goal.put_in-requires
put_in-requires c = let p = c.requires in (p.0, p.1, may-put-in p.1 p.2.1)

pub returns : goal.returns
returns c st l q m = inserted-at l m.allowed (c.put_in.ensures st l (may-put-in l m)) m.vacant
