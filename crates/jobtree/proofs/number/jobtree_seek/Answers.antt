-- `jobtree_seek` meets its contract: the tests, and what the operation comes to over the parts that the limits ask.
-- Assumes nothing.
use Rattle.std.proofs.Common.{refl}
use Rattle.op.proofs.Cutting.{as_was, put_back}
use Rattle.op.proofs.Numbering.{seek-numbers, answers-refused, answers-open, open-cut}
use Rattle.jobtree.proofs.number.jobtree_seek.Goals as goal

pub seek_on-requires : goal.seek_on-requires
seek_on-requires c = open-cut c.of-used.ensures c.in-Ok.ensures refl

pub returns-in-Err : goal.returns-in-Err
returns-in-Err c = answers-refused _ (seek-numbers _ _ _) c.in-Err.ensures c.number.ensures

pub returns-in-Ok : goal.returns-in-Ok
returns-in-Ok c =
    let z = c.of-used.ensures in
    answers-open (seek-numbers _ _ _) z c.in-Ok.ensures refl c.seek_on.ensures (record { words = put_back z.words c.seek_on.auto.words; records = as_was _ _; heads = as_was _ _; times = as_was _ _; paths = as_was _ _; bytes = as_was _ _ })
    refl c.type_inv.words c.type_inv.heads c.type_inv.bytes c.answer.ensures
