-- `jobtree_set_length` meets its contract: the tests, and what the operation comes to over the parts that the limits ask.
-- Assumes nothing.
use Rattle.std.proofs.Common.{refl}
use Rattle.op.proofs.Cutting.{as_was, put_back}
use Rattle.op.proofs.Numbering.{length-numbers, answers-refused, answers-open, open-cut}
use Rattle.jobtree.proofs.number.jobtree_set_length.Goals as goal

pub set_length_on-requires : goal.set_length_on-requires
set_length_on-requires c = open-cut c.of-used.ensures c.in-Ok.ensures refl

pub returns-in-Err : goal.returns-in-Err
returns-in-Err c = answers-refused _ (length-numbers _ _) c.in-Err.ensures c.number.ensures

pub returns-in-Ok : goal.returns-in-Ok
returns-in-Ok c =
    let z = c.of-used.ensures in
    answers-open (length-numbers _ _) z c.in-Ok.ensures refl c.set_length_on.ensures (record { words = as_was _ _; records = as_was _ _; heads = put_back z.heads c.set_length_on.auto.heads; times = as_was _ _; paths = as_was _ _; bytes = put_back z.bytes c.set_length_on.auto.bytes })
    refl c.type_inv.words c.type_inv.heads c.type_inv.bytes c.answer.ensures
