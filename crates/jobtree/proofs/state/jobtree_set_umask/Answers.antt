-- `jobtree_set_umask` meets its contract: the tests, and what the operation comes to over the parts that the limits ask.
-- Assumes nothing.
use Rattle.std.proofs.Common.{refl}
use Rattle.layout.specs.Answers.{read_back}
use Rattle.layout.specs.Lent.{lends}
use Rattle.op.specs.Parts.{cut}
use Rattle.op.proofs.Cutting.{shows-cut, as_was, put_back}
use Rattle.op.proofs.Numbering.{umask-numbers, tested-passes, answers-refused, answers-changed}
use Rattle.jobtree.proofs.state.jobtree_set_umask.Goals as goal

pub set_umask_to-requires : goal.set_umask_to-requires
set_umask_to-requires c =
    let a = c.args in let st = lends a.words.now a.records.now a.heads.now a.times.now a.paths.now a.bytes.now in
    (cut st, read_back st, shows-cut st (tested-passes c.in-Ok.ensures))

pub returns-in-Err : goal.returns-in-Err
returns-in-Err c = answers-refused _ (umask-numbers _) c.in-Err.ensures c.number.ensures

pub returns-in-Ok : goal.returns-in-Ok
returns-in-Ok c =
    let a = c.args in let st = lends a.words.now a.records.now a.heads.now a.times.now a.paths.now a.bytes.now in
    let t = c.in-Ok.ensures in let p = tested-passes t in
    answers-changed (umask-numbers _) t (c.set_umask_to.ensures (cut st) (read_back st) (shows-cut st p))
    (record { words = put_back p.0.words c.set_umask_to.auto.words; records = as_was _ _; heads = as_was _ _; times = as_was _ _; paths = as_was _ _; bytes = as_was _ _ })
    refl c.type_inv.words c.type_inv.heads c.type_inv.bytes c.answer.ensures
