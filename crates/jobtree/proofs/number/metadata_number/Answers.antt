-- `metadata_number` meets its contract: the tests, and what the operation comes to over the parts that the limits ask.
-- Assumes nothing.
use Rattle.std.proofs.Common.{refl}
use Rattle.layout.specs.Answers.{read_back}
use Rattle.layout.specs.Lent.{lent_by}
use Rattle.op.proofs.Cutting.{shows-cut, shows_as, not_written}
use Rattle.op.proofs.Doing.{done-err, does-left}
use Rattle.op.proofs.Numbering.{metadata-numbers, tested-passes, tested-open, tested-room, number-refused, number-done}
use Rattle.jobtree.proofs.number.metadata_number.Goals as goal

pub returns-in_err-ready : goal.returns-in_err-ready
returns-in_err-ready c = done-err _ _ c.from_residual.ensures.1 (number-refused _ _ (metadata-numbers _ _ _ _) refl c.in_err-ready.ensures)

pub metadata_on-requires : goal.metadata_on-requires
metadata_on-requires c =
    let t = c.in_ok-ready.ensures in let st = lent_by c.args.lent in
    ((st, read_back st, shows_as c.used.ensures (shows-cut st (tested-passes t)), tested-open t), tested-room t)

pub returns : goal.returns
returns c =
    let t = c.in_ok-ready.ensures in let st = lent_by c.args.lent in let e = c.used.ensures in let p = tested-passes t in
    number-done _ st (metadata-numbers _ _ _ _) refl t _ st _ _ (does-left e (c.metadata_on.ensures st (read_back st) (shows_as e (shows-cut st p)) (tested-open t))) (not_written st) p.2
