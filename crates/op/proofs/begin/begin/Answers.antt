-- `begin` meets its contract: a test that fails, or what the path comes to in the state that is read back.
-- Assumes nothing.
use Rattle.layout.specs.Answers.{read_back}
use Rattle.layout.specs.Lent.{lent_by}
use Rattle.op.specs.Beginning.{Begins, formed}
use Rattle.op.specs.Parts.{cut}
use Rattle.op.proofs.Beginning.{enough, begin-refused, begin-passes}
use Rattle.op.proofs.Cutting.{shows-cut}
use Rattle.op.proofs.Doing.{passed_on}
use Rattle.op.proofs.begin.begin.Goals as goal

pub returns-in_err-ready : goal.returns-in_err-ready
returns-in_err-ready c = passed_on c.from_residual.ensures.1 (Begins _ _ _ _ _ _) (begin-refused _ _ _ c.in_err-ready.ensures)

pub form-requires : goal.form-requires
form-requires c = let a = c.args in enough a.first.now a.second.now a.path.now (read_back (lent_by a.lent)) (begin-passes _ _ _ c.in_ok-ready.ensures).1

pub returns : goal.returns
returns c =
    let st = lent_by c.args.lent in let p = begin-passes _ _ _ c.in_ok-ready.ensures in
    formed p.0 p.1 (c.form.ensures (cut st) (read_back st) (shows-cut st p.0))
