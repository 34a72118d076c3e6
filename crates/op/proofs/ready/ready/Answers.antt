-- `ready` meets its contract: the store's test, and the tests of what is given in the state that is read back.
-- Assumes nothing.
use mathlib.Core.Path.{refl}
use Rattle.layout.specs.Answers.{read_back}
use Rattle.layout.specs.Lent.{lent_by}
use Rattle.op.specs.Parts.{cut}
use Rattle.op.specs.Testing.{broken, passing}
use Rattle.op.proofs.Cutting.{shows-cut}
use Rattle.op.proofs.ready.ready.Goals as goal

pub returns-then-not-store_ok : goal.returns-then-not-store_ok
returns-then-not-store_ok c = broken c.if-not-store_ok.ensures refl

pub returns : goal.returns
returns c = let st = lent_by c.args.lent in let p = c.if-not-store_ok.ensures in passing p (c.screened.ensures (cut st) (read_back st) (shows-cut st p))
