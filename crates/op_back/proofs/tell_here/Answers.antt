-- `tell_here` meets its contract.
-- Assumes nothing.
use Rattle.op.proofs.Naming.{path-plain}
use Rattle.op_back.proofs.Backs.{path-put}
use Rattle.op_back.proofs.tell_here.Goals as goal

pub put_path-requires : goal.put_path-requires
put_path-requires c = let p = c.requires in path-plain _ _ (c.here.ensures p.0 p.1 p.2)

pub returns : goal.returns
returns c = λ st s h. path-put _ _ (c.here.ensures st s h) c.put_path.ensures
