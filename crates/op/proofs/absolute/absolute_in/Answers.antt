-- `absolute_in` meets its contract: the current directory's path is what the store keeps of it.
-- Assumes nothing.
use Rattle.op.proofs.Forming.{absolute_is}
use Rattle.op.proofs.absolute.absolute_in.Goals as goal

pub returns : goal.returns
returns c = λ st s h. absolute_is s _ _ _ _ _ (c.here.ensures st s h) c.to_absolute_path.ensures
