-- `read` meets its contract: how the call begins, and what the operation comes to over the parts that the limits ask.
-- Assumes nothing.
use Rattle.std.proofs.Common.{◌∙◌}
use Rattle.layout.specs.Lent.{lent_by}
use Rattle.op.proofs.Cutting.{with_its_tree}
use Rattle.op.proofs.Calling.{read-takes, shell-refused, shell-requires, shell-asked}
use Rattle.jobtree.proofs.look.read.Goals as goal

pub returns-in_err-n : goal.returns-in_err-n
returns-in_err-n c = shell-refused (read-takes _ _) _ _ c.from_residual.ensures.1 c.in_err-n.ensures

pub read_at-requires : goal.read_at-requires
read_at-requires c = let u = c.used.result in shell-requires c.in_ok-n.ensures (lent_by u) (with_its_tree u c.tree_of.ensures ∙ c.used.ensures)

pub returns : goal.returns
returns c = let u = c.used.result in shell-asked (read-takes _ _) c.in_ok-n.ensures u (with_its_tree u c.tree_of.ensures ∙ c.used.ensures) c.read_at.ensures
