-- `metadata` meets its contract: how the call begins, and what the operation comes to over the parts that the limits ask.
-- Assumes nothing.
use Rattle.std.proofs.Common.{◌∙◌}
use Rattle.layout.specs.Lent.{lent_by}
use Rattle.op.proofs.Cutting.{with-times-too}
use Rattle.op.proofs.Calling.{metadata-takes, shell-refused, shell-requires, shell-asked}
use Rattle.jobtree.proofs.look.metadata.Goals as goal

pub returns-in_err-n : goal.returns-in_err-n
returns-in_err-n c = shell-refused (metadata-takes _ _) _ _ c.from_residual.ensures.1 c.in_err-n.ensures

pub metadata_at-requires : goal.metadata_at-requires
metadata_at-requires c = let u = c.used-used.result in shell-requires c.in_ok-n.ensures (lent_by u) (with-times-too u c.tree_of.ensures ∙ c.used-used.ensures)

pub returns : goal.returns
returns c = let u = c.used-used.result in shell-asked (metadata-takes _ _) c.in_ok-n.ensures u (with-times-too u c.tree_of.ensures ∙ c.used-used.ensures) c.metadata_at.ensures
