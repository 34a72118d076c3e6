-- `position` meets its contract, by what the store says of the number.
-- Assumes nothing.
use Rattle.std.proofs.Common.{sym, ◌∙◌}
use Rattle.op_number.proofs.Reading.{position-told}
use Rattle.op_number.proofs.position.position.Goals as goal

pub returns : goal.returns
returns c = λ st s h o y. position-told s _ _ (c.open.ensures st s h) o y ∙ sym c.unwrap_or.ensures
