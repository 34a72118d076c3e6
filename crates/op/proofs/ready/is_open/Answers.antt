-- `is_open` meets its contract.
-- Assumes nothing.
use mathlib.Core.Path.{◌∙◌}
use Rattle.op.proofs.Screening.{number-open}
use Rattle.op.proofs.ready.is_open.Goals as goal

pub returns : goal.returns
returns c = λ st s h. c.is_some.ensures ∙ number-open s _ _ (c.open.ensures st s h)
