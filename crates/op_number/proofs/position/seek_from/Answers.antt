-- `seek_from` meets its contract, by the origin.
-- Assumes nothing.
use mathlib.Core.Path.{ap}
use Rattle.op_number.specs.Opened.{number_from}
use Rattle.op_number.proofs.Seeking.{seek-start, seek-here, seek-end}
use Rattle.op_number.proofs.position.seek_from.Goals as goal

pub returns-in-Start : goal.returns-in-Start
returns-in-Start c = λ w. seek-start _ _ _ _ w (ap number_from c.in-Start.is)

pub returns-in-Position : goal.returns-in-Position
returns-in-Position c = λ w. seek-here _ _ _ _ w (ap number_from c.in-Position.is) _ c.wrapping_add_u64.ensures.value

pub returns-in-End : goal.returns-in-End
returns-in-End c = λ w. seek-end _ _ _ _ w (ap number_from c.in-End.is) _ (c.from_end.ensures w)
