-- `release` meets its contract: the slots behind the last one in use are free.
-- Assumes nothing.
use Rattle.edit_room.proofs.Resizing.{released}
use Rattle.edit_room.proofs.release.Goals as goal

pub returns : goal.returns
returns c st l = let a = c.args in let u = c.used_end.ensures in released a.words.now st.records a.heads.now st.times st.paths st.bytes l c.used_end.result u.0 u.1 u.2
