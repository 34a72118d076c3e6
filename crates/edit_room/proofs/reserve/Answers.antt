-- `reserve` meets its contract: nothing where the limits allow no slot more, else one free slot behind the last.
-- Assumes nothing.
use native.Mathlib.Omega.{arith}
use Rattle.edit_room.proofs.Resizing.{reserved_none, reserved-one}
use Rattle.edit_room.proofs.reserve.Goals as goal

pub returns-then-words-n : goal.returns-then-words-n
returns-then-words-n c st l = let a = c.args in reserved_none a.words.now st.records a.heads.now st.times st.paths st.bytes l (omega (arith, c.if-words-n.true))

pub returns : goal.returns
returns c st l = let a = c.args in reserved-one a.words.now st.records a.heads.now st.times st.paths st.bytes l (omega (arith, c.if-words-n.false))
