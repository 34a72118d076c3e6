-- `next` meets its contract: the first piece is the first line, and behind it and its newline are the others.
use mathlib.Core.Path.{ap}
use native.Mathlib.Omega.{arith}
use Prim.Native.Nat.{◌+◌, ◌<◌}
use lib.ListN.{length, length-drop}
use Rattle.std.proofs.Common.{rules}
use Rattle.test_fields.proofs.FirstLine.{next_line}
use Rattle.test_fields.proofs.EachLineIterator.next.Goals as goal

pub returns-clause-steps : goal.returns-clause-steps
returns-clause-steps c =
    let full : 0 < length c.args.self.now.left.now = search rules in
    next_line _ _ _ full c.piece-line.ensures c.behind-self.ensures

pub returns-clause-goes : goal.returns-clause-goes
returns-clause-goes c =
    let full : 0 < length c.args.self.now.left.now = search rules in
    let fewer = length-drop (length c.piece-line.result.now + 1) c.args.self.now.left.now in
    record { on = λ _. (tt, tt, omega (arith, ap length c.behind-self.ensures, fewer, full)); keeps = tt; rests = λ _. tt }
