-- `known` meets its contract: each time that is read is within its bounds. Assumes nothing.
use native.Mathlib.Omega.{arith}
use Rattle.std.proofs.Common.{rules}
use lib.IntN.{pos}
use lib.ListN.{get_or}
use Rattle.layout.proofs.Sizes.{time-known, known_more, known_all}
use Rattle.lawful.proofs.sizes.known.Goals as goal

pub loop-t-preserved : goal.loop-t-preserved
loop-t-preserved c = let l = c.loop-t in known_more c.args.times.now l.t-index l.invariant (time-known (get_or c.args.times.now l.t-index (pos 0)) (search rules))

pub returns : goal.returns
returns c = let l = c.loop-t in known_all c.args.times.now l.t-index l.invariant (omega arith)
