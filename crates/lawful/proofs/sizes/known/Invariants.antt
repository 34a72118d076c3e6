-- `known` meets its contract: each time that is read is within its bounds. Assumes nothing.
use Prim.Native.Nat.{ℕ, ◌<◌}
use lib.Dec.{T}
use lib.IntN.{pos}
use lib.ListN.{get_or}
use Rattle.model.specs.Rules.{time_ok}
use Rattle.lawful.proofs.sizes.known.Given as goal

abbrev pub invariant-loop-t : goal.invariant-loop-t
invariant-loop-t l = (j : ℕ) → j < l.t-index → T (time_ok (get_or l.times j (pos 0)))
