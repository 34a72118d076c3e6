-- Each edit leaves a store that another may be made in.
-- Assumes nothing.
use Rattle.layout.specs.Lent.{lends}
use Rattle.edit_room.specs.Extents.{Roomy}
use Rattle.test_timed.proofs.timed_remove.Given as goal

abbrev pub invariant-loop-k : goal.invariant-loop-k
invariant-loop-k l = Roomy (lends l.words l.records l.heads l.times l.paths l.bytes)
