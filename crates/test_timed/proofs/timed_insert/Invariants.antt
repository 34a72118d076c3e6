-- Each edit leaves a store that another may be made in.
-- Assumes nothing.
use Rattle.layout.specs.Lent.{lends}
use Rattle.edit_room.specs.Extents.{Roomy}
use Rattle.test_timed.proofs.timed_insert.Given as goal

abbrev pub invariant-loop-i : goal.invariant-loop-i
invariant-loop-i l =
    (goal.iterator-loop-i).can_next l.i-iterator × (goal.iterator-loop-i).is_finite l.i-iterator
    × Roomy (lends l.words l.records l.heads l.times l.paths l.bytes)
