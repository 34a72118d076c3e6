-- `walk` meets its contract. The loop's invariant: the names that were passed lead to the record.
-- Assumes nothing.
use lib.ListN.{length}
use Rattle.path.specs.Path.{pieces}
use Rattle.layout.specs.Lent.{lent_by}
use Rattle.test_tried.proofs.Walked.{Walked}
use Rattle.test_tried.proofs.open.walk.Given as goal

abbrev pub invariant-loop-name : goal.invariant-loop-name
invariant-loop-name l =
    Walked (lent_by l.lent) (pieces l.initial.name-iterator.rest.now) (length l.yielded) l.i
