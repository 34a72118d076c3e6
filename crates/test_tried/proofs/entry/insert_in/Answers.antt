-- `insert_in` leaves what `insert_made` leaves.
-- Assumes nothing.
use Rattle.test_tried.proofs.entry.insert_in.Goals as goal

pub returns : goal.returns
returns c = c.insert_made-done.ensures
