-- `look` meets its contract: the spot is the directory's, and no record is hidden.
-- Assumes nothing.
use Rattle.layout.specs.Lent.{lent_by}
use Rattle.test_tried.proofs.Spots.{looked}
use Rattle.test_tried.proofs.place.look.Goals as goal

pub returns : goal.returns
returns c = looked (lent_by c.args.lent) c.requires.0 c.args.dir _ c.requires.1 c.requires.2 c.args.name.now c.names_of-off.ensures _ c.child.ensures
