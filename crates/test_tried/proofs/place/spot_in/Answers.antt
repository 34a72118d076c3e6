-- `spot_in` meets its contract: where a name is missing, its place is vacant.
-- Assumes nothing.
use Rattle.layout.specs.Lent.{lent_by}
use Rattle.test_tried.proofs.Spots.{place-found}
use Rattle.test_tried.proofs.place.spot_in.Goals as goal

pub returns : goal.returns
returns c =
    rw c.err.ensures.value
    (place-found (lent_by c.args.lent) c.requires c.args.dir (c.is_dir.ensures c.if-not-is_dir.false).0 c.args.name.now (c.name_ok.ensures c.if-not-name_ok.false) _ c.look.ensures)
