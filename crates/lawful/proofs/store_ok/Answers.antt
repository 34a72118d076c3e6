-- `store_ok` meets its contract: the rules are tested, and what slices hold is known where they are read.
-- Assumes nothing.
use mathlib.Core.Bool.{Bool, true, false}
use Rattle.layout.proofs.Sizes.{sized-cut}
use Rattle.layout.specs.Lawful.{Sized, Keeps, Passes}
use Rattle.layout.specs.Lent.{lent_by}
use Rattle.layout.specs.Store.{Store, core}
use Rattle.lawful_limits.specs.Settles.{Settles}
use Rattle.lawful.proofs.store_ok.Goals as goal

with-sizes : (st : Store) (r : Bool) → Sized (core st) → Settles r (Keeps st) → Settles r (Passes st)
with-sizes st true z k = (k.0, k.1, z)
with-sizes st false z k = λ p. k (p.0, p.1)

pub returns : goal.returns
returns c =
    let k = c.unsigned_known.ensures in
    with-sizes (lent_by c.args.lent) c.rules_ok.result (sized-cut (lent_by c.args.lent) k.words k.heads c.known.ensures k.bytes) c.rules_ok.ensures
