-- `names_total` meets its contract.
-- Assumes nothing.
use native.Mathlib.Omega.{arith}
use Rattle.layout.proofs.Named.{few_names}
use Rattle.lawful.proofs.held.names_total.Goals as goal

pub returns : goal.returns
returns c = (c.names_of.ensures, omega (arith, few_names c.args.recs.now))
