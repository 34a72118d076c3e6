-- `bytes_total` meets its contract.
-- Assumes nothing.
use native.Mathlib.Omega.{arith}
use Rattle.lawful.proofs.Sums.{few_bytes}
use Rattle.lawful.proofs.held.bytes_total.Goals as goal

pub total_of-requires : goal.total_of-requires
total_of-requires c = let h = c.args.heads.now in omega (arith, few_bytes h)

pub returns : goal.returns
returns c = let h = c.args.heads.now in (c.total_of.ensures, omega (arith, few_bytes h))
