-- `whole` meets its contract: the bound is the number of links, of which a tree has at most as many as entries.
-- Assumes nothing.
use native.Mathlib.Omega.{arith}
use Rattle.layout.specs.Lent.{with_bytes}
use Rattle.op.proofs.Leading.{links-few}
use Rattle.op.proofs.at.whole.Goals as goal

pub links-requires : goal.links-requires
links-requires c = let p = c.requires in (with_bytes c.args.tree.bytes.now p.0, p.1, p.2)

pub invariant_of-result-clause-few : goal.invariant_of-result-clause-few
invariant_of-result-clause-few c = let p = c.requires in omega (arith, links-few _ p.1 p.2, c.links.ensures (with_bytes c.args.tree.bytes.now p.0) p.1 p.2)

pub returns-clause-bound : goal.returns-clause-bound
returns-clause-bound c = λ st s h. c.links.ensures (with_bytes c.args.tree.bytes.now st) s h
