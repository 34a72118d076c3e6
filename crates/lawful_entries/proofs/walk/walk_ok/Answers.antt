-- `walk_ok` meets its contract: the root, and what is below it.
-- Assumes nothing.
use mathlib.Core.Path.{sym, ◌∙◌}
use native.Mathlib.Omega.{arith}
use lib.ListN.{length}
use Rattle.lawful_entries.specs.Fits.{kind_in}
use Rattle.lawful_entries.proofs.Walking.{root_none, root-bad, root_on, root-total}
use Rattle.lawful_entries.proofs.walk.walk_ok.Goals as goal

pub walk_below-requires : goal.walk_below-requires
walk_below-requires c =
    let e = c.in-Some.ensures.cases in
    (omega arith, root-total _ _ c.args.bytes.now (rw e.0 at c.requires.0), c.requires.2)

pub returns-then-root_ok : goal.returns-then-root_ok
returns-then-root_ok c =
    let a = c.args in let e = c.in-Some.ensures.cases in
    c.walk_below.ensures ∙ rw e.0 (root_on (kind_in a.heads.now) (length a.heads.now) _ _ a.bytes.now (rw e.0 at c.requires.0) (sym c.if-root_ok.ensures))

pub returns-else-root_ok : goal.returns-else-root_ok
returns-else-root_ok c =
    let a = c.args in let e = c.in-Some.ensures.cases in
    c.if-root_ok.false ∙ rw e.0 (root-bad (kind_in a.heads.now) (length a.heads.now) _ _ a.bytes.now (rw e.0 at c.requires.0) (sym c.if-root_ok.ensures))

pub returns-in-None : goal.returns-in-None
returns-in-None c = root_none (kind_in c.args.heads.now) (length c.args.heads.now) c.args.recs.now c.args.bytes.now c.in-None.ensures.cases
