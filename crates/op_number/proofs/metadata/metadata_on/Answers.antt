-- `metadata_on` meets its contract: the kept path stands in front of the working buffer, and metadata is asked there.
-- Assumes nothing.
use Prim.Native.Nat.{◌≤◌}
use lib.ListN.{length}
use Rattle.std.proofs.Common.{refl, arith}
use Rattle.model.specs.Calls.States.{world_of}
use Rattle.edit_state.proofs.Cells.{cell-fits}
use Rattle.layout.specs.Lent.{lent_by}
use Rattle.op.proofs.Calling.{same_run}
use Rattle.op.proofs.Cutting.{shows_as, with-times-too}
use Rattle.op.proofs.Doing.{does-left}
use Rattle.op_number.proofs.Keeping.{kept_in_lem, kept_run}
use Rattle.op_number.proofs.metadata.metadata_on.Goals.{After-kept-kept}
use Rattle.op_number.proofs.metadata.metadata_on.Goals as goal

-- the kept path fits into the working buffer
fits : (c : After-kept-kept) → length c.kept-kept.result.now ≤ length c.args.work.now
fits c = let p = c.requires.0 in omega (arith, cell-fits _ (c.kept-kept.ensures (lent_by c.args.lent) p.1 p.2 p.3.0 p.3.1).kept, c.requires.1)

pub copy_into-requires : goal.copy_into-requires
copy_into-requires c = omega (arith, fits (goal.at.copy_into-requires c).After-kept-kept)

pub metadata_at-requires : goal.metadata_at-requires
metadata_at-requires c =
    let p = c.requires.0 in let u = c.args.lent in (
      (lent_by u, p.1, shows_as (with-times-too u c.tree_of.ensures) p.2),
      kept_in_lem _ _ _ _ (c.kept-kept.ensures (lent_by u) p.1 p.2 p.3.0 p.3.1) c.copy_into.ensures (omega (arith, c.copy_into.auto.dst, c.requires.1)),
    )

pub returns : goal.returns
returns c =
    λ st s h o. let u = c.args.lent in let e = with-times-too u c.tree_of.ensures in
    same_run (kept_run _ _ _ _ (c.kept-kept.ensures (lent_by u) s h o.0 o.1) c.copy_into.ensures _ _ _ (world_of s) o.0 o.1 refl)
    (does-left e (c.metadata_at.ensures (lent_by u) s (shows_as e h)))
