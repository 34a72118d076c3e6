-- `way_to` meets its contract: the place is vacant, and outside of the entry's records.
-- Assumes nothing.
use mathlib.Core.Path.{refl}
use Rattle.std.proofs.Common.{arith}
use Rattle.std.proofs.lemmas.Bool.Decides.{nat_tests}
use Rattle.ask_find.proofs.Blocks.{block-live}
use Rattle.test_tried.proofs.Asking.{kept}
use Rattle.test_tried.proofs.Ways.{movable}
use Rattle.test_tried.proofs.moved.way_to.Goals as goal

pub returns : goal.returns
returns c =
    let m = c.may_rename.ensures c.if-not-may_rename.false in
    movable c.requires m (block-live (kept c.requires) refl m.last c.block_end-end.ensures) (λ u v. let x = c.if-contains.ensures.cases in grind (arith, nat_tests)) c.in_ok-gap.ensures refl
