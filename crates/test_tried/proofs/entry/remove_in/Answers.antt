-- `remove_in` meets its contract: what is left is a store.
-- Assumes nothing.
use Rattle.test_tried.proofs.Asking.{stored, roomy-again}
use Rattle.test_tried.proofs.entry.remove_in.Goals as goal

pub release-requires : goal.release-requires
release-requires c =
    let a = c.args in
    let x = c.remove_exact-gone in
    let y = roomy-again c.requires x.auto.heads x.auto.records x.ensures in
    (stored y, y)

pub returns : goal.returns
returns c =
    let a = c.args in
    let x = c.remove_exact-gone in
    let y = roomy-again c.requires x.auto.heads x.auto.records x.ensures in
    (c.release.ensures (stored y) y).resized.roomy
