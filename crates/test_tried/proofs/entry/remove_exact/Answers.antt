-- `remove_exact` asks what the edit asks, and the edit leaves a lawful store.
-- Assumes nothing.
use mathlib.Core.Path.{refl}
use native.Mathlib.Omega.{arith}
use Prim.Native.Nat.{◌<◌}
use Rattle.layout.specs.Store.{count}
use Rattle.ask_find.proofs.Blocks.{block-live}
use Rattle.store_edit.proofs.Blocks.{block_of}
use Rattle.test_tried.proofs.Asking.{kept}
use Rattle.test_tried.proofs.entry.remove_exact.Goals as goal

pub remove_entry-requires : goal.remove_entry-requires
remove_entry-requires c =
    let l = c.requires in
    let h : c.args.i < count (kept l) = omega (arith, c.if-count-i.false) in
    (kept l, l, block_of (kept l) l c.args.i _ h (omega (arith, c.if-i-eq0.false)) (block-live (kept l) refl h c.block_end-e.ensures))

pub returns : goal.returns
returns c = (c.remove_entry.ensures (kept c.requires) c.requires _ refl).spells.lawful
