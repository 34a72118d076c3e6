-- `remove` meets its contract: the records up to the end of what lies below the entry are taken out, and free slots at the end are given
-- up.
-- Assumes nothing.
use mathlib.Core.List.{[], ◌∷◌, ◌++◌}
use Rattle.model.specs.Prog.{remove}
use Rattle.store_edit.proofs.Blocks.{block_told}
use Rattle.store_edit.proofs.Carrying.{trimmed, shows_whole, shows-released, roomy_of}
use Rattle.store_edit.proofs.Removing.{remove-block, removed-released}
use Rattle.store_edit.proofs.entry.remove.Goals as goal

pub remove_entry-requires : goal.remove_entry-requires
remove_entry-requires c =
    let q = c.requires in
    (trimmed q.2, q.2.roomy.lawful, remove-block q.2 c.args.spot q.3.0 q.3.1 q.3.2 _ (block_told q.2 q.3.2 c.live.ensures c.block_end-e.ensures))

pub release-requires : goal.release-requires
release-requires c =
    let q = c.requires in
    let x = c.remove_entry in
    let p = q.3.0 ++ (q.3.1 ∷ []) in
    roomy_of (shows_whole (remove p ∷ []) q.2 (x.ensures (trimmed q.2) q.2.roomy.lawful p q.3.2.path).spells x.auto.heads x.auto.records).roomy

pub returns : goal.returns
returns c st s d y h a =
    let x = c.remove_entry in
    let z = x.ensures (trimmed h) h.roomy.lawful (d ++ (y ∷ [])) a.path in
    let k = shows_whole (remove (d ++ (y ∷ [])) ∷ []) h z.spells x.auto.heads x.auto.records in
    record {
      shows = shows-released k c.release.ensures;
      free = removed-released h c.args.spot d y a _ (block_told h a c.live.ensures c.block_end-e.ensures) z k c.release.ensures;
    }
