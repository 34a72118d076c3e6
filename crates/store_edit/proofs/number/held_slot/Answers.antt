-- `held_slot` meets its contract: a number that is open is found.
-- Assumes nothing.
use mathlib.Core.Path.{refl, subst}
use Rattle.ask_entry.specs.Reads.{NumberIs}
use Rattle.store_edit.proofs.Carrying.{trimmed}
use Rattle.store_edit.proofs.Entering.{found-open, open_at}
use Rattle.store_edit.proofs.number.held_slot.Goals as goal

pub unwrap-requires : goal.unwrap-requires
unwrap-requires c = let q = c.requires in found-open q.2 _ q.3 _ (c.number_at.ensures (trimmed q.2) refl q.2.roomy.lawful)

pub returns : goal.returns
returns c =
    let q = c.requires in
    ((open_at _ _ q.2 _ q.3).0, (subst (NumberIs (trimmed q.2) c.args.n) c.unwrap.ensures (c.number_at.ensures (trimmed q.2) refl q.2.roomy.lawful)).0)
