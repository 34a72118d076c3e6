-- `chmod` meets its contract: the edit spells the changed state of the one that is read back, so the store shows it of every other.
-- Assumes nothing.
use mathlib.Core.List.{[], ◌∷◌}
use mathlib.Core.Path.{refl}
use native.Mathlib.Omega.{arith}
use Rattle.model.specs.Tree.{chmod}
use Rattle.model.specs.Prog.{change}
use Rattle.store_edit.proofs.Carrying.{trimmed, shows_whole}
use Rattle.store_edit.proofs.Entering.{spot-slot, spot_has}
use Rattle.store_edit.proofs.slot.chmod.Goals as goal

pub set_mode-requires : goal.set_mode-requires
set_mode-requires c = let q = c.requires in omega (arith, c.slot_of-slot.ensures, spot-slot q.3 q.4)

pub returns : goal.returns
returns c st s p h a =
    let x = c.set_mode in
    shows_whole (change p (chmod c.args.m) ∷ []) h ((x.ensures (trimmed h) h.roomy.lawful).by_name p (spot_has h a c.slot_of-slot.ensures)) x.auto.heads refl
