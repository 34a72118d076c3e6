-- `touch` meets its contract: the edit spells the changed state of the one that is read back, so the store shows it of every other.
-- Assumes nothing.
use mathlib.Core.List.{[], ◌∷◌}
use mathlib.Core.Path.{refl}
use native.Mathlib.Omega.{arith}
use mir.Syntax.{w64}
use mir.ValLaws.{to_z-of_z}
use Rattle.model.specs.Tree.{touch}
use Rattle.model.specs.Prog.{change}
use Rattle.store_edit.proofs.Carrying.{trimmed, shows_same}
use Rattle.store_edit.proofs.Entering.{spot-slot, spot-times, spot_has, same_change}
use Rattle.store_edit.proofs.slot.touch.Goals as goal

pub set_times-requires : goal.set_times-requires
set_times-requires c = let q = c.requires in omega (arith, c.slot_of.ensures, spot-times q.3 q.4)

pub returns : goal.returns
returns c st s p h a =
    let g = c.args in
    let k = c.slot_of.ensures in
    shows_same (change p (touch g.a g.t) ∷ []) h
    ((same_change (λ z. touch (to_z-of_z w64 g.a c.ranges.a z) (to_z-of_z w64 g.t c.ranges.t z))
    (c.set_times.ensures (trimmed h) h.roomy.lawful (omega (arith, k, spot-slot h a)))).by_name p (spot_has h a k)) refl refl
