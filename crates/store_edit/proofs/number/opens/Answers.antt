-- `opens` meets its contract: the slot of the entry is that of the file on which the number is opened.
-- Assumes nothing.
use mathlib.Core.List.{[], ◌∷◌}
use mathlib.Core.Option.{some}
use mathlib.Core.Path.{refl, sym, ap, ◌∙◌}
use Prim.Native.Nat.{ℕ}
use native.Mathlib.Omega.{arith}
use Rattle.model.specs.Tree.{file, look}
use Rattle.model.specs.Prog.{opens}
use Rattle.store_edit.proofs.Carrying.{trimmed, shows_same}
use Rattle.store_edit.proofs.Entering.{slot-few, spot-look, closed_at, same_opens}
use Rattle.store_edit.proofs.number.opens.Goals as goal

pub open_number-requires : goal.open_number-requires
open_number-requires c = let q = c.requires in let l = q.0.2.roomy.lawful in (l.exact.words, l.exact.paths, q.1, q.2, omega (arith, c.slot_of.ensures, slot-few q.0.2 q.0.3.1))

pub returns : goal.returns
returns c st s p h a m =
    let g = c.args in
    let e = spot-look h a m.is_file ∙ ap (λ (k : ℕ). some (file k)) (sym c.slot_of.ensures) in
    shows_same (opens g.n p g.pos ∷ []) h
    (same_opens g.n g.pos _ m.kept (c.open_number.ensures (trimmed h) h.roomy.lawful (record { closed = closed_at _ s h g.n c.requires.2 m.closed; is_file = ap (look _) m.kept ∙ e }))) refl refl
