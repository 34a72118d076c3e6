-- `close_number` meets its contract. Assumes nothing.
use mathlib.Core.Path.{◌≡◌, ◌∙◌, sym, ap}
use Prim.Native.Nat.{◌+◌, ◌-◌, ◌*◌}
use native.Mathlib.Omega.{arith}
use lib.ListN.{get_or}
use Rattle.layout.specs.Lawful.{held_from}
use Rattle.layout.proofs.Held.{closed-word, open-word}
use Rattle.edit_state.proofs.Closing.{close-held, close-named, close-freed}
use Rattle.edit_state.proofs.close_number.Goals.{In-Some}
use Rattle.edit_state.proofs.close_number.Goals as goal

-- the slot by the number's word
slot : (c : In-Some) → c.in-Some.slot ≡ get_or c.args.words.now (5 + 3 * c.args.n) 0 - 1
slot c = omega (arith, open-word (get_or c.args.words.now (5 + 3 * c.args.n) 0) c.in-Some.slot c.in-Some.ensures)

pub returns-in_default : goal.returns-in_default
returns-in_default c = absurd (c.requires.2.on (closed-word _ c.in_default.ensures))

pub returns-then-is_held : goal.returns-then-is_held
returns-then-is_held c st l =
    let p = c.requires.2 in let e = slot (goal.at.returns-then-is_held c).In-Some in
    close-held _ l _ p.low p.on (sym c.if-is_held.true ∙ c.is_held.ensures ∙ ap (held_from _ 32 0) (omega arith))

pub returns-then-is_used : goal.returns-then-is_used
returns-then-is_used c st l =
    let p = c.requires.2 in let e = slot (goal.at.returns-then-is_used c).In-Some in
    close-named _ l _ p.low p.on (sym c.if-is_used.true ∙ (rw e at c.is_used.ensures))

pub returns : goal.returns
returns c st l =
    let p = c.requires.2 in let e = slot (goal.at.returns c).In-Some in
    close-freed _ l _ p.low p.on _ _ (rw e at c.clear.ensures) (sym c.if-is_held.false ∙ c.is_held.ensures ∙ ap (held_from _ 32 0) (omega arith)) (sym c.if-is_used.false ∙ (rw e at c.is_used.ensures))
