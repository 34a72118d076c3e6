-- `held` meets its contract: the store answers as each state that it shows.
-- Assumes nothing.
use mathlib.Core.Path.{refl, sym, ◌∙◌}
use Rattle.model.specs.Prog.{open?, held?}
use Rattle.store.proofs.Asked.{told}
use Rattle.store.proofs.held.Goals as goal

pub returns : goal.returns
returns c =
    λ st s h o e.
    let n = c.args.n in
    sym (told _ s h (held? n)) ∙ c.held_bytes.ensures _ refl (sym c.in_use.ensures) refl h.roomy.lawful o (told _ s h (open? n) ∙ e)
