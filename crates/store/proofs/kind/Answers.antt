-- `kind` meets its contract: the store answers as each state that it shows.
-- Assumes nothing.
use mathlib.Core.Path.{refl, sym, ◌∙◌}
use Rattle.model.specs.Prog.{kind?}
use Rattle.store.proofs.Asked.{told}
use Rattle.store.proofs.kind.Goals as goal

pub returns : goal.returns
returns c = λ st s h p a. sym (told _ s h (kind? p)) ∙ c.entry_kind.ensures _ refl (sym c.in_use.ensures) h.roomy.lawful p a
