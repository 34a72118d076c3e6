-- `stat` meets its contract: the store answers as each state that it shows.
-- Assumes nothing.
use mathlib.Core.Path.{refl, sym, ◌∙◌}
use Rattle.model.specs.Prog.{stat?}
use Rattle.store.proofs.Asked.{told}
use Rattle.store.proofs.stat.Goals as goal

pub returns : goal.returns
returns c = λ st s h p a. sym (told _ s h (stat? p)) ∙ c.entry_stat.ensures _ refl (sym c.in_use.ensures) refl h.roomy.lawful p a
