-- `contents` meets its contract: the store answers as each state that it shows.
-- Assumes nothing.
use mathlib.Core.Path.{refl, sym}
use Rattle.store.proofs.Asked.{contents-told}
use Rattle.store.proofs.contents.Goals as goal

pub returns : goal.returns
returns c = λ st s h p a. contents-told h (c.entry_contents.ensures _ refl (sym c.in_use.ensures) refl h.roomy.lawful p a)
