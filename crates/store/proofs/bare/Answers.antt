-- `bare` meets its contract: the store answers as each state that it shows.
-- Assumes nothing.
use mathlib.Core.Path.{sym, ◌∙◌}
use Rattle.model.specs.Prog.{bare?}
use Rattle.store.proofs.Asked.{told}
use Rattle.store.proofs.Listed.{placed_live}
use Rattle.store.proofs.bare.Goals as goal

pub is_bare-requires : goal.is_bare-requires
is_bare-requires c = placed_live c.live.ensures c.requires

pub returns : goal.returns
returns c = λ st s h p a. sym (told _ s h (bare? p)) ∙ sym (c.is_bare.ensures _ (sym c.live.ensures) h.roomy.lawful p a)
