-- `child` meets its contract: what is found or missing in the store is so in each state that it shows.
-- Assumes nothing.
use mathlib.Core.Path.{refl, sym}
use Rattle.ask_find.specs.Spots.{hidden_at}
use Rattle.store.proofs.Looking.{child-told}
use Rattle.store.proofs.child.Goals as goal

pub returns : goal.returns
returns c = λ st s h p w a y e. child-told h (hidden_at c.args.hidden) w p c.args.name.now c.child.result y e (λ t d k. c.child.ensures _ (sym c.live.ensures) refl h.roomy.lawful p t a d k)
