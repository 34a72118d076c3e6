-- `kept` meets its contract: the store answers as each state that it shows.
-- Assumes nothing.
use mathlib.Core.Path.{refl, ◌∙◌}
use Rattle.model.specs.Prog.{open?}
use Rattle.store.proofs.Asked.{told}
use Rattle.store.proofs.kept.Goals as goal

pub returns : goal.returns
returns c = λ st s h o e. c.kept_path.ensures _ refl refl h.roomy.lawful o (told _ s h (open? c.args.n) ∙ e)
