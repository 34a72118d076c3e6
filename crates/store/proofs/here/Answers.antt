-- `here` meets its contract: the states that a store shows have its current directory.
-- Assumes nothing.
use mathlib.Core.Path.{refl, subst}
use Rattle.model.specs.Tree.{Path}
use Rattle.ask_entry.specs.Reads.{PathIs}
use Rattle.store.proofs.here.Goals as goal

pub returns : goal.returns
returns c = λ st s h. subst (λ (p : Path). PathIs p c.current.result.now) h.alike.current (c.current.ensures _ refl refl h.roomy.lawful)
