-- `go` meets its contract: the edit spells the edited state of the one that is read back, so the store shows it of every other.
-- Assumes nothing.
use mathlib.Core.List.{[], ◌∷◌}
use mathlib.Core.Path.{refl}
use Rattle.path.specs.Path.{names}
use Rattle.model.specs.Prog.{go}
use Rattle.store_edit.proofs.Carrying.{trimmed, shows_same}
use Rattle.store_edit.proofs.state.go.Goals as goal

pub returns : goal.returns
returns c st s h = shows_same (go (names c.args.path.now) ∷ []) h (c.set_current.ensures (trimmed h) h.roomy.lawful) refl refl
