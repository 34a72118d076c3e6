-- What an operation comes to over the parts of the slices that the limits ask, behind the tests of 1, 14, 2, 3 and 4.
-- Assumes nothing.
use Rattle.std.specs.Prelude.{◌≡◌, ℕ}
use Rattle.model.specs.Prog.{Prog, run}
use Rattle.model.specs.Operations.Steps.{Reply}
use Rattle.model.specs.Calls.States.{State, world_of}
use Rattle.model.specs.Calls.Performing.{result_number, Outcome, settle}
use Rattle.model.specs.Buffers.{Outputs, outputs_after}
use Rattle.layout.specs.Store.{Store}
use Rattle.layout.specs.Lawful.{Passes}
use Rattle.layout.specs.Lent.{Lending}
use Rattle.layout.specs.Answers.{Lent, Carried, Broken}
use Rattle.store.specs.Shows.{Shows}

-- what the model's program comes to in the state, 15 and 16 included
abbrev pub settled : Prog Reply → State → Outcome
settled p s = settle s (run p (world_of s))

-- number and outputs are the model's, and the store shows what the model leaves
pub record Does (p : Prog Reply) (s : State) (left : Store) (outputs after : Outputs) (r : ℕ) : Type 0 where
  pub number : r ≡ result_number (settled p s).result
  pub answer : after ≡ outputs_after (settled p s).result outputs
  pub shows : Shows left (settled p s).after

-- of every store that has the slices, and of every state that it shows
abbrev pub Answered : Lending → (State → Prog Reply) → (outputs after : Outputs) → ℕ → Type 0
Answered l p outputs after r = (st : Store) (s : State) → Shows (l.had st) s → Does (p s) s (l.has st) outputs after r

-- a whole call, before its working buffers are cleared
pub record Done (l : Lent) (st after : Store) (out : Outputs) (r : ℕ) : Type 0 where
  pub passing : Passes st → Carried l st after out r
  pub broken : (Passes st → ⊥) → Broken l st after out r
