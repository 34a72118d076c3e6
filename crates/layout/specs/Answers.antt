-- What a call over lent slices answers and leaves: one contract for every exported function, which cites it with its call.
-- Assumes nothing.
use Rattle.std.specs.Prelude.{◌≡◌, ℕ, length}
use Rattle.text.specs.Utf8.{Bytes}
use Rattle.model.specs.Refusals.{bad_store}
use Rattle.model.specs.Calls.States.{State}
use Rattle.model.specs.Calls.Calling.{Op, Call}
use Rattle.model.specs.Calls.Performing.{result_number, perform}
use Rattle.model.specs.Alike.{Alike}
use Rattle.model.specs.Buffers.{Outputs, outputs_after, cleared}
use Rattle.layout.specs.Store.{Store, most, room, state, core, spare}
use Rattle.layout.specs.Lawful.{Passes}

-- what is read back of the slices as they are lent
abbrev pub read_back : Store → State
read_back st = state (core st)

-- a call with all that it is lent but the store: what it answers in, and its two working buffers
pub record Lent : Type 0 where
  pub op : Op
  pub outputs : Outputs
  pub first : Bytes
  pub second : Bytes

-- the call that it is: its working buffers have these lengths
abbrev pub call_of : Lent → Call
call_of l = record { work = record { first = length l.first; second = length l.second }; op = l.op }

-- slices that pass: number, answer and link count are the model's, the slices left pass, and what is read back of them is what the
-- model leaves, file numbers apart; what is behind the limits is as it was
pub record Carried (l : Lent) (st after : Store) (out : Outputs) (r : ℕ) : Type 0 where
  pub number : r ≡ result_number (perform (call_of l) (read_back st)).result
  pub answer : out ≡ outputs_after (perform (call_of l) (read_back st)).result l.outputs
  pub passes : Passes after
  pub spells : Alike (read_back after) (perform (call_of l) (read_back st)).after
  pub behind : spare (most st) (room st) after ≡ spare (most st) (room st) st

-- slices that do not: 1, and nothing of them and of the outputs is changed
pub record Broken (l : Lent) (st after : Store) (out : Outputs) (r : ℕ) : Type 0 where
  pub number : r ≡ bad_store
  pub store : after ≡ st
  pub answer : out ≡ l.outputs

-- the call, whatever it is lent; its working buffers are zero over their whole length, always
pub record Answers (l : Lent) (st after : Store) (out : Outputs) (first second : Bytes) (r : ℕ) : Type 0 where
  pub passing : Passes st → Carried l st after out r
  pub broken : (Passes st → ⊥) → Broken l st after out r
  pub first_cleared : first ≡ cleared l.first
  pub second_cleared : second ≡ cleared l.second
