-- What is tested before a call does anything, and the path that it is given, made absolute.
-- Assumes nothing.
use Rattle.std.specs.Prelude.{Bool, true, false, List, map, ◌≡◌, ℕ, Option, Some, None, Result, Err}
use denote.Ref.{Bor}
use Rattle.text.specs.Utf8.{Bytes}
use Rattle.path.specs.Answer.{Formed}
use Rattle.model.specs.Prog.{run}
use Rattle.model.specs.Operations.Steps.{to_absolute}
use Rattle.model.specs.Calls.States.{State, world_of}
use Rattle.model.specs.Calls.Calling as model
use Rattle.model.specs.Calls.Calling.{Given, screen}
use Rattle.refusal.specs.Numbers.{answered}
use Rattle.refusal.specs.declared.Refusal.{Refusal}
use Rattle.refusal.specs.declared.Refusal.TheVariants.{BadStore}
use Rattle.layout.specs.Store.{Store}
use Rattle.layout.specs.Lawful.{Passes}
use Rattle.layout.specs.Answers.{read_back}
use Rattle.walk.specs.Lookups.{behind, Kept}
use Rattle.op.specs.declared.ready.Number.{Number}
use Rattle.op.specs.declared.ready.Number.TheVariants as number

-- the bytes of each text
abbrev pub texts_of : List (Bor Bytes) → List Bytes
texts_of ts = map (λ t. t.now) ts

-- the working buffers that a call is lent, by their lengths
abbrev pub Work : Type 0
Work = Option (ℕ × ℕ)

-- the same in the model
abbrev pub work_of : Work → model.Work
work_of None = record { first = 0; second = 0 }
work_of (Some w) = record { first = w.0; second = w.1 }

-- a call that walks a path is lent them
abbrev pub walks : Work → Bool
walks None = false
walks (Some w) = true

-- the file number
abbrev pub number_of : Number → model.Number
number_of number.NotGiven = model.no_number
number_of (number.Free n) = model.free n
number_of (number.Opened n) = model.opened n

-- what a call is given
abbrev pub given_by : Work → List Bytes → Number → Given
given_by w ts n = record { walks = walks w; texts = ts; number = number_of n }

-- the first of 14, 2, 3, 4 that applies in the state, or 0
abbrev pub screen_of : Work → List Bytes → Number → State → ℕ
screen_of w ts n s = screen (work_of w) (given_by w ts n) s.opens

-- 1, or the first of 14, 2, 3, 4 that applies, or 0
pub data Tested (st : Store) (w : Work) (ts : List Bytes) (n : Number) (r : Result Unit Refusal) : Type 0 where
  broken : (Passes st → ⊥) → r ≡ Err BadStore → Tested st w ts n r
  passing : Passes st → answered r ≡ screen_of w ts n (read_back st) → Tested st w ts n r

-- the given path, made absolute, stands in front of the buffer; or 6
pub record AbsoluteIs (s : State) (path out : Bytes) (r : Formed) : Type 0 where
  pub answer : run (to_absolute path) (world_of s) ≡ behind (world_of s) out r
  pub kept : Kept out r
