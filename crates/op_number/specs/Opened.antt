-- What an operation by file number comes to, where the number is open.
-- Assumes nothing.
use Rattle.std.proofs.Math.Option.{some}
use Rattle.std.specs.Prelude.{◌≡◌, ℕ, zero, suc, Result, Ok, Err}
use Rattle.model.specs.Prog as model
use Rattle.model.specs.Prog.{World, open?, Prog, Out, done, refused, run}
use Rattle.model.specs.Operations.Numbers.{seek_from}
use Rattle.model.specs.Operations.Steps.{Reply}
use Rattle.model.specs.Calls.States.{State}
use Rattle.model.specs.Buffers.{Outputs}
use Rattle.refusal.specs.Numbers.{number_of}
use Rattle.refusal.specs.declared.Refusal.{Refusal}
use Rattle.layout.specs.Store.{Store}
use Rattle.layout.specs.Lent.{Lending}
use Rattle.store.specs.Shows.{Shows, says}
use Rattle.store_edit.specs.Turns.{SomeState, NumberOpen}
use Rattle.op.specs.Doing.{Does}
use Rattle.op_number.specs.declared.position.Origin.{Origin}
use Rattle.op_number.specs.declared.position.Origin.TheVariants.{Start, Position, End}

-- some store that has the slices shows a state in which the number is open
abbrev pub SomeOpen : (Store → Store) → ℕ → Type 0
SomeOpen has n = SomeState has (λ st s. NumberOpen n s)

-- of every store that has the slices, and of every state that it shows in which the number is open
abbrev pub OpenAnswered : Lending → (number : ℕ) → (State → Prog Reply) → (outputs after : Outputs) → ℕ → Type 0
OpenAnswered l n p outputs after r = (st : Store) (s : State) → Shows (l.had st) s → NumberOpen n s → Does (p s) s (l.has st) outputs after r

-- its position
abbrev pub PositionIs : State → ℕ → ℕ → Type 0
PositionIs s n k = (o : model.Position) → says (open? n) s ≡ some o → o.pos ≡ k

-- ---- seek

-- an origin by its number
abbrev pub origin_from : ℕ → Origin
origin_from zero = Start
origin_from (suc zero) = Position
origin_from (suc (suc n)) = End

-- the least number of an origin
abbrev pub number_from : Origin → ℕ
number_from Start = 0
number_from Position = 1
number_from End = 2

-- the run that each answer stands for
abbrev pub seeks : World → Result ℕ Refusal → Out ℕ
seeks w (Ok k) = done k w
seeks w (Err e) = refused (number_of e)

-- where the seek of a number at the position leads, in a file of that length
abbrev pub SeekIs : Origin → (offset pos size : ℕ) → Result ℕ Refusal → Type 0
SeekIs o offset pos size r = (w : World) → run (seek_from (number_from o) offset pos size) w ≡ seeks w r
