-- What is read back of a store beside the calls of a job ("To the testers": "the tree, open files, current directory, umask and limits
-- read back"): each is answered like a call, 1 and 14, and changes nothing.
-- Assumes nothing.
use Rattle.std.specs.Prelude.{List, [], ◌∷◌, ◌≡◌, ℕ, ◌≤◌, ◌<◌, length}
use Rattle.std.proofs.Math.Option.{none, some}
use Rattle.text.specs.Utf8.{Bytes}
use Rattle.path.specs.Path.{render}
use Rattle.model.specs.Refusals.{bad_store, bad_number, short_buffer}
use Rattle.model.specs.Prog.{Position, open?}
use Rattle.model.specs.Calls.States.{State, entries_used, bytes_used}
use Rattle.model.specs.Buffers.{in_front}
use Rattle.layout.specs.Store.{Store}
use Rattle.layout.specs.Lawful.{Passes}
use Rattle.layout.specs.Answers.{read_back}
use Rattle.store.specs.Shows.{says}
use Rattle.op.specs.Lending.{PutIs}

-- 1 where the slices do not pass, and what is answered in is as it was; else what is told of the state that is read back
pub record Told (st : Store) (tells : State → Type 0) (asWas : Type 0) (r : ℕ) : Type 0 where
  pub passing : Passes st → tells (read_back st)
  pub broken : (Passes st → ⊥) → (r ≡ bad_store) × asWas

-- the current directory's path, as it is shown
abbrev pub HereIs : Bytes → ℕ → Bytes → ℕ → ℕ → State → Type 0
HereIs out number outAfter numberAfter r s = PutIs (render s.here) out number outAfter numberAfter r

-- umask, entry limit, byte limit, entries used, bytes used
abbrev pub usage_of : State → List ℕ
usage_of s = s.mask ∷ s.most ∷ s.room ∷ entries_used s ∷ bytes_used s ∷ []

-- they stand in front, the rest as it was; or 14
pub data UsageIs (numbers after : List ℕ) (r : ℕ) (s : State) : Type 0 where
  put : 5 ≤ length numbers → after ≡ in_front (usage_of s) numbers → r ≡ 0 → UsageIs numbers after r s
  short : length numbers < 5 → after ≡ numbers → r ≡ short_buffer → UsageIs numbers after r s

-- what a file number is lent to answer in
pub record Slot : Type 0 where
  pub out : Bytes
  pub position : ℕ
  pub size : ℕ

-- as it is lent
abbrev pub in_slot : Bytes → (position size : ℕ) → Slot
in_slot out position size = record { out = out; position = position; size = size }

-- a number that is closed: 4; an open one: its position, and the path kept at open as it is shown; or 14
pub data NumberIs (n : ℕ) (o after : Slot) (r : ℕ) (s : State) : Type 0 where
  closed : says (open? n) s ≡ none → after ≡ o → r ≡ bad_number → NumberIs n o after r s
  opened : (p : Position) → says (open? n) s ≡ some p → length (render p.kept) ≤ length o.out
      → after ≡ in_slot (in_front (render p.kept) o.out) p.pos (length (render p.kept)) → r ≡ 0 → NumberIs n o after r s
  short : (p : Position) → says (open? n) s ≡ some p → length o.out < length (render p.kept) → after ≡ o → r ≡ short_buffer → NumberIs n o after r s
