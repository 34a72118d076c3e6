-- What a call is lent to answer in, and what that holds after the call; and the two working buffers.
-- Assumes nothing.
use Rattle.std.specs.Prelude.{List, [], ◌∷◌, ◌++◌, ℕ, ℤ, pos, length, drop, replicate}
use Rattle.text.specs.Utf8.{Bytes}
use Rattle.model.specs.Prog.{kind_number, Stat}
use Rattle.model.specs.Operations.{Reply}
use Rattle.model.specs.Calls.{Result, accepted, refusal}

-- a record of metadata as numbers: kind, size, mode, then the times accessed, changed, created, modified
abbrev pub stat_numbers : Stat → List ℤ
stat_numbers s =
    pos (kind_number s.kind) ∷ pos s.size ∷ pos s.meta.mode ∷ s.meta.accessed ∷ s.meta.changed ∷ s.meta.created ∷ s.meta.modified ∷ []

-- records, one behind the other
unfoldable pub row_numbers : List Stat → List ℤ
row_numbers [] = []
row_numbers (s ∷ ss) = stat_numbers s ++ row_numbers ss

-- what a call is lent to answer in: bytes, "a lent row of records", a number, the link count; what it is not lent is empty or 0
pub record Outputs : Type 0 where
  pub out : Bytes
  pub rows : List ℤ
  pub number : ℕ
  pub link_count : ℕ

-- in front of what was there, the rest as it was
abbrev pub in_front : {A : Type 0} → List A → List A → List A
in_front a l = a ++ drop (length a) l

-- what an accepted call leaves there
abbrev pub written : Reply → Outputs → Outputs
written r o = record { out = in_front r.out o.out; rows = in_front (row_numbers r.rows) o.rows; number = r.number; link_count = r.link_count }

-- "A refusal carries its number alone; tree, open files, current directory and every output buffer remain"
abbrev pub outputs_after : Result → Outputs → Outputs
outputs_after (accepted r) o = written r o
outputs_after (refusal n) o = o

-- the working buffers are "all zero after each call, refused or not", over their whole length
abbrev pub cleared : Bytes → Bytes
cleared s = replicate (length s) 0
