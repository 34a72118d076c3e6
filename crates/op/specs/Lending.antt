-- What calls are lent to answer in: bytes, a row of numbers, a number, the link count. What a call is not lent is empty or 0.
-- Assumes nothing.
use Rattle.std.specs.Prelude.{List, [], ◌≡◌, ℕ, ◌≤◌, ◌<◌, ℤ, length}
use Rattle.text.specs.Utf8.{Bytes}
use Rattle.model.specs.Refusals.{short_buffer}
use Rattle.model.specs.Calls.Calling.{Op}
use Rattle.model.specs.Buffers.{Outputs, in_front}
use Rattle.layout.specs.Answers.{Lent}

-- bytes, with a number for how many were written, and the link count
abbrev pub in_bytes : Bytes → (number link_count : ℕ) → Outputs
in_bytes out number link_count = record { out = out; rows = []; number = number; link_count = link_count }

-- bytes and a row of numbers
abbrev pub in_both : Bytes → List ℤ → (number link_count : ℕ) → Outputs
in_both out rows number link_count = record { out = out; rows = rows; number = number; link_count = link_count }

-- a row of numbers and the link count
abbrev pub in_rows : List ℤ → (link_count : ℕ) → Outputs
in_rows rows link_count = record { out = []; rows = rows; number = 0; link_count = link_count }

-- the link count alone
abbrev pub in_links : (link_count : ℕ) → Outputs
in_links link_count = in_rows [] link_count

-- a number alone
abbrev pub in_number : (number : ℕ) → Outputs
in_number number = in_bytes [] number 0

-- nothing
abbrev pub in_nothing : Outputs
in_nothing = in_number 0

-- a call with all that it is lent but the store
abbrev pub call_with : Op → Outputs → (first second : Bytes) → Lent
call_with op outputs first second = record { op = op; outputs = outputs; first = first; second = second }

-- ---- bytes as an answer

-- they fit: they stand in front, the rest as it was, and the number is how many; or 14, and nothing is changed
pub data PutIs (s out : Bytes) (number : ℕ) (outAfter : Bytes) (numberAfter r : ℕ) : Type 0 where
  put : length s ≤ length out → outAfter ≡ in_front s out → numberAfter ≡ length s → r ≡ 0 → PutIs s out number outAfter numberAfter r
  short : length out < length s → outAfter ≡ out → numberAfter ≡ number → r ≡ short_buffer → PutIs s out number outAfter numberAfter r
