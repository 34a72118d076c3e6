-- The operations by file number (01, "Operations"). That the number is open was tested before (4).
-- Assumes nothing.
use Rattle.std.specs.Prelude.{◌&&◌, [], ◌++◌, ℕ, zero, suc, ◌+◌, ◌-◌, ◌%◌, ◌^◌, leb, ltb, length, drop, replicate, take as prefix}
use Rattle.std.proofs.Math.Option.{Option, none, some}
use Rattle.text.specs.Utf8.{Bytes}
use Rattle.model.specs.Refusals.{bad_seek}
use Rattle.model.specs.Tree.{Time, resize, chmod, touch_some}
use Rattle.model.specs.Prog.{Position, open?, held?, close, seek, change_held, Prog, ret, asks, edits, ◌>>=◌, ◌>>◌, need}
use Rattle.model.specs.Lookup.{text_or}
use Rattle.model.specs.Operations.Steps.{Reply, plain_reply, number_reply, bytes_reply}
use Rattle.model.specs.Operations.Shows.{metadata_at}

-- the position of a number, which is open where it is asked for
abbrev pub position_or : Option Position → Position
position_or none = record { pos = 0; kept = [] }
position_or (some o) = o

-- "close"
unfoldable pub close_on : (number : ℕ) → Prog Reply
close_on n = do
  edits (close n)
  ret (plain_reply 0)

-- ---- read

-- "read by file number fills what it can"; "A read past the end gives 0"
unfoldable pub read_part : Position → (contents : Bytes) → (lent : ℕ) → Bytes
read_part o s lent = prefix lent (drop o.pos s)

-- "read": from the position on, which moves behind what was read
unfoldable pub read_on : (number lent : ℕ) → Prog Reply
read_on n lent = do
  o ← asks (open? n)
  s ← asks (held? n)
  edits (seek n ((position_or o).pos + length (read_part (position_or o) (text_or s) lent)))
  ret (bytes_reply (read_part (position_or o) (text_or s) lent) 0)

-- ---- seek

-- the exact sum of a length and an offset, and 2^63: an offset of 2^63 or more stands for itself less 2^64
abbrev pub sum_above : (size offset : ℕ) → ℕ
sum_above size offset = size + (offset + 2 ^ 63) % 2 ^ 64

-- 13: "Seek from the end whose exact sum is below 0 or above 2^63 − 1"
unfoldable pub from_end : (size offset : ℕ) → Prog ℕ
from_end size offset = do
  need (leb (2 ^ 63) (sum_above size offset) && ltb (sum_above size offset) (2 ^ 64)) bad_seek
  ret (sum_above size offset - 2 ^ 63)

-- where a seek leads: origin 0 is the start, 1 the current position ("wraps at 2^64"), any other number the end
unfoldable pub seek_from : (origin offset pos size : ℕ) → Prog ℕ
seek_from zero offset pos size = ret offset
seek_from (suc zero) offset pos size = ret ((pos + offset) % 2 ^ 64)
seek_from (suc (suc k)) offset pos size = from_end size offset

-- "seek" answers the new position
unfoldable pub seek_on : (number origin offset : ℕ) → Prog Reply
seek_on n origin offset = do
  o ← asks (open? n)
  s ← asks (held? n)
  k ← seek_from origin offset (position_or o).pos (length (text_or s))
  edits (seek n k)
  ret (number_reply k 0)

-- ---- length, mode, times, metadata

-- "set length (zeros, no time changed)"
unfoldable pub resized : (size : ℕ) → (contents : Bytes) → Bytes
resized k s = prefix k s ++ replicate (k - length s) 0

-- "set length": of the file that the number stands on
unfoldable pub set_length_on : (number size : ℕ) → Prog Reply
set_length_on n k = do
  s ← asks (held? n)
  edits (change_held n (resize (resized k (text_or s))))
  ret (plain_reply 0)

-- "set mode"
unfoldable pub set_mode_on : (number mode : ℕ) → Prog Reply
set_mode_on n m = do
  edits (change_held n (chmod m))
  ret (plain_reply 0)

-- "set times (each optional)"
unfoldable pub set_times_on : (number : ℕ) → (accessed modified : Option Time) → Prog Reply
set_times_on n a m = do
  edits (change_held n (touch_some a m))
  ret (plain_reply 0)

-- "Metadata looks up the resolved path kept at open, not the file"
unfoldable pub metadata_on : (bound number lent : ℕ) → Prog Reply
metadata_on b n lent = do
  o ← asks (open? n)
  metadata_at b lent (position_or o).kept
