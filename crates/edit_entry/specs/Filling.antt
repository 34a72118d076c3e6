-- A slot filled: its word, its times and its bytes.
-- Assumes nothing.
use Rattle.std.specs.Prelude.{List, ◌≡◌, ℕ, ◌+◌, ◌≤◌, ℤ, length, take, set}
use Rattle.text.specs.Utf8.{Bytes}
use Rattle.layout.specs.Fields.{head_word}
use Rattle.layout.specs.Slots.{total, contents}
use Rattle.layout.specs.Kinds.{code_of}
use Rattle.slots.specs.Times.{times_set}
use Rattle.edit_entry.specs.declared.made.Fresh.{Fresh}
use Rattle.edit_entry.specs.declared.made.Made.{Made}
use Rattle.edit_entry.specs.Made.{kind_made, bytes_made}

-- its word
abbrev pub head_made : Made → Fresh → ℕ
head_made made new = head_word (length (bytes_made made)) (code_of (kind_made made)) new.mode

-- slot s, which was free, is the new entry's
pub record Filled (hs : List ℕ) (ts : List ℤ) (bs : Bytes) (hs' : List ℕ) (ts' : List ℤ) (bs' : Bytes) (s : ℕ) (made : Made) (new : Fresh) : Type 0 where
  pub heads : hs' ≡ set hs s (head_made made new)
  pub times : ts' ≡ times_set ts s new.time new.time
  pub texts : contents hs' bs' ≡ set (contents hs bs) s (bytes_made made)
  pub rest : (n : ℕ) → n + total hs + length (bytes_made made) ≤ length bs → take n bs' ≡ take n bs
  pub long : length bs' ≡ length bs
