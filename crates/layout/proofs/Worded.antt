-- A word gives back the fields that it was made of: each is below the next one's weight.
-- Assumes nothing.
use mathlib.Core.Path.{◌≡◌}
use Prim.Native.Nat.{ℕ, ◌<◌, ◌^◌}
use native.Mathlib.Omega.{arith}
use Rattle.layout.specs.Fields.{depth_of, nlen_of, slot_of, record_word, len_of, kind_of, mode_of, head_word}

-- ---- the word of a slot

module _ (n k m : ℕ) (a : n < 16777216) (b : k < 256) where
  pub head-length : len_of (head_word n k m) ≡ n
  head-length = omega arith

  pub head-kind : kind_of (head_word n k m) ≡ k
  head-kind = omega arith

  pub head-mode : mode_of (head_word n k m) ≡ m
  head-mode = omega arith

  pub head_small : m < 2 ^ 32 → head_word n k m < 2 ^ 64
  head_small c = omega arith

-- ---- the word of a record

module _ (d n s : ℕ) (a : d < 65536) (b : n < 256) where
  pub record-depth : depth_of (record_word d n s) ≡ d
  record-depth = omega arith

  pub record-name : nlen_of (record_word d n s) ≡ n
  record-name = omega arith

  pub record-slot : slot_of (record_word d n s) ≡ s
  record-slot = omega arith

  pub record-small : s < 65536 → record_word d n s < 2 ^ 64
  record-small c = omega arith
