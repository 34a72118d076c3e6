-- A free slot's word, set with no bytes, then its bytes written: the word has their length.
-- Assumes nothing.
use mathlib.Core.List.{List}
use mathlib.Core.Path.{◌≡◌, sym, ap, ◌∙◌}
use Prim.Native.Nat.{ℕ, ◌+◌, ◌≤◌, ◌<◌}
use native.Mathlib.Omega.{arith}
use lib.IntN.{ℤ}
use lib.ListN.{length, get_or, set, length-set}
use lib.Seq.{get_or-set_same, set-set}
use Rattle.text.specs.Utf8.{Bytes}
use Rattle.layout.specs.Fields.{len_of, head_word}
use Rattle.layout.specs.Slots.{total}
use Rattle.slots.specs.Put.{with_len, Put}
use Rattle.slots.proofs.Contents.{total_same, contents_same}
use Rattle.slots.specs.Times.{times_set}
use Rattle.layout.specs.Kinds.{code_of}
use Rattle.edit_entry.specs.declared.made.Fresh.{Fresh}
use Rattle.edit_entry.specs.declared.made.Made.{Made}
use Rattle.edit_entry.specs.Made.{kind_made, bytes_made}
use Rattle.edit_entry.specs.Filling.{Filled}

empty-head : (k m : ℕ) → len_of (head_word 0 k m) ≡ 0
empty-head k m = omega arith

long-head : (n k m : ℕ) → with_len (head_word 0 k m) n ≡ head_word n k m
long-head n k m = omega (arith, empty-head k m)

module _ (hs : List ℕ) (s : ℕ) (made : Made) (new : Fresh) (h : ℕ) (e : h ≡ head_word 0 (code_of (kind_made made)) new.mode) (f : get_or hs s 0 ≡ 0) (w : s < length hs) where
  abbrev first : List ℕ
  first = set hs s h

  abbrev c : Bytes
  c = bytes_made made

  no_length : len_of h ≡ 0
  no_length = ap len_of e ∙ empty-head (code_of (kind_made made)) new.mode

  same_length : len_of h ≡ len_of (get_or hs s 0)
  same_length = no_length ∙ sym (ap len_of f)

  first_total : total first ≡ total hs
  first_total = total_same h hs s same_length

  first_head : get_or first s 0 ≡ h
  first_head = get_or-set_same hs s h 0 w

  -- what the write asks
  pub may_write : (bs : Bytes) → length c ≤ 1048576 → total hs + length c ≤ length bs
      → (s < length first) × (length c < 16777216) × (total first ≤ length bs) × (total first + length c ≤ length bs + len_of (get_or first s 0))
  may_write bs a r =
      (rw (length-set hs s h) w, omega arith, omega (arith, first_total), omega (arith, first_total))

  pub filled : (ts : List ℤ) (bs : Bytes) (hs' : List ℕ) (ts' : List ℤ) (bs' : Bytes) → ts' ≡ times_set ts s new.time new.time → Put first bs hs' bs' s (length c) c
      → Filled hs ts bs hs' ts' bs' s made new
  filled ts bs hs' ts' bs' y p =
      record {
        heads = p.heads ∙ (set-set hs s h (with_len (get_or first s 0) (length c)) ∙ ap (set hs s) (ap (λ (h : ℕ). with_len h (length c)) (first_head ∙ e) ∙ long-head (length c) (code_of (kind_made made)) new.mode));
        times = y;
        texts = p.texts ∙ ap (λ (cs : List Bytes). set cs s c) (contents_same hs bs s h same_length);
        rest = λ n r.
            let z : len_of (get_or first s 0) ≡ 0 = ap len_of first_head ∙ no_length in
            p.rest n (omega (arith, first_total)) (omega (arith, first_total, p.room));
        long = p.long;
      }
