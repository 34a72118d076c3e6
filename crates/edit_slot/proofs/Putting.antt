-- Other bytes of a file, put in its slot: what stands in front of the bytes of the slots is as it was, so the entries are, and every
-- other slot keeps its word and its bytes.
-- Assumes nothing.
use mathlib.Core.List.{List}
use mathlib.Core.Path.{◌≡◌, refl, ap, ◌∙◌}
use Prim.Native.Nat.{ℕ, ◌+◌, ◌*◌, ◌≤◌, ◌<◌}
use native.Mathlib.Omega.{arith}
use lib.IntN.{ℤ}
use lib.ListN.{length, get_or, length-set}
use Rattle.text.specs.Utf8.{Bytes}
use Rattle.model.specs.Tree.{Change, write, resize, change_meta, change_bytes}
use Rattle.layout.specs.Fields.{len_of, kind_of, mode_of}
use Rattle.layout.specs.Rows.{name_total}
use Rattle.layout.specs.Slots.{total}
use Rattle.layout.specs.Store.{Store, room, live, meta_at, bytes_at}
use Rattle.layout.specs.Lawful.{Lawful}
use Rattle.records.proofs.Entries.{rows-front}
use Rattle.slots.specs.Put.{with_len, Put}
use Rattle.slots.proofs.Totals.{sums}
use Rattle.slots.proofs.Laws.{kind_with, mode_with, put-slots, put-head, put-here, put-head_other, put_other}
use Rattle.edit_slot.specs.Changes.{Changes, HasRoom}
use Rattle.edit_slot.specs.Times.{modified_set}
use Rattle.edit_slot.proofs.Altering.{slotted, altered-changes}
use Rattle.edit_slot.proofs.Metadata.{low}
use Rattle.edit_slot.proofs.Timing.{meta_by, meta_past, meta-modified}

module _ (st : Store) (l : Lawful st) (k n : ℕ) (f : HasRoom st k n) where
  -- what `slots` asks: the length fits a word, and there is room
  pub asked : (k < length st.heads) × (n < 16777216) × (total st.heads ≤ length st.bytes) × (total st.heads + n ≤ length st.bytes + len_of (get_or st.heads k 0))
  asked = (f.there, omega (arith, f.room, l.byte_limit.1, (sums st.heads k f.there).1), omega (arith, l.exact.bytes, l.space), omega (arith, f.room, l.exact.bytes))

  module _ (hs : List ℕ) (bs x : Bytes) (p : Put st.heads st.bytes hs bs k n x) where
    abbrev h : ℕ
    h = get_or st.heads k 0

    rest : name_total (live st) + total hs ≤ room st
    rest = omega (arith, f.room, p.room)

    put-changes : (c : Change) (ts : List ℤ) → length ts ≡ length st.times
        → ((w i : ℕ) → (i ≡ k → ⊥) → meta_by w ts i ≡ meta_by w st.times i) → meta_by h ts k ≡ change_meta c (meta_at st k)
        → x ≡ change_bytes c (bytes_at st k) → Changes c st (slotted st hs ts bs) k
    put-changes c ts long past self text =
        altered-changes c st hs ts bs k l f.there
        (record {
          heads = put-slots st.heads st.bytes hs bs k n x p;
          times = long;
          bytes = p.long;
          rows = rows-front (live st) bs st.bytes (p.rest (name_total (live st)) (omega (arith, l.space, l.exact.bytes)) (omega (arith, rest, l.exact.bytes)));
          space = rest;
          word = put-head_other st.heads st.bytes hs bs k n x p;
          others = λ i d. λ z. record { meta = (ap (λ (w : ℕ). meta_by w ts i) (put-head_other st.heads st.bytes hs bs k n x p i d) ∙ past (get_or st.heads i 0) i d) z; bytes = put_other st.heads st.bytes hs bs k n x p i d z };
          kind = ap kind_of here ∙ kind_with h n asked.1;
          self = λ z. record { meta = (mode ∙ self) z; bytes = (put-here st.heads st.bytes hs bs k n x p f.there ∙ text) z };
          plain = λ d. absurd (d f.is_file);
        })
      where
        here : get_or hs k 0 ≡ with_len h n
        here = put-head st.heads st.bytes hs bs k n x p f.there

        mode : meta_by (get_or hs k 0) ts k ≡ meta_by h ts k
        mode = λ z. record { mode = (ap mode_of here ∙ mode_with h n asked.1) z; accessed = (meta_by h ts k).accessed; changed = (meta_by h ts k).changed; created = (meta_by h ts k).created; modified = (meta_by h ts k).modified }

    pub contents-changes : (t : ℤ) → Changes (write x t) st (slotted st hs (modified_set st.times k t) bs) k
    unfolding change_meta change_bytes
    contents-changes t =
        put-changes (write x t) (modified_set st.times k t) (length-set st.times (4 * k + 3) t)
        (λ w i d. meta_past w st.times k (4 * k + 3) i t (omega arith) (omega arith) d)
        (meta-modified h st.times k t (low st l k f.there)) refl

    pub length-changes : Changes (resize x) st (slotted st hs st.times bs) k
    unfolding change_meta change_bytes
    length-changes = put-changes (resize x) st.times refl (λ w i d. refl) refl refl
