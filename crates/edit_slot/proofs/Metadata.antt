-- Another mode or other times of a slot change its metadata alone: the word keeps its kind and its length, so every slot keeps its
-- bytes.
-- Assumes nothing.
use mathlib.Core.List.{List, []}
use mathlib.Core.Path.{◌≡◌, refl, ap, ◌∙◌}
use Prim.Native.Nat.{ℕ, ◌+◌, ◌*◌, ◌%◌, ◌≤◌, ◌<◌}
use native.Mathlib.Omega.{arith}
use lib.IntN.{ℤ}
use lib.ListN.{length, get_or, set, length-set}
use lib.Seq.{get_or-set_same, get_or-set_other}
use Rattle.text.specs.Utf8.{Bytes}
use Rattle.model.specs.Tree.{Meta, given, Change, chmod, touch, touch_some, change_meta, change_bytes}
use Rattle.layout.specs.Fields.{len_of, kind_of, mode_of, head_word}
use Rattle.layout.specs.Slots.{contents}
use Rattle.layout.specs.Store.{Store, meta_at, bytes_at}
use Rattle.layout.specs.Lawful.{Lawful}
use Rattle.slots.proofs.Contents.{total_same, contents_same}
use Rattle.edit_slot.specs.Changes.{Changes}
use Rattle.slots.specs.Times.{times_set}
use Rattle.edit_slot.specs.Times.{modified_set, in_model, set_if, some_set}
use Rattle.std.specs.Prelude.{Option, Some, None}
use Rattle.edit_slot.proofs.Altering.{slotted, altered-changes}
use Rattle.edit_slot.proofs.Timing.{meta_by, with_accessed, with_changed, with_created, with_modified, meta_past, meta-accessed, meta-changed, meta-created, meta-modified}

-- ---- the word with another mode

module _ (h m : ℕ) where
  pub word-length : len_of (head_word (len_of h) (kind_of h) m) ≡ len_of h
  word-length = omega arith

  pub word-kind : kind_of (head_word (len_of h) (kind_of h) m) ≡ kind_of h
  word-kind = omega arith

  pub word-mode : mode_of (head_word (len_of h) (kind_of h) m) ≡ m
  word-mode = omega arith

  -- as it is stored
  pub word-stored : m * 4294967296 + h % 4294967296 ≡ head_word (len_of h) (kind_of h) m
  word-stored = omega arith

module _ (st : Store) (l : Lawful st) (k : ℕ) (hk : k < length st.heads) where
  pub mode-changes : (m : ℕ) → Changes (chmod m) st (slotted st (set st.heads k (head_word (len_of (get_or st.heads k 0)) (kind_of (get_or st.heads k 0)) m)) st.times st.bytes) k
  unfolding change_meta change_bytes
  mode-changes m =
      altered-changes (chmod m) st hs st.times st.bytes k l hk
      (record {
        heads = length-set st.heads k w;
        times = refl;
        bytes = refl;
        rows = refl;
        space = omega (arith, l.space, total_same w st.heads k (word-length h m));
        word = other;
        others = λ i n. λ z. record { meta = meta_by (other i n z) st.times i; bytes = get_or (texts z) i [] };
        kind = ap kind_of here ∙ word-kind h m;
        self = λ z. record { meta = record { mode = (ap mode_of here ∙ word-mode h m) z; accessed = (meta_at st k).accessed; changed = (meta_at st k).changed; created = (meta_at st k).created; modified = (meta_at st k).modified }; bytes = get_or (texts z) k [] };
        plain = λ _. (ap len_of here ∙ word-length h m, ap (λ (x : List Bytes). get_or x k []) texts);
      })
    where
      h : ℕ
      h = get_or st.heads k 0

      w : ℕ
      w = head_word (len_of h) (kind_of h) m

      hs : List ℕ
      hs = set st.heads k w

      here : get_or hs k 0 ≡ w
      here = get_or-set_same st.heads k w 0 hk

      other : (i : ℕ) → (i ≡ k → ⊥) → get_or hs i 0 ≡ get_or st.heads i 0
      other i n = get_or-set_other st.heads k i w 0 n

      texts : contents hs st.bytes ≡ contents st.heads st.bytes
      texts = contents_same st.heads st.bytes k w (word-length h m)

  -- ---- times

  -- the times have room for the slot's four
  pub low : 4 * k + 3 < length st.times
  low = omega (arith, l.exact.times, l.exact.heads, l.slotted)

  timed : (c : Change) (ts : List ℤ) → length ts ≡ length st.times
      → ((i : ℕ) → (i ≡ k → ⊥) → meta_by (get_or st.heads i 0) ts i ≡ meta_at st i) → meta_by (get_or st.heads k 0) ts k ≡ change_meta c (meta_at st k)
      → bytes_at st k ≡ change_bytes c (bytes_at st k) → Changes c st (slotted st st.heads ts st.bytes) k
  timed c ts long past self quiet =
      altered-changes c st st.heads ts st.bytes k l hk
      (record {
        heads = refl;
        times = long;
        bytes = refl;
        rows = refl;
        space = l.space;
        word = λ i n. refl;
        others = λ i n. λ z. record { meta = past i n z; bytes = bytes_at st i };
        kind = refl;
        self = λ z. record { meta = self z; bytes = quiet z };
        plain = λ _. (refl, refl);
      })

  pub times-changes : (a t : ℤ) → Changes (touch a t) st (slotted st st.heads (times_set st.times k a t) st.bytes) k
  unfolding change_meta change_bytes
  times-changes a t =
      timed (touch a t) (times_set ts k a t) (length-set t3 (4 * k + 3) t ∙ long3)
      (λ i n.
      meta_past (get_or st.heads i 0) t3 k (4 * k + 3) i t (omega arith) (omega arith) n
      ∙ meta_past (get_or st.heads i 0) t2 k (4 * k + 2) i a (omega arith) (omega arith) n
      ∙ meta_past (get_or st.heads i 0) t1 k (4 * k + 1) i a (omega arith) (omega arith) n
      ∙ meta_past (get_or st.heads i 0) ts k (4 * k) i a (omega arith) (omega arith) n)
      (meta-modified h t3 k t (omega (arith, low, long3))
      ∙ ap (with_modified t) (meta-created h t2 k a (omega (arith, low, long2))
      ∙ ap (with_created a) (meta-changed h t1 k a (omega (arith, low, long1)) ∙ ap (with_changed a) (meta-accessed h ts k a low))))
      refl
    where
      ts : List ℤ
      ts = st.times

      t1 : List ℤ
      t1 = set ts (4 * k) a

      t2 : List ℤ
      t2 = set t1 (4 * k + 1) a

      t3 : List ℤ
      t3 = set t2 (4 * k + 2) a

      h : ℕ
      h = get_or st.heads k 0

      long1 : length t1 ≡ length ts
      long1 = length-set ts (4 * k) a

      long2 : length t2 ≡ length ts
      long2 = length-set t1 (4 * k + 1) a ∙ long1

      long3 : length t3 ≡ length ts
      long3 = length-set t2 (4 * k + 2) a ∙ long2

  pub modified_past : (t : ℤ) (i : ℕ) → (i ≡ k → ⊥) → meta_by (get_or st.heads i 0) (modified_set st.times k t) i ≡ meta_at st i
  modified_past t i n = meta_past (get_or st.heads i 0) st.times k (4 * k + 3) i t (omega arith) (omega arith) n

  -- a time that is stored or not
  if_length : (v : Option ℤ) (ts : List ℤ) (i : ℕ) → length (set_if v ts i) ≡ length ts
  if_length (Some v) ts i = length-set ts i v
  if_length None ts i = refl

  if_past : (v : Option ℤ) (h : ℕ) (ts : List ℤ) (i j : ℕ) → 4 * k ≤ i → i < 4 * k + 4 → (j ≡ k → ⊥) → meta_by h (set_if v ts i) j ≡ meta_by h ts j
  if_past (Some v) h ts i j a b n = meta_past h ts k i j v a b n
  if_past None h ts i j a b n = refl

  if_accessed : (v : Option ℤ) (h : ℕ) (ts : List ℤ) → 4 * k + 3 < length ts
      → meta_by h (set_if v ts (4 * k)) k ≡ with_accessed (given (in_model v) (meta_by h ts k).accessed) (meta_by h ts k)
  if_accessed (Some v) h ts b = meta-accessed h ts k v b
  if_accessed None h ts b = refl

  if_modified : (v : Option ℤ) (h : ℕ) (ts : List ℤ) → 4 * k + 3 < length ts
      → meta_by h (set_if v ts (4 * k + 3)) k ≡ with_modified (given (in_model v) (meta_by h ts k).modified) (meta_by h ts k)
  if_modified (Some v) h ts b = meta-modified h ts k v b
  if_modified None h ts b = refl

  pub some_changes : (a t : Option ℤ) → Changes (touch_some (in_model a) (in_model t)) st (slotted st st.heads (some_set st.times k a t) st.bytes) k
  unfolding change_meta change_bytes
  some_changes a t =
      timed (touch_some (in_model a) (in_model t)) (some_set st.times k a t)
      (if_length t t1 (4 * k + 3) ∙ if_length a st.times (4 * k))
      (λ i n. if_past t (get_or st.heads i 0) t1 (4 * k + 3) i (omega arith) (omega arith) n ∙ if_past a (get_or st.heads i 0) st.times (4 * k) i (omega arith) (omega arith) n)
      (if_modified t h t1 (omega (arith, low, if_length a st.times (4 * k)))
      ∙ ap (λ (m : Meta). with_modified (given (in_model t) m.modified) m) (if_accessed a h st.times low))
      refl
    where
      h : ℕ
      h = get_or st.heads k 0

      t1 : List ℤ
      t1 = set_if a st.times (4 * k)
