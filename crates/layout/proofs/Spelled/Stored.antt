-- The store of a state: the state's words, a record for each entry in order, a slot for each item, the cells of the kept paths, and
-- the bytes with the names on the left and the slots' on the right. What is read back of it is what was written.
-- Assumes nothing.
use mathlib.Core.Bool.{Bool, false, cond}
use mathlib.Core.List.{List, [], ◌∷◌, ◌++◌, map, append_assoc}
use mathlib.Core.Option.{Option, none, some}
use mathlib.Core.Path.{◌≡◌, refl, ap, ◌∙◌}
use Prim.Native.Nat.{ℕ, zero, suc, ◌+◌, ◌-◌, ◌*◌, ◌/◌, ◌%◌, ◌≤◌, ◌<◌}
use native.Mathlib.Omega.{arith}
use lib.IntN.{pos}
use lib.Dec.{eqb}
use lib.ListN.{length, take, drop, get_or, replicate, length-append, length-replicate}
use lib.Seq.{take_at, drop_at}
use borrow.Author.Tests.{ne_eqb}
use Rattle.text.specs.Utf8.{Bytes}
use Rattle.path.specs.Path.{body}
use Rattle.model.specs.Tree.{Time, Entries, Open, open_of}
use Rattle.model.specs.Calls.States.{State}
use Rattle.model.specs.Rules.{Obeys}
use Rattle.layout.specs.Fields.{kind_of, mode_of}
use Rattle.layout.specs.Rows.{Row, rows, name_total}
use Rattle.layout.specs.Slots.{total, split, start}
use Rattle.layout.specs.Store.{Store, most, room, count, extent, mask, here_length, holder, position, kept_length, cell, slots_for, live, rows_of, meta_at, bytes_at, kind_at}
use Rattle.layout.proofs.Worded.{head-kind, head-mode}
use Rattle.layout.proofs.Spelled.Fitting.{fits}
use Rattle.layout.proofs.Spelled.Items.{item, home}
use Rattle.layout.proofs.Spelled.Tracing.{rows_from, Fit}
use Rattle.layout.proofs.Spelled.Listed.{tab, tab-length, tab_at}
use Rattle.layout.proofs.Spelled.Written.{record_of, name_text, rows_back, names-counted, head_of, join_from, split-back, total-joined, time_of, kept_text, text_of, cell-back}

module _ (s : State) where
  -- ---- the slices

  abbrev pub rows_in : List Row
  rows_in = rows_from 0 s.tree

  abbrev pub holder_by : Option Open → ℕ
  holder_by none = 0
  holder_by (some b) = suc (home s b.id)

  abbrev pub position_by : Option Open → ℕ
  position_by none = 0
  position_by (some b) = b.pos

  -- the three words of a number
  abbrev pub number_word : ℕ → Option Open → ℕ
  number_word zero x = holder_by x
  number_word (suc zero) x = position_by x
  number_word (suc (suc k)) x = length (kept_text x)

  abbrev pub word_of : ℕ → ℕ
  word_of zero = s.most
  word_of (suc zero) = s.room
  word_of (suc (suc zero)) = length s.tree
  word_of (suc (suc (suc zero))) = s.mask
  word_of (suc (suc (suc (suc zero)))) = length (body s.here)
  word_of (suc (suc (suc (suc (suc k))))) = cond (eqb k 96) (slots_for s.most) (number_word (k % 3) (open_of s.opens (k / 3)))

  unfoldable pub words_of : List ℕ
  words_of = tab word_of 102 0

  unfoldable pub records_of : List ℕ
  records_of = map record_of rows_in ++ replicate (s.most - length s.tree) 0

  unfoldable pub heads_of : List ℕ
  heads_of = tab (λ k. head_of (item s k)) (slots_for s.most) 0

  unfoldable pub times_of : List Time
  times_of = tab (λ k. time_of (item s (k / 4)).meta (k % 4)) (4 * slots_for s.most) 0

  unfoldable pub paths_of : Bytes
  paths_of = tab (λ k. get_or (text_of s (k / 1024)) (k % 1024) 0) 33792 0

  -- the bytes of all slots
  unfoldable pub joined : Bytes
  joined = join_from (item s) (slots_for s.most) 0

  unfoldable pub bytes_of : Bytes
  bytes_of = (name_text rows_in ++ replicate (s.room - (length (name_text rows_in) + length joined)) 0) ++ joined

  abbrev pub spell : Store
  spell = record { words = words_of; records = records_of; heads = heads_of; times = times_of; paths = paths_of; bytes = bytes_of }

  -- ---- lengths

  pub words-length : length words_of ≡ 102
  unfolding words_of
  words-length = tab-length word_of 102 0

  pub heads-length : length heads_of ≡ slots_for s.most
  unfolding heads_of
  heads-length = tab-length (λ k. head_of (item s k)) (slots_for s.most) 0

  pub times-length : length times_of ≡ 4 * slots_for s.most
  unfolding times_of
  times-length = tab-length (λ k. time_of (item s (k / 4)).meta (k % 4)) (4 * slots_for s.most) 0

  pub paths-length : length paths_of ≡ 33792
  unfolding paths_of
  paths-length = tab-length (λ k. get_or (text_of s (k / 1024)) (k % 1024) 0) 33792 0

  -- ---- words

  word_at : (k : ℕ) → k < 102 → get_or words_of k 0 ≡ word_of k
  unfolding words_of
  word_at k h = tab_at word_of 102 k 0 h

  pub most_back : most spell ≡ s.most
  most_back = word_at 0 (omega arith)

  pub room_back : room spell ≡ s.room
  room_back = word_at 1 (omega arith)

  pub count-back : count spell ≡ length s.tree
  count-back = word_at 2 (omega arith)

  pub mask-back : mask spell ≡ s.mask
  mask-back = word_at 3 (omega arith)

  pub here_back : here_length spell ≡ length (body s.here)
  here_back = word_at 4 (omega arith)

  pub extent-back : extent spell ≡ slots_for s.most
  extent-back = word_at 101 (omega arith)

  number_at : (n r : ℕ) → n < 32 → r < 3 → (k : ℕ) → k ≡ 5 + (3 * n + r) → get_or words_of k 0 ≡ number_word r (open_of s.opens n)
  number_at n r h g k e =
      let five : k ≡ suc (suc (suc (suc (suc (3 * n + r))))) = omega arith in
      let left : (3 * n + r) % 3 ≡ r = omega arith in
      let which : (3 * n + r) / 3 ≡ n = omega arith in
      let low : eqb (3 * n + r) 96 ≡ false = ne_eqb (3 * n + r) 96 (λ z. omega arith) in
      word_at k (omega arith) ∙ ap word_of five
      ∙ ap (λ (b : Bool). cond b (slots_for s.most) (number_word ((3 * n + r) % 3) (open_of s.opens ((3 * n + r) / 3)))) low
      ∙ ap (λ (i : ℕ). number_word i (open_of s.opens ((3 * n + r) / 3))) left
      ∙ ap (λ (i : ℕ). number_word r (open_of s.opens i)) which

  pub holder-back : (n : ℕ) → n < 32 → holder spell n ≡ holder_by (open_of s.opens n)
  holder-back n h = number_at n 0 h (omega arith) (5 + 3 * n) (omega arith)

  pub position-back : (n : ℕ) → n < 32 → position spell n ≡ position_by (open_of s.opens n)
  position-back n h = number_at n 1 h (omega arith) (6 + 3 * n) (omega arith)

  pub kept_back : (n : ℕ) → n < 32 → kept_length spell n ≡ length (kept_text (open_of s.opens n))
  kept_back n h = number_at n 2 h (omega arith) (7 + 3 * n) (omega arith)

  -- the text in a cell
  pub text-back : (i n : ℕ) → i < 33 → length (text_of s i) ≤ 1024 → n ≡ length (text_of s i) → cell spell i n ≡ text_of s i
  unfolding paths_of
  text-back i n h l e = ap (λ (k : ℕ). take k (drop (1024 * i) paths_of)) e ∙ cell-back (text_of s) i h l

  -- ---- records

  map-length : (rs : List Row) → length (map record_of rs) ≡ length rs
  map-length [] = refl
  map-length (r ∷ rs) = ap suc (map-length rs)

  rows-length : (k : ℕ) (t : Entries) → length (rows_from k t) ≡ length t
  unfolding rows_from
  rows-length k [] = refl
  rows-length k (e ∷ t) = ap suc (rows-length (suc k) t)

  pub live_back : live spell ≡ map record_of rows_in
  unfolding records_of
  live_back =
      ap (λ (k : ℕ). take k records_of) count-back
      ∙ take_at (map record_of rows_in) (replicate (s.most - length s.tree) 0) (length s.tree) (map-length rows_in ∙ rows-length 0 s.tree)

  pub records-length : length s.tree ≤ s.most → length records_of ≡ s.most
  unfolding records_of
  records-length h =
      length-append (map record_of rows_in) (replicate (s.most - length s.tree) 0)
      ∙ omega (arith, map-length rows_in, rows-length 0 s.tree, length-replicate {A = ℕ} (s.most - length s.tree) 0)

  pub rows-read : Fit rows_in → rows_of spell ≡ rows_in
  unfolding bytes_of
  rows-read f =
      ap (λ (ws : List ℕ). rows ws bytes_of) live_back
      ∙ ap (rows (map record_of rows_in)) (append_assoc (name_text rows_in) (replicate (s.room - (length (name_text rows_in) + length joined)) 0) joined)
      ∙ rows_back rows_in (replicate (s.room - (length (name_text rows_in) + length joined)) 0 ++ joined) f

  pub names-read : Fit rows_in → name_total (live spell) ≡ length (name_text rows_in)
  names-read f = ap name_total live_back ∙ names-counted rows_in f

  -- ---- slots

  pub head-back : (k : ℕ) → k < slots_for s.most → get_or heads_of k 0 ≡ head_of (item s k)
  unfolding heads_of
  head-back k h = tab_at (λ i. head_of (item s i)) (slots_for s.most) k 0 h

  time-at : (k c i : ℕ) → k < slots_for s.most → c < 4 → i ≡ 4 * k + c → get_or times_of i (pos 0) ≡ time_of (item s k).meta c
  unfolding times_of
  time-at k c i h g e =
      let which : i / 4 ≡ k = omega arith in
      let left : i % 4 ≡ c = omega arith in
      tab_at (λ j. time_of (item s (j / 4)).meta (j % 4)) (4 * slots_for s.most) i (pos 0) (omega arith)
      ∙ ap (λ (j : ℕ). time_of (item s j).meta (i % 4)) which ∙ ap (time_of (item s k).meta) left

  module _ (o : Obeys s) where
    pub kind-back : (k : ℕ) → k < slots_for s.most → kind_at spell k ≡ (item s k).kind
    kind-back k h =
        let f = fits s o k in
        ap kind_of (head-back k h) ∙ head-kind (length (item s k).bytes) (item s k).kind (item s k).meta.mode f.length f.kind

    pub meta-back : (k : ℕ) → k < slots_for s.most → meta_at spell k ≡ (item s k).meta
    meta-back k h =
        let f = fits s o k in
        let m : mode_of (get_or heads_of k 0) ≡ (item s k).meta.mode =
        ap mode_of (head-back k h) ∙ head-mode (length (item s k).bytes) (item s k).kind (item s k).meta.mode f.length f.kind in
        let a = time-at k 0 (4 * k) h (omega arith) (omega arith) in
        let b = time-at k 1 (4 * k + 1) h (omega arith) refl in
        let c = time-at k 2 (4 * k + 2) h (omega arith) refl in
        let d = time-at k 3 (4 * k + 3) h (omega arith) refl in
        λ i. record { mode = m i; accessed = a i; changed = b i; created = c i; modified = d i }

    pub total-back : total heads_of ≡ length joined
    unfolding heads_of joined
    total-back = total-joined (item s) (fits s o) (slots_for s.most) 0

    -- the byte storage behind the names and the gap
    joined_back : drop (start heads_of bytes_of) bytes_of ≡ joined
    unfolding bytes_of
    joined_back =
        let left = name_text rows_in ++ replicate (s.room - (length (name_text rows_in) + length joined)) 0 in
        drop_at left joined (start heads_of bytes_of) (omega (arith, total-back, length-append left joined))

    pub bytes_back : (k : ℕ) → k < slots_for s.most → bytes_at spell k ≡ (item s k).bytes
    bytes_back k h =
        ap (λ (x : Bytes). get_or (split heads_of x) k []) joined_back ∙ ap (λ (x : List Bytes). get_or x k []) splits ∙ tab_at (λ i. (item s i).bytes) (slots_for s.most) k [] h
      where
        splits : split heads_of joined ≡ tab (λ i. (item s i).bytes) (slots_for s.most) 0
        splits = unfold heads_of joined in split-back (item s) (fits s o) (slots_for s.most) 0

    pub bytes-long : length bytes_of ≡ length (name_text rows_in) + (s.room - (length (name_text rows_in) + length joined)) + length joined
    unfolding bytes_of
    bytes-long =
        let gap = s.room - (length (name_text rows_in) + length joined) in
        omega (
          arith,
          length-append (name_text rows_in ++ replicate gap 0) joined,
          length-append (name_text rows_in) (replicate gap 0),
          length-replicate {A = ℕ} gap 0,
        )
