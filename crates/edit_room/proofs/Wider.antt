-- A store with further free slots behind its own: it is a store where the other is, and spells the same state.
-- Assumes nothing.
use mathlib.Core.Bool.{Bool, true, false, ◌&&◌, ◌||◌}
use mathlib.Core.List.{List, [], ◌∷◌}
use mathlib.Core.Path.{◌≡◌, refl, sym, ap, ◌∙◌, subst}
use Prim.Native.Nat.{ℕ, zero, suc, ◌+◌, ◌-◌, ◌*◌, ◌≤◌, ◌<◌}
use native.Mathlib.Omega.{arith}
use lib.Dec.{T, eqb, leb, ltb}
use lib.IntN.{pos}
use lib.ListN.{length, take, drop, get_or}
use borrow.Author.Tests.{ltb-true, ltb-false}
use Rattle.text.specs.Utf8.{Bytes}
use Rattle.path.specs.Path.{names}
use Rattle.model.specs.Tree.{keep_if}
use Rattle.layout.specs.Fields.{len_of, kind_of, mode_of}
use Rattle.layout.specs.Rows.{rows, tree_from}
use Rattle.layout.specs.Slots.{split, contents, start}
use Rattle.layout.specs.Store.{Store, most, room, extent, slots_for, live, rows_of, meta_at, bytes_at, kind_at, node_by, node_at, files_from, state}
use Rattle.layout.specs.Lawful.{slot_by, Lawful}
use Rattle.slots.specs.Uses.{uses_in, stands_from}
use Rattle.layout.proofs.Edited.Numbers.{opens_same}
use Rattle.lawful.specs.Parts.{kept_in, number_in, Parts}
use Rattle.lawful.proofs.Whole.{parts-lawful, lawful-parts, lawful-limits}
use Rattle.edit_room.proofs.Ending.{more, less, same_word, same_bytes}

-- ---- words that are the same but for the number of slots

module _ (ws vs : List ℕ) (w : (i : ℕ) → i < 101 → get_or vs i 0 ≡ get_or ws i 0) where
  stands-words : (m i k : ℕ) → i + m ≤ 32 → stands_from vs m i k ≡ stands_from ws m i k
  unfolding stands_from
  stands-words zero i k h = refl
  stands-words (suc m) i k h = λ j. eqb (w (5 + 3 * i) (omega arith) j) (suc k) || stands-words m (suc i) k (omega arith) j

  number-words : (paths : Bytes) (n j : ℕ) → j < 32 → number_in vs paths n j ≡ number_in ws paths n j
  number-words paths n j h =
      let a = w (5 + 3 * j) (omega arith) in
      let b = w (7 + 3 * j) (omega arith) in
      λ t. eqb (a t) 0 || (leb (a t) n && kept_in paths (suc j) (b t))

  parts-words : (recs heads : List ℕ) (paths bs : Bytes) → Parts ws recs heads paths bs → Parts vs recs heads paths bs
  parts-words recs heads paths bs p = record {
    space = p.space;
    entries = p.entries;
    kept = record {
      numbers = λ j h. subst T (sym (number-words paths (length heads) j h)) (p.kept.numbers j h);
      here = subst (λ (n : ℕ). T (kept_in paths 0 n)) (sym (w 4 (omega arith))) p.kept.here;
    };
    slots = λ k h. subst (λ (b : Bool). T (slot_by (kind_of (get_or heads k 0)) (get_or heads k 0) (uses_in k recs) b (get_or (contents heads bs) k []))) (sym (stands-words 32 0 k (omega arith))) (p.slots k h);
  }

-- a slot whose word is 0 has no bytes
split_none : (hs : List ℕ) (k : ℕ) (s : Bytes) → get_or hs k 0 ≡ 0 → get_or (split hs s) k [] ≡ []
unfolding split
split_none [] k s e = refl
split_none (h ∷ hs) zero s e = ap (λ (n : ℕ). take (len_of n) s) e
split_none (h ∷ hs) (suc k) s e = split_none hs k (drop (len_of h) s) e

-- slots behind which none is a file's
files_none : (st : Store) (n k : ℕ) → ((i : ℕ) → k ≤ i → kind_at st i ≡ 0) → files_from st n k ≡ []
unfolding files_from
files_none st zero k z = refl
files_none st (suc n) k z = rw (z k (omega arith)) (files_none st n (suc k) (λ i h. z i (omega arith)))

files-end : (st : Store) (n d k : ℕ) → ((i : ℕ) → k + n ≤ i → kind_at st i ≡ 0) → (m : ℕ) → m ≡ n + d → files_from st m k ≡ files_from st n k
unfolding files_from
files-end st zero d k z m e = files_none st m k (λ i h. z i (omega arith))
files-end st (suc n) d k z zero e = absurd (omega arith)
files-end st (suc n) d k z (suc m) e =
    ap (keep_if (eqb (kind_at st k) 2) (k, record { meta = meta_at st k; bytes = bytes_at st k })) (files-end st n d (suc k) (λ i h. z i (omega arith)) m (omega arith))

-- ---- a and b, which has further free slots

pub record Wider (a b : Store) : Type 0 where
  pub words : (i : ℕ) → i < 101 → get_or b.words i 0 ≡ get_or a.words i 0
  pub long : length b.words ≡ length a.words
  pub records : b.records ≡ a.records
  pub times : b.times ≡ a.times
  pub paths : b.paths ≡ a.paths
  pub bytes : b.bytes ≡ a.bytes
  pub low : length a.heads ≤ length b.heads
  pub front : take (length a.heads) b.heads ≡ a.heads
  pub zeros : (k : ℕ) → length a.heads ≤ k → get_or b.heads k 0 ≡ 0

module _ (a b : Store) (w : Wider a b) where
  abbrev n : ℕ
  n = length a.heads

  -- ---- the same state

  same_live : live b ≡ live a
  same_live = λ j. take (w.words 2 (omega arith) j) (w.records j)

  same_rows : rows_of b ≡ rows_of a
  same_rows = λ j. rows (same_live j) (w.bytes j)

  head_same : (k : ℕ) → get_or b.heads k 0 ≡ get_or a.heads k 0
  head_same k = sym (same_word a.words [] b.heads [] [] n w.low w.zeros k) ∙ ap (λ (hs : List ℕ). get_or hs k 0) w.front

  meta_same : (k : ℕ) → meta_at b k ≡ meta_at a k
  meta_same k = λ j. record { mode = mode_of (head_same k j); accessed = get_or (w.times j) (4 * k) (pos 0); changed = get_or (w.times j) (4 * k + 1) (pos 0); created = get_or (w.times j) (4 * k + 2) (pos 0); modified = get_or (w.times j) (4 * k + 3) (pos 0) }

  bytes_same : (k : ℕ) → bytes_at b k ≡ bytes_at a k
  bytes_same k = go (ltb k n) refl
    where
      go : (t : Bool) → ltb k n ≡ t → bytes_at b k ≡ bytes_at a k
      go true e =
          sym (same_bytes a.words [] b.heads [] b.bytes n w.low w.zeros k (ltb-true k n e))
          ∙ (λ j. get_or (contents (w.front j) (w.bytes j)) k [])
      go false e =
          let z = w.zeros k (ltb-false k n e) in
          split_none b.heads k (drop (start b.heads b.bytes) b.bytes) z
          ∙ sym (split_none a.heads k (drop (start a.heads a.bytes) a.bytes) (sym (head_same k) ∙ z))

  node_same : (k : ℕ) → node_at b k ≡ node_at a k
  node_same k = λ j. node_by (kind_of (head_same k j)) k (meta_same k j) (bytes_same k j)

  files_same : (m k : ℕ) → files_from b m k ≡ files_from a m k
  unfolding files_from
  files_same zero k = refl
  files_same (suc m) k = λ j. keep_if (eqb (kind_of (head_same k j)) 2) (k, record { meta = meta_same k j; bytes = bytes_same k j }) (files_same m (suc k) j)

  all_files : files_from b (length b.heads) 0 ≡ files_from a n 0
  all_files =
      files_same (length b.heads) 0
      ∙ files-end a n (length b.heads - n) 0 (λ i h. ap kind_of (sym (head_same i) ∙ w.zeros i (omega arith))) (length b.heads) (omega (arith, w.low))

  pub wider-state : state b ≡ state a
  wider-state = λ j.
      record {
        tree = tree_from (λ k. node_same k j) [] (same_rows j);
        files = all_files j;
        opens = opens_same a b (λ i l h. w.words i h) w.paths j;
        here = names (take (w.words 4 (omega arith) j) (drop 0 (w.paths j)));
        mask = w.words 3 (omega arith) j;
        most = w.words 0 (omega arith) j;
        room = w.words 1 (omega arith) j;
      }

  -- ---- both are stores, or neither is

  same_most : most b ≡ most a
  same_most = w.words 0 (omega arith)

  same_room : room b ≡ room a
  same_room = w.words 1 (omega arith)

  pub wider-lawful : extent b ≡ length b.heads → length b.heads ≤ slots_for (most a) → Lawful a → Lawful b
  wider-lawful x s l =
      let m = lawful-limits a l in
      let e = l.exact in
      let p : Parts a.words (live a) b.heads a.paths a.bytes =
      more a.words (live a) b.heads a.paths a.bytes n w.low w.zeros
      (subst (λ (hs : List ℕ). Parts a.words (live a) hs a.paths a.bytes) (sym w.front) (lawful-parts a l)) in
      parts-lawful b
      (record {
        words = w.long ∙ e.words;
        records = ap length w.records ∙ (e.records ∙ sym same_most);
        heads = sym x;
        times = ap length w.times ∙ (e.times ∙ ap (λ (k : ℕ). 4 * slots_for k) (sym same_most));
        paths = ap length w.paths ∙ e.paths;
        bytes = ap length w.bytes ∙ (e.bytes ∙ sym same_room);
      })
      (record {
        words = omega (arith, w.long, m.words);
        entry_limit = (omega (arith, same_most, m.entry_limit.0), omega (arith, same_most, m.entry_limit.1));
        byte_limit = (omega (arith, same_room, m.byte_limit.0), omega (arith, same_room, m.byte_limit.1));
        counted = omega (arith, same_most, w.words 2 (omega arith), m.counted);
        umask = omega (arith, w.words 3 (omega arith), m.umask);
        slotted = omega (arith, x, s, same_most);
      })
      (parts-words a.words b.words w.words (live b) b.heads b.paths b.bytes
      (subst (λ (x : Type 0). x) (λ j. Parts a.words (sym same_live j) b.heads (sym w.paths j) (sym w.bytes j)) p))

  pub narrow-lawful : extent a ≡ n → Lawful b → Lawful a
  narrow-lawful x l =
      let m = lawful-limits b l in
      let e = l.exact in
      let p : Parts b.words (live b) (take n b.heads) b.paths b.bytes =
      less b.words (live b) b.heads b.paths b.bytes n w.low w.zeros (lawful-parts b l) in
      parts-lawful a
      (record {
        words = sym w.long ∙ e.words;
        records = ap length (sym w.records) ∙ (e.records ∙ same_most);
        heads = sym x;
        times = ap length (sym w.times) ∙ (e.times ∙ ap (λ (k : ℕ). 4 * slots_for k) same_most);
        paths = ap length (sym w.paths) ∙ e.paths;
        bytes = ap length (sym w.bytes) ∙ (e.bytes ∙ same_room);
      })
      (record {
        words = omega (arith, w.long, m.words);
        entry_limit = (omega (arith, same_most, m.entry_limit.0), omega (arith, same_most, m.entry_limit.1));
        byte_limit = (omega (arith, same_room, m.byte_limit.0), omega (arith, same_room, m.byte_limit.1));
        counted = omega (arith, same_most, w.words 2 (omega arith), m.counted);
        umask = omega (arith, w.words 3 (omega arith), m.umask);
        slotted = omega (arith, x, w.low, e.heads, l.slotted, same_most);
      })
      (parts-words b.words a.words (λ i h. sym (w.words i h)) (live a) a.heads a.paths a.bytes
      (subst (λ (x : Type 0). x) (λ j. Parts b.words (same_live j) (w.front j) (w.paths j) (w.bytes j)) p))
