-- The parts of a store and the whole: what the parts ask of slices is what a store asks, cut to the length that its limits ask.
-- Assumes nothing.
use mathlib.Core.Bool.{Bool, true, false, ◌||◌}
use mathlib.Core.List.{List}
use mathlib.Core.Path.{◌≡◌, refl, sym, ap, ◌∙◌, subst}
use Prim.Native.Nat.{ℕ, zero, suc, ◌+◌, ◌*◌, ◌≤◌, ◌<◌}
use native.Mathlib.Omega.{arith}
use lib.Dec.{T, eqb}
use lib.ListN.{length, take, get_or}
use lib.Seq.{get_or-take, length-take-le, take-take}
use Rattle.text.specs.Utf8.{Bytes}
use Rattle.layout.specs.Rows.{rows, name_total}
use Rattle.layout.specs.Slots.{total}
use Rattle.layout.specs.Store.{Store, most, room, count, extent, live, slots_for, kind_at, bytes_at, core}
use Rattle.layout.specs.Lawful.{rows_ok, held_from, slot_by, slot_ok, Exact, Lawful, Long, Keeps}
use Rattle.slots.proofs.Rowed.{uses-rows}
use Rattle.lawful_limits.specs.Settles.{Settles}
use Rattle.slots.specs.Uses.{uses_in, stands_from}
use Rattle.lawful_entries.specs.Fits.{kind_in}
use Rattle.lawful_limits.specs.Limits.{Limits}
use Rattle.lawful.specs.Parts.{Kept, SlotsHeld, Parts}

-- ---- the parts

module _ (words recs heads : List ℕ) (paths bs : Bytes) where
  pub parts-space : length bs < name_total recs + total heads → Parts words recs heads paths bs → ⊥
  parts-space h p = omega (arith, p.space)

  pub parts-entries : rows_ok (kind_in heads) (length heads) (rows recs bs) ≡ false → Parts words recs heads paths bs → ⊥
  parts-entries e p = subst T e p.entries

  pub parts-kept : (Kept words paths (length heads) → ⊥) → Parts words recs heads paths bs → ⊥
  parts-kept n p = n p.kept

  pub parts-slots : name_total recs + total heads ≤ length bs → T (rows_ok (kind_in heads) (length heads) (rows recs bs)) → Kept words paths (length heads)
      → (r : Bool) → Settles r (SlotsHeld words recs heads bs) → Settles r (Parts words recs heads paths bs)
  parts-slots s e k true h = record { space = s; entries = e; kept = k; slots = h }
  parts-slots s e k false h = λ p. h p.slots

-- ---- the users of a slot

held-words : (st : Store) (n i k : ℕ) → held_from st n i k ≡ stands_from st.words n i k
unfolding held_from stands_from
held-words st zero i k = refl
held-words st (suc n) i k = ap (λ (t : Bool). eqb (get_or st.words (5 + 3 * i) 0) (suc k) || t) (held-words st n (suc i) k)

-- ---- a store whose slices are as long as asked

module _ (st : Store) where
  abbrev pub PartsIn : Type 0
  PartsIn = Parts st.words (live st) st.heads st.paths st.bytes

  same_slot : (k : ℕ) → slot_ok st k ≡ slot_by (kind_at st k) (get_or st.heads k 0) (uses_in k (live st)) (stands_from st.words 32 0 k) (bytes_at st k)
  same_slot k =
      ap (λ (u : ℕ). slot_by (kind_at st k) (get_or st.heads k 0) u (held_from st 32 0 k) (bytes_at st k)) (uses-rows k (live st) st.bytes)
      ∙ ap (λ (b : Bool). slot_by (kind_at st k) (get_or st.heads k 0) (uses_in k (live st)) b (bytes_at st k)) (held-words st 32 0 k)

  pub parts-lawful : Exact st → Limits st.words → PartsIn → Lawful st
  parts-lawful e m p = record {
    exact = e;
    entry_limit = m.entry_limit;
    byte_limit = m.byte_limit;
    counted = m.counted;
    slotted = m.slotted;
    space = omega (arith, p.space, e.bytes);
    entries = p.entries;
    slots = λ k h. subst T (sym (same_slot k)) (p.slots k h);
    numbers = p.kept.numbers;
    here = p.kept.here;
    umask = m.umask;
  }

  pub lawful-limits : Lawful st → Limits st.words
  lawful-limits l = record { words = omega (arith, l.exact.words); entry_limit = l.entry_limit; byte_limit = l.byte_limit; counted = l.counted; umask = l.umask; slotted = l.slotted }

  pub lawful-parts : Lawful st → PartsIn
  lawful-parts l = record {
    space = omega (arith, l.space, l.exact.bytes);
    entries = l.entries;
    kept = record { numbers = l.numbers; here = l.here };
    slots = λ k h. subst T (same_slot k) (l.slots k h);
  }

-- ---- the whole

module _ (st : Store) where
  abbrev pub PartsOf : Type 0
  PartsOf = Parts (take 102 st.words) (take (count st) st.records) (take (extent st) st.heads) (take 33792 st.paths) (take (room st) st.bytes)

  -- the words that are kept are the words that were lent
  word : (i : ℕ) → i < 102 → get_or (take 102 st.words) i 0 ≡ get_or st.words i 0
  word i h = get_or-take 102 st.words i 0 h

  -- the limits are in the words that are kept
  limits-cut : Limits st.words → Limits (take 102 st.words)
  limits-cut m = record {
    words = omega (arith, length-take-le 102 st.words m.words);
    entry_limit = (omega (arith, word 0 (omega arith), m.entry_limit.0), omega (arith, word 0 (omega arith), m.entry_limit.1));
    byte_limit = (omega (arith, word 1 (omega arith), m.byte_limit.0), omega (arith, word 1 (omega arith), m.byte_limit.1));
    counted = omega (arith, word 0 (omega arith), word 2 (omega arith), m.counted);
    umask = omega (arith, word 3 (omega arith), m.umask);
    slotted = omega (arith, word 0 (omega arith), word 101 (omega arith), m.slotted);
  }

  pub pass-limits : (Limits st.words → ⊥) → Keeps st → ⊥
  pass-limits n p = n (record {
    words = p.0.words;
    entry_limit = (omega (arith, word 0 (omega arith), p.1.entry_limit.0), omega (arith, word 0 (omega arith), p.1.entry_limit.1));
    byte_limit = (omega (arith, word 1 (omega arith), p.1.byte_limit.0), omega (arith, word 1 (omega arith), p.1.byte_limit.1));
    counted = omega (arith, word 0 (omega arith), word 2 (omega arith), p.1.counted);
    umask = omega (arith, word 3 (omega arith), p.1.umask);
    slotted = omega (arith, word 0 (omega arith), word 101 (omega arith), p.1.slotted);
  })

  pub pass-lengths : (Long st → ⊥) → Keeps st → ⊥
  pass-lengths n p = n p.0

  module _ (m : Limits st.words) (l : Long st) where
    -- the records of the entries
    records-live : live (core st) ≡ take (count st) st.records
    records-live = ap (λ (n : ℕ). take n (take (most st) st.records)) (word 2 (omega arith)) ∙ take-take (count st) (most st) st.records m.counted

    exact : Exact (core st)
    exact = record {
      words = length-take-le 102 st.words m.words;
      records = length-take-le (most st) st.records l.records ∙ sym (word 0 (omega arith));
      heads = length-take-le (extent st) st.heads (omega (arith, m.slotted, l.heads)) ∙ sym (word 101 (omega arith));
      times = length-take-le (4 * slots_for (most st)) st.times l.times ∙ ap (λ (n : ℕ). 4 * slots_for n) (sym (word 0 (omega arith)));
      paths = length-take-le 33792 st.paths l.paths;
      bytes = length-take-le (room st) st.bytes l.bytes ∙ sym (word 1 (omega arith));
    }

    -- the same parts
    parts_cut : PartsIn (core st) ≡ PartsOf
    parts_cut = ap (λ (ws : List ℕ). Parts (core st).words ws (core st).heads (core st).paths (core st).bytes) records-live

    pub pass-parts : (r : Bool) → Settles r PartsOf → Settles r (Keeps st)
    pass-parts true p = (l, parts-lawful (core st) exact (limits-cut m) (subst (λ (x : Type 0). x) (sym parts_cut) p))
    pass-parts false n = λ p. n (subst (λ (x : Type 0). x) parts_cut (lawful-parts (core st) p.1))
