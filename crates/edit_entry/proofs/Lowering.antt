-- What the steps of a nest ask, and that what they leave is the model's nest.
-- Assumes nothing.
use mathlib.Core.Bool.{true}
use mathlib.Core.List.{List, [], ◌∷◌, ◌++◌, append_assoc}
use mathlib.Core.Path.{◌≡◌, refl, sym, ap, ◌∙◌, subst}
use Prim.Native.Nat.{ℕ, suc, ◌+◌, ◌*◌, ◌≤◌, ◌<◌}
use native.Mathlib.Numerals.{add-one}
use native.Mathlib.Omega.{arith}
use lib.IntN.{ℤ}
use lib.ListN.{length, take, get_or, set, length-append, length-set}
use lib.Seq.{get_or-set_same, get_or-take, length-take-le, take-append_seam}
use Rattle.text.specs.Utf8.{Bytes}
use Rattle.path.specs.Path.{Name}
use Rattle.model.specs.Tree.{Path}
use Rattle.layout.specs.Fields.{slot_of, kind_of}
use Rattle.layout.specs.Rows.{Row, rows, name_total, path_of}
use Rattle.layout.specs.Slots.{total}
use Rattle.layout.specs.Store.{Store, lent, count, live, rows_of, kind_at, state}
use Rattle.layout.specs.Lawful.{Lawful}
use Rattle.model.specs.Calls.States.{nested}
use Rattle.layout.specs.Alike.{Spells}
use Rattle.layout.specs.Parts.{path_after, deepen}
use Rattle.layout.proofs.Roots.{root_of}
use Rattle.layout.proofs.Edited.Inserting.{root_is}
use Rattle.layout.proofs.Edited.Nesting.{lowered, uses-lowered}
use Rattle.records.specs.Blocks.{Liftable, Liftables, Lowered}
use Rattle.records.proofs.Entries.{rows-front}
use Rattle.edit_entry.specs.declared.made.Fresh.{Fresh}
use Rattle.edit_entry.specs.declared.made.Made.TheVariants.{Directory}
use Rattle.edit_entry.specs.Made.{fresh_meta}
use Rattle.edit_entry.specs.Filling.{head_made, Filled}
use Rattle.edit_entry.specs.Growth.{new_meta}
use Rattle.edit_entry.specs.Removal.{EntryPath}
use Rattle.edit_entry.specs.Nesting.{MayNest, NestedAt}
use Rattle.edit_entry.proofs.Adding.{Added}
use Rattle.edit_entry.proofs.Entries.{slot-low}
use Rattle.edit_entry.proofs.Inserts.{name-short, times-filled, size-made, kind-made, mode-made, holds-slot}
use Rattle.edit_entry.proofs.Moves.{Low, Lifts, low_more, low_part, low_first, walk-low, lift-rows, root_ok_lem}
use Rattle.edit_entry.proofs.Nests.{nested-spells}
use Rattle.edit_entry.proofs.Removes as removes

-- depths of at most 4,096 may be one more
low-lifts : (n : ℕ) (rs : List Row) → Low n rs → n ≤ 4096 → Lifts 1 0 rs
low-lifts n [] h a = tt
low-lifts n (r ∷ rs) h a = ((omega arith, omega (arith, h.0)), low-lifts n rs h.1 a)

module _ {st : Store} {i e : ℕ} {y : Name} (l : Lawful st) (n : MayNest st i e y) where
  abbrev root : Row
  root = removes.root l n.block

  abbrev a : List Row
  a = removes.a l n.block

  abbrev row : Row
  row = removes.row l n.block

  abbrev x : List Row
  x = removes.x l n.block

  abbrev b : List Row
  b = removes.b l n.block

  whole : rows_of st ≡ root ∷ (a ++ (row ∷ (x ++ b)))
  whole = removes.whole l n.block

  all_length : length (rows_of st) ≡ count st
  all_length = removes.all_length l n.block

  front_long : length (root ∷ a) ≡ i
  front_long =
      ap length (sym (removes.part l n.block).front) ∙ length-take-le i (rows_of st) (omega (arith, all_length, n.block.some, n.block.last))

  block-long : suc (i + length x) ≡ e
  block-long = omega (arith, removes.long l n.block, n.block.some)

  few : count st ≤ 4096
  few = omega (arith, l.counted, l.entry_limit.1)

  -- no entry is deeper than there are entries
  depths : Low (count st) ((root ∷ a) ++ (row ∷ (x ++ b)))
  depths =
      let r = removes.rules l n.block in
      let o = root_of (kind_at st) (length st.heads) root (a ++ (row ∷ (x ++ b))) r in
      let c : suc (length (a ++ (row ∷ (x ++ b)))) ≡ count st = ap length (sym whole) ∙ all_length in (
        omega (arith, (root_is (kind_at st) (length st.heads) root (root_ok_lem (kind_at st) (length st.heads) root (a ++ (row ∷ (x ++ b))) r)).0),
        low_more (0 + length (a ++ (row ∷ (x ++ b)))) (count st) (a ++ (row ∷ (x ++ b))) (omega (arith, c)) (walk-low (kind_at st) (length st.heads) [] true (a ++ (row ∷ (x ++ b))) o.rest),
      )

  liftable : Liftables st.records i e 1 0
  liftable j c d =
      let low = low_part (count st) (root ∷ a) (row ∷ (x ++ b)) depths in
      subst (λ (w : ℕ). Liftable w 1 0) (get_or-take (count st) st.records j 0 (omega (arith, d, n.block.last)))
      (lift-rows 1 0 (live st) st.bytes (root ∷ a) (row ∷ x) b whole (low-lifts (count st) (row ∷ x) (low.0, low_first (count st) x b low.1) few)
      j (omega (arith, front_long, c)) (omega (arith, front_long, block-long, d)))

  -- ---- what the steps ask

  pub may-lower : {s : ℕ} → s < length st.heads
      → (i < e) × (e ≤ count st) × (count st < length st.records) × (count st ≤ 4096) × (s < 65536) × (length y < 256) × (slot_of (get_or st.records i 0) < 65536) × Liftables st.records i e 1 0
      × (name_total (take (count st) st.records) + length y ≤ length st.bytes)
  may-lower h = (
    n.block.some,
    n.block.last,
    omega (arith, l.exact.records, n.more),
    few,
    omega (arith, h, l.exact.heads, l.slotted, l.entry_limit.1),
    omega (arith, name-short y n.name),
    omega (arith, slot-low st l i (omega (arith, n.block.some, n.block.last)), l.exact.heads, l.slotted, l.entry_limit.1),
    liftable,
    omega (arith, n.fits, l.exact.bytes),
  )

  module _ {s : ℕ} (z : (s < length st.heads) × (get_or st.heads s 0 ≡ 0)) {rs' : List ℕ} {bs₁ : Bytes} (o : Lowered st.records st.bytes rs' bs₁ (count st) i e s y) where
    pub may-fill : (s < length st.heads) × (length st.heads ≤ 4128) × (get_or st.heads s 0 ≡ 0) × (4 * s + 4 ≤ length st.times) × (0 ≤ 1048576) × (total st.heads + 0 ≤ length bs₁)
    may-fill = (
      z.0,
      omega (arith, l.exact.heads, l.slotted, l.entry_limit.1),
      z.1,
      omega (arith, l.exact.times, l.exact.heads, l.slotted, z.0),
      omega arith,
      omega (arith, n.fits, l.exact.bytes, o.byte_count),
    )

    module _ {hs' : List ℕ} {ts' : List ℤ} {bs' : Bytes} {new : Fresh} (f : Filled st.heads st.times bs₁ hs' ts' bs' s Directory new) {ws' : List ℕ} (g : ws' ≡ set st.words 2 (count st + 1)) where
      abbrev st' : Store
      st' = lent ws' rs' hs' ts' st.paths bs'

      abbrev h : ℕ
      h = head_made Directory new

      new-count : count st' ≡ count st + 1
      new-count = ap (λ (u : List ℕ). get_or u 2 0) g ∙ get_or-set_same st.words 2 (count st + 1) 0 (omega (arith, l.exact.words))

      names-kept : take (name_total (take (count st + 1) rs')) bs' ≡ take (name_total (take (count st + 1) rs')) bs₁
      names-kept = f.rest (name_total (take (count st + 1) rs')) (omega (arith, o.sum, n.fits, l.exact.bytes, o.byte_count))

      new-rows : rows_of st' ≡ lowered root a row x b s y
      new-rows =
          ap (λ (k : ℕ). rows (take k rs') bs') new-count
          ∙ (rows-front (take (count st + 1) rs') bs' bs₁ names-kept ∙ o.all (root ∷ a) row x b whole front_long block-long)

      added : Added st st' (root ∷ (a ++ (row ∷ (x ++ b)))) (lowered root a row x b s y) s (length y) h [] new.time
      added =
          record {
            counted = record { words = g ∙ ap (set st.words 2) (add-one (count st)); paths = refl; slots = ap length f.heads ∙ length-set st.heads s h };
            old = whole;
            new = new-rows;
            users = λ k. uses-lowered k root a row x b s y;
            low = z.0;
            free = z.1;
            heads = f.heads;
            texts = f.texts ∙ ap (λ (cs : List Bytes). set cs s []) (o.texts st.heads (omega (arith, n.fits, l.exact.bytes)));
            size = size-made Directory new (omega arith);
            times = times-filled st st' s new.time may-fill.3 f.times;
            records = o.record_count;
            bytes = f.long ∙ o.byte_count;
            names = ap (λ (k : ℕ). name_total (take k rs')) new-count ∙ o.sum;
            fits = omega (arith, n.fits);
            more = n.more;
          }

      is-dir : kind_of h ≡ 1
      is-dir = kind-made Directory new (omega arith)

      -- the first entries, the new one and the one below it
      first_rows : take (suc (suc i)) (rows_of st') ≡ take i (rows_of st) ++ (record { depth = row.depth; name = row.name; slot = s } ∷ (record { depth = suc row.depth; name = y; slot = row.slot } ∷ []))
      first_rows =
          let two : List Row = record { depth = row.depth; name = row.name; slot = s } ∷ (record { depth = suc row.depth; name = y; slot = row.slot } ∷ []) in
          let rest : List Row = deepen row.depth (suc row.depth) x ++ b in
          let n₂ : suc (suc i) ≡ length ((root ∷ a) ++ two) = omega (arith, front_long, length-append (root ∷ a) two) in
          (λ j. take (n₂ j) (new-rows j))
          ∙ (ap (take (length ((root ∷ a) ++ two))) (sym (append_assoc (root ∷ a) two rest))
          ∙ (take-append_seam ((root ∷ a) ++ two) rest ∙ ap (λ (z : List Row). z ++ two) (sym (removes.part l n.block).front)))

      nested-by : (p : Path) → EntryPath st i p → Spells st' (nested p y (fresh_meta new) (state st))
      nested-by p k =
          subst (λ (q : Path). Spells st' (nested q y (fresh_meta new) (state st))) (sym (removes.entry-path l n.block) ∙ k)
          (subst (λ (v : ℕ). Spells st' (nested (path_of (path_after [] a) row) y (new_meta v new.time) (state st))) (mode-made Directory new (omega arith))
          (nested-spells st st' root a row x b y s h new.time l added (removes.below l n.block) (removes.behind l n.block) n.name is-dir
          (holds-slot Directory new (omega arith) tt)))

      pub nested_at : (p : Path) → EntryPath st i p → NestedAt st st' i y p new
      nested_at p k = record {
        spells = nested-by p k;
        row = row;
        slot = s;
        old = (removes.part l n.block).path ∙ ap (λ (z : List Row). z ++ (row ∷ [])) (sym (removes.part l n.block).front);
        new = first_rows;
      }
