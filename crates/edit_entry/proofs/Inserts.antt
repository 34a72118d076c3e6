-- The steps of an insertion, put together: the entry's record and name, the number of entries, the slot.
-- Assumes nothing.
use mathlib.Core.Bool.{true, false}
use mathlib.Core.List.{List, [], ◌∷◌, ◌++◌}
use mathlib.Core.Path.{◌≡◌, refl, sym, ap, ◌∙◌, subst}
use Prim.Native.Nat.{ℕ, zero, suc, ◌+◌, ◌*◌, ◌≤◌, ◌<◌}
use native.Mathlib.Numerals.{add-one}
use native.Mathlib.Nat.{add-zero}
use native.Mathlib.Omega.{arith}
use lib.Dec.{T, leb, leb→le}
use lib.IntN.{ℤ, pos}
use lib.ListN.{length, length-append, length-take, take, drop, get_or, set, length-set, take-append-drop}
use lib.Seq.{get_or-set_same, get_or-set_other}
use Rattle.text.specs.Utf8.{Bytes}
use Rattle.path.specs.Path.{Name, proper}
use Rattle.path.proofs.Laws.{and_left, and_right, and_both}
use Rattle.model.specs.Tree.{Path, Node}
use Rattle.model.specs.Rules.{name_ok, target_ok}
use Rattle.model.specs.Prog.{make, create, symlink}
use Rattle.layout.specs.Fields.{len_of, depth_of, nlen_of, slot_of, record_word, kind_of, mode_of}
use Rattle.layout.specs.Rows.{Row, rows, name_total, path_by, path_of, tree_from}
use Rattle.layout.specs.Slots.{total, contents}
use Rattle.layout.specs.Store.{Store, lent, count, live, rows_of, kind_at, state}
use Rattle.layout.specs.Lawful.{rows_ok, slot_by, Lawful}
use Rattle.model.specs.Calls.States.{edited}
use Rattle.layout.specs.Alike.{Spells}
use Rattle.records.specs.Blocks.{row_of, Opened}
use Rattle.layout.proofs.Named.{length-rows}
use Rattle.records.proofs.Entries.{rows-front}
use Rattle.layout.proofs.Worded.{record-depth, record-name, record-slot, head-length, head-kind, head-mode}
use Rattle.layout.specs.Parts.{path_after}
use Rattle.slots.specs.Times.{times_set}
use Rattle.layout.specs.Kinds.{code_of}
use Rattle.edit_entry.specs.declared.made.Fresh.{Fresh}
use Rattle.edit_entry.specs.declared.made.Made.{Made}
use Rattle.edit_entry.specs.declared.made.Made.TheVariants.{Directory, File, Link}
use Rattle.edit_entry.specs.Filling.{head_made, Filled}
use Rattle.edit_entry.specs.Growth.{new_row, new_meta, Timed, Grown}
use Rattle.edit_entry.specs.Insertion.{Vacancy, Insertable, InsertedAt, MayInsert, Placed, MayPut, PutAt}
use Rattle.edit_entry.specs.Made.{kind_made, bytes_made, Holds, insertion}
use Rattle.edit_entry.proofs.Grows.{grown-dir, grown-file, grown-link}
use Rattle.edit_entry.proofs.Places.{gap-tree, gap-rows}

-- ---- bounds

-- a path has no more names than entries lead to it
pub after-length : (p : Path) (rs : List Row) → length (path_after p rs) ≤ length p + length rs
unfolding path_after
after-length p [] = omega arith
after-length p (r ∷ rs) = omega (arith, after-length (path_of p r) rs, next r.depth)
  where
    next : (k : ℕ) → length (path_by k p r.name) ≤ suc (length p)
    next zero = omega arith
    next (suc k) = omega (arith, length-append (take k p) (r.name ∷ []), length-take k p)

pub name-short : (x : Name) → T (name_ok x) → length x ≤ 255
unfolding name_ok
name-short x t = leb→le (length x) 255 (and_left (leb (length x) 255) _ (and_right (proper x) _ t))

-- ---- the times

-- a time belongs to one slot
slot_of_time : (r s j n : ℕ) → j < 4 → n < 4 → 4 * r + j ≡ 4 * s + n → r ≡ s
slot_of_time r s j n a b e = omega arith

module _ (ts : List ℤ) (s : ℕ) (t : ℤ) (h : 4 * s + 4 ≤ length ts) where
  abbrev t₁ : List ℤ
  t₁ = set ts (4 * s) t

  abbrev t₂ : List ℤ
  t₂ = set t₁ (4 * s + 1) t

  abbrev t₃ : List ℤ
  t₃ = set t₂ (4 * s + 2) t

  long₁ : length t₁ ≡ length ts
  long₁ = length-set ts (4 * s) t

  long₂ : length t₂ ≡ length ts
  long₂ = length-set t₁ (4 * s + 1) t ∙ long₁

  long₃ : length t₃ ≡ length ts
  long₃ = length-set t₂ (4 * s + 2) t ∙ long₂

  pub timed-long : length (times_set ts s t t) ≡ length ts
  timed-long = length-set t₃ (4 * s + 3) t ∙ long₃

  -- a time of another slot
  pub timed_other : (i : ℕ) → ((j : ℕ) → j < 4 → i ≡ 4 * s + j → ⊥) → get_or (times_set ts s t t) i (pos 0) ≡ get_or ts i (pos 0)
  timed_other i apart =
      get_or-set_other t₃ (4 * s + 3) i t (pos 0) (apart 3 (omega arith))
      ∙ (get_or-set_other t₂ (4 * s + 2) i t (pos 0) (apart 2 (omega arith))
      ∙ (get_or-set_other t₁ (4 * s + 1) i t (pos 0) (apart 1 (omega arith)) ∙ get_or-set_other ts (4 * s) i t (pos 0) (λ e. apart 0 (omega arith) (e ∙ omega arith))))

  -- one of its own
  pub timed-here : (i : ℕ) → i < 4 → get_or (times_set ts s t t) (4 * s + i) (pos 0) ≡ t
  timed-here zero j = ap (λ (k : ℕ). get_or (times_set ts s t t) k (pos 0)) (add-zero (4 * s)) ∙ (get_or-set_other t₃ (4 * s + 3) (4 * s) t (pos 0) (λ e. omega arith) ∙ (get_or-set_other t₂ (4 * s + 2) (4 * s) t (pos 0) (λ e. omega arith) ∙ (get_or-set_other t₁ (4 * s + 1) (4 * s) t (pos 0) (λ e. omega arith) ∙ get_or-set_same ts (4 * s) t (pos 0) (omega arith))))
  timed-here (suc zero) j = get_or-set_other t₃ (4 * s + 3) (4 * s + 1) t (pos 0) (λ e. omega arith) ∙ (get_or-set_other t₂ (4 * s + 2) (4 * s + 1) t (pos 0) (λ e. omega arith) ∙ get_or-set_same t₁ (4 * s + 1) t (pos 0) (omega (arith, long₁)))
  timed-here (suc (suc zero)) j = get_or-set_other t₃ (4 * s + 3) (4 * s + 2) t (pos 0) (λ e. omega arith) ∙ get_or-set_same t₂ (4 * s + 2) t (pos 0) (omega (arith, long₂))
  timed-here (suc (suc (suc zero))) j = get_or-set_same t₃ (4 * s + 3) t (pos 0) (omega (arith, long₃))
  timed-here (suc (suc (suc (suc i)))) j = absurd (omega arith)

pub times-filled : (st st' : Store) (s : ℕ) (t : ℤ) → 4 * s + 4 ≤ length st.times → st'.times ≡ times_set st.times s t t → Timed st st' s t
times-filled st st' s t h e =
    record {
      long = ap length e ∙ timed-long st.times s t h;
      here = λ j y. ap (λ (z : List ℤ). get_or z (4 * s + j) (pos 0)) e ∙ timed-here st.times s t h j y;
      other = λ r j y d. ap (λ (z : List ℤ). get_or z (4 * r + j) (pos 0)) e ∙ timed_other st.times s t h (4 * r + j) (λ n u q. d (slot_of_time r s j n y u q));
    }

-- ---- the slot

code-low : (made : Made) → code_of (kind_made made) < 4
code-low Directory = omega arith
code-low (File c) = omega arith
code-low (Link c) = omega arith

module _ (made : Made) (new : Fresh) (small : length (bytes_made made) < 16777216) where
  pub size-made : len_of (head_made made new) ≡ length (bytes_made made)
  size-made = head-length (length (bytes_made made)) (code_of (kind_made made)) new.mode small (omega (arith, code-low made))

  pub kind-made : kind_of (head_made made new) ≡ code_of (kind_made made)
  kind-made = head-kind (length (bytes_made made)) (code_of (kind_made made)) new.mode small (omega (arith, code-low made))

  pub mode-made : mode_of (head_made made new) ≡ new.mode
  mode-made = head-mode (length (bytes_made made)) (code_of (kind_made made)) new.mode small (omega (arith, code-low made))

-- the slot of a new entry obeys its rule
pub holds-slot : (made : Made) (new : Fresh) → length (bytes_made made) < 16777216 → Holds made
    → T (slot_by (kind_of (head_made made new)) (head_made made new) 1 false (bytes_made made))
holds-slot made new small h =
    subst (λ (i : ℕ). T (slot_by i (head_made made new) 1 false (bytes_made made))) (sym (kind-made made new small))
    (go made (size-made made new small) h)
  where
    go : (y : Made) → len_of (head_made made new) ≡ length (bytes_made y) → Holds y → T (slot_by (code_of (kind_made y)) (head_made made new) 1 false (bytes_made y))
    go Directory e w = rw e tt
    go (File c) e w = tt
    go (Link c) e w = and_both (target_ok c.now) true w tt

-- ---- all steps

-- a slot's number fits a record
pub slot_small : {st : Store} {s : ℕ} → Lawful st → s < length st.heads → s < 65536
slot_small l h = omega (arith, l.exact.heads, l.slotted, l.entry_limit.1)

module _ {st : Store} {k depth : ℕ} {x : Name} {made : Made} (l : Lawful st) (i : Insertable st x made) (p : Placed st k depth x) where
  abbrev c : Bytes
  c = bytes_made made

  n-small : length c < 16777216
  n-small = omega (arith, i.fits, l.byte_limit.1)

  module _ {s w : ℕ} (z : (s < length st.heads) × (get_or st.heads s 0 ≡ 0)) (e : w ≡ record_word depth (length x) s) where
    pub may-open : (k ≤ count st) × (count st < length st.records) × (count st ≤ 4096) × (nlen_of w ≡ length x) × (name_total (take (count st) st.records) + length x ≤ length st.bytes)
    may-open = (
      p.last,
      omega (arith, l.exact.records, i.more),
      omega (arith, l.counted, l.entry_limit.1),
      ap nlen_of e ∙ record-name depth (length x) s p.small p.short,
      omega (arith, i.fits, l.exact.bytes),
    )

    module _ {rs' : List ℕ} {bs₁ : Bytes} (o : Opened st.records st.bytes rs' bs₁ (count st) k w x) where
      pub may-fill : (s < length st.heads) × (length st.heads ≤ 4128) × (get_or st.heads s 0 ≡ 0) × (4 * s + 4 ≤ length st.times) × (length c ≤ 1048576) × (total st.heads + length c ≤ length bs₁)
      may-fill = (
        z.0,
        omega (arith, l.exact.heads, l.slotted, l.entry_limit.1),
        z.1,
        omega (arith, l.exact.times, l.exact.heads, l.slotted, z.0),
        omega (arith, i.fits, l.byte_limit.1),
        omega (arith, i.fits, l.exact.bytes, o.byte_count),
      )

      module _ {hs' : List ℕ} {ts' : List ℤ} {bs' : Bytes} {new : Fresh} (f : Filled st.heads st.times bs₁ hs' ts' bs' s made new) {ws' : List ℕ} (g : ws' ≡ set st.words 2 (count st + 1)) where
        abbrev st' : Store
        st' = lent ws' rs' hs' ts' st.paths bs'

        abbrev h : ℕ
        h = head_made made new

        new-count : count st' ≡ count st + 1
        new-count = ap (λ (y : List ℕ). get_or y 2 0) g ∙ get_or-set_same st.words 2 (count st + 1) 0 (omega (arith, l.exact.words))

        -- the new row
        abbrev row : Row
        row = record { depth = depth; name = x; slot = s }

        row_is : row_of w x ≡ row
        row_is =
            let d : depth_of w ≡ depth = ap depth_of e ∙ record-depth depth (length x) s p.small p.short in
            let r : slot_of w ≡ s = ap slot_of e ∙ record-slot depth (length x) s p.small p.short in
            rw (d, r) refl

        names-kept : take (name_total (take (count st + 1) rs')) bs' ≡ take (name_total (take (count st + 1) rs')) bs₁
        names-kept = f.rest (name_total (take (count st + 1) rs')) (omega (arith, o.sum, i.fits, l.exact.bytes, o.byte_count))

        new-rows : rows_of st' ≡ take k (rows_of st) ++ (row ∷ drop k (rows_of st))
        new-rows =
            ap (λ (n : ℕ). rows (take n rs') bs') new-count
            ∙ (rows-front (take (count st + 1) rs') bs' bs₁ names-kept
            ∙ (o.all ∙ ap (λ (r : Row). take k (rows_of st) ++ (r ∷ drop k (rows_of st))) row_is))

        same-texts : contents st.heads bs₁ ≡ contents st.heads st.bytes
        same-texts = o.texts st.heads (omega (arith, i.fits, l.exact.bytes))

        timing : Timed st st' s new.time
        timing = times-filled st st' s new.time may-fill.3 f.times

        pub grown : Grown st st' (take k (rows_of st)) (drop k (rows_of st)) row h c new.time
        grown =
            record {
              counted = record { words = g ∙ ap (set st.words 2) (add-one (count st)); paths = refl; slots = ap length f.heads ∙ length-set st.heads s h };
              old = sym (take-append-drop k (rows_of st));
              new = new-rows;
              low = z.0;
              free = z.1;
              heads = f.heads;
              texts = f.texts ∙ ap (λ (cs : List Bytes). set cs s c) same-texts;
              size = size-made made new n-small;
              times = timing;
              records = o.record_count;
              bytes = f.long ∙ o.byte_count;
              names = ap (λ (n : ℕ). name_total (take n rs')) new-count ∙ o.sum;
              fits = i.fits;
              more = i.more;
            }

        pub put-at : PutAt st st' k depth x made new
        put-at = record { slot = s; grown = grown }

-- ---- an entry put in

module _ {st st' : Store} {k depth : ℕ} {x : Name} {made : Made} {new : Fresh} (l : Lawful st) (i : Insertable st x made) (u : PutAt st st' k depth x made new) where
  abbrev s : ℕ
  s = u.slot

  abbrev head : ℕ
  head = head_made made new

  small : length (bytes_made made) < 16777216
  small = omega (arith, i.fits, l.byte_limit.1)

  pub slot_ok_lem : T (slot_by (kind_of head) head 1 false (bytes_made made))
  slot_ok_lem = holds-slot made new small i.holds

  module _ {q : Path} (v : Vacancy st k depth q x) where
    abbrev a : List Row
    a = take k (rows_of st)

    abbrev b : List Row
    b = drop k (rows_of st)

    abbrev to : Path
    to = q ++ (x ∷ [])

    not-empty : a ≡ [] → ⊥
    not-empty y =
        let u = sym (length-take k (rows_of st)) ∙ ap length y in
        omega (arith, u, v.first, v.last, length-rows (live st) st.bytes, length-take (count st) st.records, l.exact.records, l.counted)

    grown-at : Grown st st' a b (new_row q x s) head (bytes_made made) new.time
    grown-at = subst (λ (d : ℕ). Grown st st' a b (record { depth = d; name = x; slot = s }) head (bytes_made made) new.time) v.deep u.grown

    abbrev tree : (d : ℕ → Node) → tree_from d [] (a ++ (new_row q x s ∷ b)) ≡ tree_from d [] a ++ ((to, d s) ∷ tree_from d (path_after [] a) b)
    tree = gap-tree l grown-at v.gap

    rules : T (rows_ok (kind_at st') (length st.heads) (a ++ (new_row q x s ∷ b)))
    rules = gap-rows l grown-at v.gap not-empty v.name

    inserted : Spells st' (edited (insertion made new to) (state st))
    inserted = go made refl
      where
        kind : {y : Made} → made ≡ y → kind_of head ≡ code_of (kind_made y)
        kind e = kind-made made new small ∙ ap (λ (u : Made). code_of (kind_made u)) e

        mode : mode_of head ≡ new.mode
        mode = mode-made made new small

        go : (y : Made) → made ≡ y → Spells st' (edited (insertion y new to) (state st))
        go Directory e =
            subst (λ (m : ℕ). Spells st' (edited (make to (new_meta m new.time)) (state st))) mode
            (grown-dir l grown-at to tree rules slot_ok_lem v.missing (kind e))
        go (File d) e =
            subst (λ (m : ℕ). Spells st' (edited (create to (record { meta = new_meta m new.time; bytes = d.now })) (state st))) mode
            (subst (λ (b : Bytes). Spells st' (edited (create to (record { meta = new_meta (mode_of head) new.time; bytes = b })) (state st))) (ap bytes_made e)
            (grown-file l grown-at to tree rules slot_ok_lem v.missing (kind e)))
        go (Link d) e =
            subst (λ (m : ℕ). Spells st' (edited (symlink to (new_meta m new.time) d.now) (state st))) mode
            (subst (λ (b : Bytes). Spells st' (edited (symlink to (new_meta (mode_of head) new.time) b) (state st))) (ap bytes_made e)
            (grown-link l grown-at to tree rules slot_ok_lem v.missing (kind e)))

    pub inserted-at : InsertedAt st st' k q x made new
    inserted-at = record { spells = inserted; slot = s; rows = grown-at.new }

-- ---- the place of an entry

module _ {st : Store} {k depth : ℕ} {q : Path} {x : Name} (l : Lawful st) (v : Vacancy st k depth q x) where
  pub name-length : length x < 256
  name-length = omega (arith, name-short x v.name)

  pub depth_small : depth < 65536
  depth_small =
      let a = after-length [] (take k (rows_of st)) in
      let b = sym (length-take (length q) (path_after [] (take k (rows_of st)))) ∙ ap length v.gap.within in
      let d = length-take k (rows_of st) in
      let e = length-rows (live st) st.bytes in
      let f = length-take (count st) st.records in
      omega (arith, a, b, d, e, f, v.deep, l.counted, l.entry_limit.1)

  pub placed : Placed st k depth x
  placed = record { last = v.last; small = depth_small; short = name-length }

-- what an insertion asks allows the step
pub may-put-in : {st : Store} {k depth : ℕ} {q : Path} {x : Name} {made : Made} → Lawful st → MayInsert st k depth q x made → MayPut st k depth x made
may-put-in l m = record { place = placed l m.vacant; allowed = m.allowed; free = m.free }
