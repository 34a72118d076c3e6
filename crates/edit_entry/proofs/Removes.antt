-- The steps of a removal, put together: the records and names, the number of entries, the slots. A slot has at most one entry, so
-- nothing but a file number has a slot of the block any more, and every slot without an entry and a number was free before.
-- Assumes nothing.
use mathlib.Core.Bool.{Bool, true, false, ◌||◌, false≢true}
use mathlib.Core.List.{List, [], ◌∷◌, ◌++◌}
use mathlib.Core.Path.{◌≡◌, refl, sym, ap, ◌∙◌, subst}
use Prim.Native.Nat.{ℕ, zero, suc, ◌+◌, ◌-◌, ◌*◌, ◌≤◌, ◌<◌}
use native.Mathlib.Decide.{ℕ_discrete}
use native.Mathlib.Omega.{arith}
use lib.Dec.{T, ltb}
use lib.ListN.{length, take, drop, get_or, set, length-set, get_or-eq_default}
use lib.Seq.{length-take-le, length-slice, take-suc, drop-cons, get_or-take, get_or-set_same, get_or-set_other}
use borrow.Author.Tests.{lt-ltb, le-ltb, ltb-true, ltb-false, eq-eqb, ne_eqb}
use Rattle.text.specs.Utf8.{Bytes}
use Rattle.blocks.proofs.Cuts.{thirds, none_between}
use Rattle.model.specs.Tree.{Path}
use Rattle.model.specs.Prog.{remove}
use Rattle.model.proofs.Entries.{is_true}
use Rattle.layout.specs.Fields.{depth_of, slot_of, kind_of}
use Rattle.layout.specs.Rows.{Row, rows, name_total, path_of}
use Rattle.layout.specs.Slots.{total}
use Rattle.layout.specs.Store.{Store, lent, count, live, holder, rows_of, kind_at, node_at, state}
use Rattle.layout.specs.Lawful.{rows_ok, uses, held_from, Lawful}
use Rattle.model.specs.Calls.States.{edited}
use Rattle.layout.specs.Alike.{Spells}
use Rattle.layout.proofs.Entered.{stood}
use Rattle.layout.proofs.Roots.{root_of, all_slots}
use Rattle.layout.proofs.Slotted.{SlotOf, free, directory, named, removed, target, slot-of}
use Rattle.layout.proofs.Used.{live-length}
use Rattle.layout.proofs.Walks.{SlotsIn}
use Rattle.slots.specs.Uses.{uses_in, stands_from, Within, Standing}
use Rattle.records.specs.Blocks.{Closed}
use Rattle.layout.proofs.Named.{length-rows}
use Rattle.records.proofs.Entries.{rows-front}
use Rattle.records.proofs.Fronts.{closed_in}
use Rattle.layout.specs.Parts.{path_after, Deeper, NotDeeper}
use Rattle.layout.proofs.Edited.Parted.{after_both, uses_both}
use Rattle.layout.proofs.Edited.Taking.{rows_cut, look-cut}
use Rattle.edit_entry.specs.Shrinkage.{stays, Shrunk}
use Rattle.edit_entry.proofs.Shrinking.{shrunk-spells}
use Rattle.edit_entry.specs.Clearing.{keeps_one, keeps_used, Cleared}
use Rattle.edit_entry.specs.Removal.{Block, Removed}
use Rattle.edit_entry.proofs.Clears.{stands-held, keep-here, keep_other}
use Rattle.slots.proofs.Rowed.{uses-rows, words_within, used-once}
use Rattle.edit_entry.proofs.Entries.{entry-depth, entry-slot, slot-low}

-- ---- the entries in their parts: the root, those before the block, its first, those below it, those behind

pub record Parts (all : List Row) (i e : ℕ) : Type 0 where
  pub root : Row
  pub before : List Row
  pub row : Row
  pub front : take i all ≡ root ∷ before
  pub block : drop i (take e all) ≡ row ∷ drop (suc i) (take e all)
  pub here : row ≡ get_or all i root
  pub path : take (suc i) all ≡ root ∷ (before ++ (row ∷ []))

parts : (all : List Row) (i e : ℕ) → 0 < i → i < e → e ≤ length all → Parts all i e
parts [] i e a b c = absurd (omega arith)
parts (r ∷ rs) zero e a b c = absurd (omega arith)
parts (r ∷ rs) (suc i) e a b c =
    record {
      root = r;
      before = take i rs;
      row = get_or (r ∷ rs) (suc i) r;
      front = refl;
      block =
          drop-cons (take e (r ∷ rs)) (suc i) r (omega (arith, length-take-le e (r ∷ rs) c))
          ∙ ap (λ (y : Row). y ∷ drop (suc (suc i)) (take e (r ∷ rs))) (get_or-take e (r ∷ rs) (suc i) r b);
      here = refl;
      path = take-suc (r ∷ rs) (suc i) r (omega arith);
    }

-- nothing has a slot that does not stay
unused : (u : ℕ) (t : Bool) → ltb 0 u || t ≡ false → (u ≡ 0) × (t ≡ false)
unused zero t e = (refl, e)
unused (suc u) t e = absurd (false≢true (sym e ∙ ap (λ (y : Bool). y || t) (lt-ltb 0 (suc u) (omega arith))))

module _ {st : Store} {i e : ℕ} (l : Lawful st) (block : Block st i e) where
  abbrev pub all : List Row
  all = rows_of st

  pub all_length : length all ≡ count st
  all_length = length-rows (live st) st.bytes ∙ live-length st l

  pub part : Parts all i e
  part = parts all i e block.first block.some (omega (arith, all_length, block.last))

  abbrev pub root : Row
  root = part.root

  abbrev pub a : List Row
  a = part.before

  abbrev pub row : Row
  row = part.row

  abbrev pub x : List Row
  x = drop (suc i) (take e all)

  abbrev pub b : List Row
  b = drop e all

  abbrev left : List Row
  left = root ∷ (a ++ b)

  abbrev s : ℕ
  s = slot_of (get_or st.records i 0)

  low : i < count st
  low = omega (arith, block.some, block.last)

  pub whole : all ≡ root ∷ (a ++ (row ∷ (x ++ b)))
  whole =
      thirds all i e (omega (arith, block.some))
      ∙ ((λ j. part.front j ++ (drop i (take e all) ++ drop e all)) ∙ ap (λ (y : List Row). (root ∷ a) ++ (y ++ drop e all)) part.block)

  pub rules : T (rows_ok (kind_at st) (length st.heads) (root ∷ (a ++ (row ∷ (x ++ b)))))
  rules = subst (λ (y : List Row). T (rows_ok (kind_at st) (length st.heads) y)) whole l.entries

  row-depth : row.depth ≡ depth_of (get_or st.records i 0)
  row-depth = ap (λ (r : Row). r.depth) part.here ∙ entry-depth st l i low root

  row-slot : row.slot ≡ s
  row-slot = ap (λ (r : Row). r.slot) part.here ∙ entry-slot st l i low root

  pub below : Deeper row.depth x
  below = subst (λ (d : ℕ). Deeper d x) (sym row-depth) block.below

  pub behind : NotDeeper row.depth b
  behind = subst (λ (d : ℕ). NotDeeper d b) (sym row-depth) block.behind

  pub long : length (row ∷ x) ≡ e - i
  long = ap length (sym part.block) ∙ length-slice i e all (omega (arith, all_length, block.last))

  pub entry-path : path_after [] (take (suc i) all) ≡ path_of (path_after [] a) row
  unfolding path_after
  entry-path =
      ap (path_after []) part.path
      ∙ (ap (λ (p : Path). path_after p (a ++ (row ∷ []))) (root_of (kind_at st) (length st.heads) root (a ++ (row ∷ (x ++ b))) rules).path ∙ after_both [] a (row ∷ []))

  -- ---- the slots

  uses_all : (k : ℕ) → uses k all ≡ uses k (row ∷ x) + uses k left
  uses_all k =
      ap (uses k) whole ∙ omega (arith, uses_both k (root ∷ a) (row ∷ (x ++ b)), uses_both k (row ∷ x) b, uses_both k (root ∷ a) b)

  uses-row : uses s (row ∷ x) ≡ 1 + uses s x
  unfolding uses
  uses-row = rw (eq-eqb row.slot s row-slot) refl

  -- what the file numbers stand on, by the new words
  module _ {ws' : List ℕ} (g : ws' ≡ set st.words 2 (count st - (e - i))) where
    same_holder : (j : ℕ) → get_or ws' (5 + 3 * j) 0 ≡ holder st j
    same_holder j = ap (λ (y : List ℕ). get_or y (5 + 3 * j) 0) g ∙ get_or-set_other st.words 2 (5 + 3 * j) (count st - (e - i)) 0 (λ z. omega arith)

    held : (k : ℕ) → stands_from ws' 32 0 k ≡ held_from st 32 0 k
    held k = stands-held st ws' same_holder 32 0 k

    new-count : get_or ws' 2 0 ≡ count st - (e - i)
    new-count = ap (λ (y : List ℕ). get_or y 2 0) g ∙ get_or-set_same st.words 2 (count st - (e - i)) 0 (omega (arith, l.exact.words))

    -- ---- all steps

    module _ {f : List ℕ} {bs₁ : Bytes} (taken : Closed (live st) st.bytes f bs₁ (length (live st)) i e) where
      abbrev rs' : List ℕ
      rs' = f ++ drop (count st) st.records

      c : Closed st.records st.bytes rs' bs₁ (count st) i e
      c = closed_in st.records (count st) (omega (arith, l.exact.records, l.counted)) block.last taken

      abbrev recs : List ℕ
      recs = take (count st - (e - i)) rs'

      left_rows : rows recs bs₁ ≡ left
      left_rows = c.all ∙ ap (λ (y : List Row). y ++ drop e all) part.front

      module _ {hs' : List ℕ} {bs' : Bytes} {keep : ℕ → Bool} (cl : Cleared st.heads bs₁ hs' bs' keep) (keeps : (k : ℕ) → stays st left k ≡ true → keep k ≡ true)
          (frees : (k : ℕ) → stays st left k ≡ false → keep k ≡ true → get_or st.heads k 0 ≡ 0) where
        abbrev st' : Store
        st' = lent ws' rs' hs' st.times st.paths bs'

        new-rows : rows_of st' ≡ left
        new-rows =
            ap (λ (n : ℕ). rows (take n rs') bs') new-count
            ∙ (rows-front recs bs' bs₁ (cl.rest (name_total recs) (omega (arith, c.sum, c.byte_count, l.space, l.exact.bytes))) ∙ left_rows)

        freed : (k : ℕ) → stays st left k ≡ false → (t : Bool) → keep k ≡ t → get_or hs' k 0 ≡ 0
        freed k h true t = cl.heads k t ∙ frees k h t
        freed k h false t = cl.freed k t

        shrunk : Shrunk st st' (root ∷ a) (row ∷ x) b
        shrunk =
            record {
              counted = record { words = g ∙ ap (λ (n : ℕ). set st.words 2 (count st - n)) (sym long); paths = refl; slots = cl.slots };
              old = whole;
              new = new-rows;
              kept_head = λ k h. cl.heads k (keeps k h);
              kept_bytes = λ k h. cl.texts k (keeps k h) ∙ ap (λ (y : List Bytes). get_or y k []) (c.texts st.heads (omega (arith, l.space, l.exact.bytes)));
              freed = λ k h. freed k h (keep k) refl;
              times = refl;
              records = c.record_count;
              bytes = cl.long ∙ c.byte_count;
              names = omega (arith, c.sum, ap (λ (n : ℕ). name_total (take n rs')) new-count);
              room = cl.room;
            }

        spelled : Spells st' (edited (remove (path_of (path_after [] a) row)) (state st))
        spelled =
            shrunk-spells st st' (root ∷ a) (row ∷ x) b l shrunk (path_of (path_after [] a) row) (rows_cut (kind_at st) (length st.heads) root a row x b rules below behind)
            (look-cut (kind_at st) (length st.heads) root a row x b rules below behind (node_at st))

        still : (k : ℕ) → 0 < uses k (rows_of st') → stays st left k ≡ true
        still k h = ap (λ (t : Bool). t || held_from st 32 0 k) (lt-ltb 0 (uses k left) (omega (arith, h, ap (uses k) new-rows)))

        removed-by : Removed st st' i e
        removed-by p h = record {
          spells = subst (λ (q : Path). Spells st' (edited (remove q) (state st))) (sym entry-path ∙ h) spelled;
          rows = new-rows ∙ ap (λ (y : List Row). y ++ b) (sym part.front);
          kinds = λ k u. ap kind_of (shrunk.kept_head k (still k u));
        }

      -- ---- one entry

      pub may-free-one : {t : ℕ} → t ≡ s → (length ws' ≡ 102) × (t < length st.heads) × (length st.heads ≤ 4128) × (total st.heads ≤ length bs₁)
      may-free-one h = (
        ap length g ∙ (length-set st.words 2 (count st - (e - i)) ∙ l.exact.words),
        omega (arith, h, slot-low st l i low),
        omega (arith, l.exact.heads, l.slotted, l.entry_limit.1),
        omega (arith, l.space, l.exact.bytes, c.byte_count),
      )

      none_left : uses s left ≡ 0
      none_left = omega (arith, uses_all s, uses-row, used-once st l s (slot-low st l i low))

      stays_here : stays st left s ≡ keeps_one ws' s s
      stays_here =
          ap (λ (y : Bool). y || held_from st 32 0 s) (le-ltb 0 (uses s left) (omega (arith, none_left)))
          ∙ (sym (held s) ∙ sym (keep-here ws' s s refl))

      -- a slot that nothing has is free already
      unused-free : (k : ℕ) → uses k all ≡ 0 → held_from st 32 0 k ≡ false → SlotOf st k → get_or st.heads k 0 ≡ 0
      unused-free k u h (free e y v w) = y
      unused-free k u h (directory e y v w) = absurd (omega arith)
      unused-free k u h (named e v) = absurd (omega arith)
      unused-free k u h (removed e v w) = absurd (false≢true (sym h ∙ is_true _ w))
      unused-free k u h (target e y v w) = absurd (omega arith)

      module _ (one : e - i ≡ 1) where
        uses_other : (k : ℕ) → (k ≡ s → ⊥) → uses k (row ∷ x) ≡ 0
        unfolding uses
        uses_other k d =
            let n : e ≡ suc i = omega (arith, one) in
            let y : x ≡ [] = ap (λ (m : ℕ). drop (suc i) (take m all)) n ∙ none_between all (suc i) in
            rw (ne_eqb row.slot k (λ z. d (sym z ∙ row-slot)), y) refl

        free-before : (k : ℕ) → stays st left k ≡ false → (k ≡ s → ⊥) → (t : Bool) → ltb k (length st.heads) ≡ t → get_or st.heads k 0 ≡ 0
        free-before k h d true t =
            let z = unused (uses k left) (held_from st 32 0 k) h in
            unused-free k (omega (arith, uses_all k, uses_other k d, z.0)) z.1 (slot-of st k (l.slots k (ltb-true k (length st.heads) t)))
        free-before k h d false t = get_or-eq_default st.heads 0 {n = k} (ltb-false k (length st.heads) t)

        pub removed-one : {t : ℕ} → t ≡ s → {hs' : List ℕ} {bs' : Bytes} → Cleared st.heads bs₁ hs' bs' (keeps_one ws' t) → Removed st (lent ws' rs' hs' st.times st.paths bs') i e
        removed-one u {hs'} {bs'} cl = removed-by (subst (λ (y : ℕ). Cleared st.heads bs₁ hs' bs' (keeps_one ws' y)) u cl) (λ k h. kept k h (ℕ_discrete k s)) (λ k h t. gone k h t (ℕ_discrete k s))
          where
            kept : (k : ℕ) → stays st left k ≡ true → Dec (k ≡ s) → keeps_one ws' s k ≡ true
            kept k h (yes z) = ap (keeps_one ws' s) z ∙ (sym stays_here ∙ (ap (stays st left) (sym z) ∙ h))
            kept k h (no z) = keep_other ws' s k z

            gone : (k : ℕ) → stays st left k ≡ false → keeps_one ws' s k ≡ true → Dec (k ≡ s) → get_or st.heads k 0 ≡ 0
            gone k h t (yes z) = absurd (false≢true (sym h ∙ (ap (stays st left) z ∙ (stays_here ∙ (ap (keeps_one ws' s) (sym z) ∙ t)))))
            gone k h t (no z) = free-before k h z (ltb k (length st.heads)) refl

      -- ---- more

      used-left : (k : ℕ) → uses_in k recs ≡ uses k left
      used-left k = sym (uses-rows k recs bs₁) ∙ ap (uses k) left_rows

      stays-used : (k : ℕ) → stays st left k ≡ keeps_used ws' recs k
      unfolding keeps_used
      stays-used k = sym (λ j. ltb 0 (used-left k j) || held k j)

      stood_on : (j : ℕ) → j < 32 → Dec (holder st j ≡ 0) → holder st j ≤ 4128
      stood_on j h (yes z) = omega (arith, z)
      stood_on j h (no z) = omega (arith, (stood st l j h z).low, l.exact.heads, l.slotted, l.entry_limit.1)

      left-slots : SlotsIn (length st.heads) (rows recs bs₁)
      left-slots = subst (SlotsIn (length st.heads)) (sym left_rows) (all_slots (kind_at st) (length st.heads) left (rows_cut (kind_at st) (length st.heads) root a row x b rules below behind))

      pub may-free-unused : (101 ≤ length ws') × Standing ws' × (length st.heads ≤ 4128) × Within (length st.heads) recs × ((k : ℕ) → k < length st.heads → uses_in k recs ≤ 1) × (total st.heads ≤ length bs₁)
      may-free-unused = (
        omega (arith, (may-free-one {t = s} refl).0),
        (λ j h. subst (λ (y : ℕ). y ≤ 4128) (sym (same_holder j)) (stood_on j h (ℕ_discrete (holder st j) 0))),
        (may-free-one {t = s} refl).2,
        words_within (length st.heads) recs bs₁ left-slots,
        (λ k h. omega (arith, used-left k, uses_all k, used-once st l k h)),
        (may-free-one {t = s} refl).3,
      )

      pub removed-more : {hs' : List ℕ} {bs' : Bytes} → Cleared st.heads bs₁ hs' bs' (keeps_used ws' recs) → Removed st (lent ws' rs' hs' st.times st.paths bs') i e
      removed-more cl =
          removed-by cl (λ k h. sym (stays-used k) ∙ h) (λ k h t. absurd (false≢true (sym h ∙ (stays-used k ∙ t))))
