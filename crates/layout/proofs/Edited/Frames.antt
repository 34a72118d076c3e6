-- An edit that leaves the entries, and each slot that an entry or a number has: the tree that is read back is the same, and every file
-- that is left was there. So the store obeys the rules where its numbers, its current directory and its umask do, and is alike the old
-- state with the new numbers, current directory and umask.
-- Assumes nothing.
use mathlib.Core.Bool.{true, false}
use mathlib.Core.List.{List, []}
use mathlib.Core.Option.{some}
use mathlib.Core.Path.{◌≡◌, sym, ap, ◌∙◌, subst}
use Prim.Native.Nat.{ℕ, ◌+◌, ◌≤◌, ◌<◌, ◌^◌}
use native.Mathlib.Omega.{arith}
use lib.Dec.{T}
use lib.ListN.{length, get_or}
use Rattle.model.specs.Tree.{Path, File, Open, Entries, look, file_of, open_of}
use Rattle.model.specs.Calls.States.{state_of}
use Rattle.model.proofs.Entries.{of_true}
use Rattle.layout.specs.Fields.{kind_of}
use Rattle.layout.specs.Rows.{name_total, tree_from}
use Rattle.layout.specs.Slots.{total}
use Rattle.layout.specs.Store.{Store, most, room, count, extent, mask, here_length, live, rows_of, meta_at, bytes_at, kind_at, node_by, node_at, state}
use Rattle.layout.specs.Lawful.{rows_ok, uses, held_from, slot_by, slot_ok, kept_ok, number_ok, Exact, Lawful}
use Rattle.layout.specs.Alike.{Spells}
use Rattle.layout.proofs.Tables.{IsFile, file-found}
use Rattle.layout.proofs.Entered.{has_file}
use Rattle.layout.proofs.Edited.Telling.{same_alike}
use Rattle.layout.proofs.Edited.Shapes.{lawful-shape}
use Rattle.layout.proofs.Edited.Parted.{tree-slots, rows-slots}

module _ (st st' : Store) where
  -- a slot as it was
  pub record SameSlot (i : ℕ) : Type 0 where
    pub head : get_or st'.heads i 0 ≡ get_or st.heads i 0
    pub meta : meta_at st' i ≡ meta_at st i
    pub bytes : bytes_at st' i ≡ bytes_at st i

  -- a slot after the edit: the same in all, or a file with a name, whatever numbers stand on it, or free
  pub data After (i : ℕ) : Type 0 where
    stays : SameSlot i → held_from st' 32 0 i ≡ held_from st 32 0 i → After i
    keeps : SameSlot i → kind_at st i ≡ 2 → uses i (rows_of st) ≡ 1 → After i
    freed : get_or st'.heads i 0 ≡ 0 → uses i (rows_of st) ≡ 0 → held_from st' 32 0 i ≡ false → After i

  -- what is left
  pub record Leaves : Type 0 where
    pub exact : Exact st'
    pub most_same : most st' ≡ most st
    pub room_same : room st' ≡ room st
    pub count_same : count st' ≡ count st
    pub extent_same : extent st' ≡ extent st
    pub rows_same : rows_of st' ≡ rows_of st
    pub space : name_total (live st') + total st'.heads ≤ room st
    pub slots : (i : ℕ) → After i

  module _ (l : Lawful st) (v : Leaves) where
    -- an entry's slot is as it was
    used-same : (i : ℕ) → 1 ≤ uses i (rows_of st) → SameSlot i
    used-same i u = go (v.slots i)
      where
        go : After i → SameSlot i
        go (stays s h) = s
        go (keeps s k n) = s
        go (freed z n h) = absurd (omega arith)

    node_same : (i : ℕ) → SameSlot i → node_at st' i ≡ node_at st i
    node_same i s = λ j. node_by (kind_of (s.head j)) i (s.meta j) (s.bytes j)

    pub same_tree : (state st').tree ≡ (state st).tree
    same_tree =
        ap (tree_from (node_at st') []) v.rows_same
        ∙ tree-slots (node_at st') (node_at st) [] (rows_of st) (λ i u. node_same i (used-same i u))

    -- ---- the files

    same-heads : length st'.heads ≡ length st.heads
    same-heads = omega (arith, v.exact.heads, l.exact.heads, v.extent_same)

    file-before : (i : ℕ) (f : File) → file_of (state st').files i ≡ some f → file_of (state st).files i ≡ some f
    file-before i f e = go (file-found st' (length st'.heads) 0 i f e) (v.slots i)
      where
        same : IsFile st' (length st'.heads) 0 i f → SameSlot i → file_of (state st).files i ≡ some f
        same h s =
            has_file st l i (omega (arith, h.high, same-heads)) (ap kind_of (sym s.head) ∙ h.kind)
            ∙ ap some (sym (h.file ∙ (λ j. record { meta = s.meta j; bytes = s.bytes j })))

        go : IsFile st' (length st'.heads) 0 i f → After i → file_of (state st).files i ≡ some f
        go h (stays s u) = same h s
        go h (keeps s k n) = same h s
        go h (freed z n u) = absurd (let x : ◌≡◌ {A = ℕ} 0 2 = sym (ap kind_of z) ∙ h.kind in omega arith)

    -- ---- the rules

    slot-after : (i : ℕ) → i < length st.heads → T (slot_ok st' i)
    slot-after i h = go (v.slots i)
      where
        go : After i → T (slot_ok st' i)
        go (stays s e) =
            let x : slot_ok st' i ≡ slot_ok st i = λ j. slot_by (kind_of (s.head j)) (s.head j) (uses i (v.rows_same j)) (e j) (s.bytes j) in
            subst T (sym x) (l.slots i h)
        go (keeps s k n) =
            let a : kind_at st' i ≡ 2 = ap kind_of s.head ∙ k in
            let b : uses i (rows_of st') ≡ 1 = ap (uses i) v.rows_same ∙ n in
            let x : slot_ok st' i ≡ true = λ j. slot_by (a j) (get_or st'.heads i 0) (b j) (held_from st' 32 0 i) (bytes_at st' i) in
            of_true x
        go (freed z n u) =
            let b : uses i (rows_of st') ≡ 0 = ap (uses i) v.rows_same ∙ n in
            let x : slot_ok st' i ≡ true = λ j. slot_by (kind_of (z j)) (z j) (b j) (u j) (bytes_at st' i) in
            of_true x

    entries-after : T (rows_ok (kind_at st') (length st'.heads) (rows_of st'))
    entries-after =
        let x : rows_ok (kind_at st') (length st'.heads) (rows_of st') ≡ rows_ok (kind_at st') (length st.heads) (rows_of st) =
        λ j. rows_ok (kind_at st') (same-heads j) (v.rows_same j) in
        subst T (sym (x ∙ rows-slots (kind_at st') (kind_at st) (length st.heads) (rows_of st) (λ i u. ap kind_of (used-same i u).head))) l.entries

    pub left-lawful : ((n : ℕ) → n < 32 → T (number_ok st' n)) → T (kept_ok st' 0 (here_length st')) → mask st' < 2 ^ 32 → Lawful st'
    left-lawful n h m =
        record {
          exact = v.exact;
          entry_limit = (omega (arith, l.entry_limit.0, v.most_same), omega (arith, l.entry_limit.1, v.most_same));
          byte_limit = (omega (arith, l.byte_limit.0, v.room_same), omega (arith, l.byte_limit.1, v.room_same));
          counted = omega (arith, l.counted, v.most_same, v.count_same);
          slotted = omega (arith, l.slotted, v.most_same, v.extent_same);
          space = omega (arith, v.space, v.room_same);
          entries = entries-after;
          slots = λ i k. slot-after i (omega (arith, k, same-heads));
          numbers = n;
          here = h;
          umask = m;
        }

    -- the state with other numbers, another current directory, another umask
    pub left-spells : ((n : ℕ) → n < 32 → T (number_ok st' n)) → T (kept_ok st' 0 (here_length st')) → mask st' < 2 ^ 32
        → (os : List Open) → ((n : ℕ) → open_of (state st').opens n ≡ open_of os n) → (p : Path) → (state st').here ≡ p → (m : ℕ) → mask st' ≡ m
        → Spells st' (state_of (state st) (record { at = (state st).tree; hand = []; files = (state st).files; opens = os; here = p; mask = m }))
    left-spells n h k os o p q m r =
        let y : Lawful st' = left-lawful n h k in
        record {
          lawful = y;
          alike =
              same_alike (state st') (state st) (record { at = (state st).tree; hand = []; files = (state st).files; opens = os; here = p; mask = m })
              (lawful-shape st' y) (λ a. ap (λ (t : Entries). look t a) same_tree) o (λ i f _ e. file-before i f e) q r (lawful-shape st l).paths v.most_same v.room_same;
        }
