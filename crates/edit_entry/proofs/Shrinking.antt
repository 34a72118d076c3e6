-- A store without a block of its entries obeys the rules and spells the state without it: a slot of the block stays only where a
-- file number stands on it.
-- Assumes nothing.
use mathlib.Core.Bool.{Bool, true, false, ◌||◌, false≢true}
use mathlib.Core.List.{List, [], ◌++◌}
use mathlib.Core.Logic.{◌⊎◌, inl, inr}
use mathlib.Core.Option.{some}
use mathlib.Core.Path.{◌≡◌, refl, sym, ap, ◌∙◌, subst}
use Prim.Native.Nat.{ℕ, zero, suc, ◌+◌, ◌-◌, ◌*◌, ◌≤◌, ◌<◌}
use native.Mathlib.Omega.{arith}
use lib.Dec.{T, ltb}
use lib.ListN.{length, get_or, length-set}
use borrow.Author.Tests.{lt-ltb, ltb-true}
use Rattle.model.specs.Tree.{Path, File, Entries, Open, look, file_of, open_of, cut}
use Rattle.model.specs.Prog.{remove, apply}
use Rattle.model.specs.Calls.States.{world_of, edited}
use Rattle.model.proofs.Demand.Contents.{or_elim, or_right}
use Rattle.model.proofs.Entries.{is_true, is_false, of_true, apart-cut}
use Rattle.layout.specs.Fields.{kind_of}
use Rattle.layout.specs.Rows.{Row, tree_from}
use Rattle.layout.specs.Store.{Store, count, rows_of, meta_at, bytes_at, kind_at, node_at, state, slots_for}
use Rattle.layout.specs.Lawful.{rows_ok, uses, held_from, slot_by, slot_ok, Lawful}
use Rattle.layout.specs.Alike.{Spells}
use Rattle.layout.proofs.Slotted.{SlotOf, free, directory, named, removed, target, slot-of}
use Rattle.layout.proofs.Tables.{file-found, file_there}
use Rattle.layout.proofs.Edited.Parted.{Has, uses_both, tree-slots, rows-slots}
use Rattle.layout.proofs.Edited.Shapes.{lawful-shape}
use Rattle.layout.proofs.Edited.Telling.{same_alike}
use Rattle.edit_entry.specs.Shrinkage.{stays, Shrunk}
use Rattle.edit_entry.proofs.Counted.{same_most, same_room, same_extent, same_mask, new-count, same_held, same_opens, same_here, here-ok, number_ok_lem}
use Rattle.edit_entry.proofs.Adding.{node_same, slot_same}

module _ (st st' : Store) (a x b : List Row) (l : Lawful st) (g : Shrunk st st' a x b) where
  abbrev left : List Row
  left = a ++ b

  abbrev c : ℕ
  c = count st - length x

  -- ---- the slots

  uses_all : (k : ℕ) → uses k (rows_of st) ≡ uses k x + uses k left
  uses_all k =
      ap (uses k) g.old ∙ omega (arith, uses_both k a (x ++ b), uses_both k x b, uses_both k a b)

  has_stays : (k : ℕ) → Has left k → stays st left k ≡ true
  has_stays k u = ap (λ (y : Bool). y || held_from st 32 0 k) (lt-ltb 0 (uses k left) u)

  none_left : (k : ℕ) → stays st left k ≡ false → uses k left ≡ 0
  none_left k e = go (uses k left) refl
    where
      go : (i : ℕ) → uses k left ≡ i → uses k left ≡ 0
      go zero z = z
      go (suc i) z = absurd (false≢true (sym e ∙ has_stays k (omega (arith, z))))

  -- a slot that no entry has any more stays for a file number
  stays-held : (k : ℕ) → T (stays st left k) → uses k left ≡ 0 → T (held_from st 32 0 k)
  stays-held k t u = go (or_elim (ltb 0 (uses k left)) (held_from st 32 0 k) t)
    where
      go : T (ltb 0 (uses k left)) ⊎ T (held_from st 32 0 k) → T (held_from st 32 0 k)
      go (inl y) = absurd (omega (arith, ltb-true 0 (uses k left) (is_true _ y)))
      go (inr y) = y

  -- its rule with the entries that are left
  abbrev Rule : ℕ → Type 0
  Rule k = T (slot_by (kind_at st k) (get_or st.heads k 0) (uses k left) (held_from st 32 0 k) (bytes_at st k))

  lost-slot : (k : ℕ) → T (stays st left k) → 1 ≤ uses k x → SlotOf st k → Rule k
  lost-slot k t u (free e h v w) = absurd (omega (arith, uses_all k))
  lost-slot k t u (directory e h v w) = absurd (w (stays-held k t (omega (arith, uses_all k))))
  lost-slot k t u (removed e v w) = absurd (omega (arith, uses_all k))
  lost-slot k t u (target e h v w) = absurd (w (stays-held k t (omega (arith, uses_all k))))
  lost-slot k t u (named e v) =
      let z : uses k left ≡ 0 = omega (arith, uses_all k) in
      let y : held_from st 32 0 k ≡ true = is_true _ (stays-held k t z) in
      subst T (sym (slot_same e refl z y refl)) tt

  kept_slot : (k : ℕ) → k < length st.heads → T (stays st left k) → Rule k
  kept_slot k n t = go (uses k x) refl
    where
      go : (i : ℕ) → uses k x ≡ i → Rule k
      go zero e =
          let z : uses k (rows_of st) ≡ uses k left = omega (arith, e, uses_all k) in
          subst (λ (u : ℕ). T (slot_by (kind_at st k) (get_or st.heads k 0) u (held_from st 32 0 k) (bytes_at st k))) z (l.slots k n)
      go (suc i) e = lost-slot k t (omega (arith, e)) (slot-of st k (l.slots k n))

  slots-ok : (k : ℕ) → k < length st.heads → (y : Bool) → stays st left k ≡ y → T (slot_ok st' k)
  slots-ok k n true e =
      subst T
      (sym (slot_same (ap kind_of (g.kept_head k e)) (g.kept_head k e) (ap (uses k) g.new) (same_held g.counted 32 0 k) (g.kept_bytes k e)))
      (kept_slot k n (of_true e))
  slots-ok k n false e =
      let h = g.freed k e in
      let u : uses k left ≡ 0 = none_left k e in
      let w : held_from st 32 0 k ≡ false = is_false _ (λ y. false≢true (sym e ∙ is_true _ (or_right (ltb 0 (uses k left)) _ y))) in
      subst T (sym (slot_same (ap kind_of h) h (ap (uses k) g.new ∙ u) (same_held g.counted 32 0 k ∙ w) refl)) tt

  -- ---- the entries that are left

  same_kind : (k : ℕ) → Has left k → kind_at st k ≡ kind_at st' k
  same_kind k u = sym (ap kind_of (g.kept_head k (has_stays k u)))

  same_meta : (k : ℕ) → stays st left k ≡ true → meta_at st' k ≡ meta_at st k
  same_meta k e = rw (g.kept_head k e, g.times) refl

  same_node : (k : ℕ) → Has left k → node_at st' k ≡ node_at st k
  same_node k u = node_same k (sym (same_kind k u)) (same_meta k (has_stays k u)) (g.kept_bytes k (has_stays k u))

  pub shrunk-lawful : T (rows_ok (kind_at st) (length st.heads) left) → Lawful st'
  shrunk-lawful rs =
      let r = g.counted in
      let most-same = same_most r in
      let room_same_lem = same_room r in
      let extent-same = same_extent r in
      let old = l.exact in
      record {
        exact =
            record {
              words = ap length r.words ∙ (length-set st.words 2 c ∙ old.words);
              records = g.records ∙ (old.records ∙ sym most-same);
              heads = r.slots ∙ (old.heads ∙ sym extent-same);
              times = ap length g.times ∙ (old.times ∙ ap (λ (k : ℕ). 4 * slots_for k) (sym most-same));
              paths = ap length r.paths ∙ old.paths;
              bytes = g.bytes ∙ (old.bytes ∙ sym room_same_lem);
            };
        entry_limit = rw most-same l.entry_limit;
        byte_limit = rw room_same_lem l.byte_limit;
        counted = rw (new-count r (omega (arith, old.words)), most-same) (omega (arith, l.counted));
        slotted = rw (extent-same, most-same) l.slotted;
        space = rw room_same_lem (omega (arith, g.names, g.room, l.space));
        entries =
            subst (λ (k : ℕ). T (rows_ok (kind_at st') k (rows_of st'))) (sym r.slots)
            (subst (λ (y : List Row). T (rows_ok (kind_at st') (length st.heads) y)) (sym g.new)
            (subst T (rows-slots (kind_at st) (kind_at st') (length st.heads) left same_kind) rs));
        slots = λ k n. slots-ok k (subst (λ (i : ℕ). k < i) r.slots n) (stays st left k) refl;
        numbers = λ n k. number_ok_lem r n (l.numbers n k);
        here = here-ok r l.here;
        umask = rw (same_mask r) l.umask;
      }

  -- ---- the state

  old-file : (i : ℕ) (f : File) → file_of (state st').files i ≡ some f → file_of (state st).files i ≡ some f
  old-file i f e = go (stays st left i) refl
    where
      go : (y : Bool) → stays st left i ≡ y → file_of (state st).files i ≡ some f
      go true z =
          let h = file-found st' (length st'.heads) 0 i f e in
          file_there st (length st.heads) 0 i (omega arith) (omega (arith, g.counted.slots)) (sym (ap kind_of (g.kept_head i z)) ∙ h.kind)
          ∙ ap some (rw (← same_meta i z, ← g.kept_bytes i z) (sym h.file))
      go false z =
          let h = file-found st' (length st'.heads) 0 i f e in
          absurd (let d : kind_at st' i ≡ 0 = ap kind_of (g.freed i z) in omega (arith, h.kind))

  pub shrunk-spells : (p : Path) → T (rows_ok (kind_at st) (length st.heads) left)
      → ((q : Path) → look (tree_from (node_at st) [] left) q ≡ look (cut p (tree_from (node_at st) [] (a ++ (x ++ b)))) q) → Spells st' (edited (remove p) (state st))
  unfolding apply
  shrunk-spells p rs h =
      let after = shrunk-lawful rs in
      record {
        lawful = after;
        alike =
            same_alike (state st') (state st) (apply (remove p) (world_of (state st))) (lawful-shape st' after)
            (λ q.
            ap (λ (y : List Row). look (tree_from (node_at st') [] y) q) g.new
            ∙ (ap (λ (y : Entries). look y q) (tree-slots (node_at st') (node_at st) [] left same_node)
            ∙ (h q ∙ ap (λ (y : List Row). look (cut p (tree_from (node_at st) [] y)) q) (sym g.old))))
            (λ n. ap (λ (y : List Open). open_of y n) (same_opens g.counted))
            (λ i f _ e. old-file i f e)
            (same_here g.counted)
            (same_mask g.counted)
            (apart-cut p (state st).tree (lawful-shape st l).paths)
            (same_most g.counted)
            (same_room g.counted);
      }
