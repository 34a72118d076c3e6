-- A store with one entry more, wherever it stands, obeys the rules where its rows do: its slot was free, so no other entry and no number
-- has it.
-- Assumes nothing.
use mathlib.Core.Bool.{Bool, false, cond}
use mathlib.Core.List.{List, []}
use mathlib.Core.Path.{◌≡◌, refl, sym, ap, ◌∙◌, subst}
use Prim.Native.Nat.{ℕ, suc, ◌+◌, ◌*◌, ◌≤◌, ◌<◌}
use native.Mathlib.Decide.{ℕ_discrete}
use native.Mathlib.Omega.{arith}
use lib.Dec.{T, eqb}
use lib.IntN.{pos}
use lib.ListN.{length, get_or, set, length-set}
use lib.Seq.{get_or-set_same, get_or-set_other}
use borrow.Author.Tests.{eq-eqb, ne_eqb}
use Rattle.text.specs.Utf8.{Bytes}
use Rattle.model.specs.Tree.{Time, Meta}
use Rattle.model.proofs.Entries.{is_false}
use Rattle.layout.specs.Fields.{len_of, kind_of, mode_of}
use Rattle.layout.specs.Rows.{Row, name_total}
use Rattle.layout.specs.Slots.{total, contents}
use Rattle.layout.specs.Store.{Store, count, most, room, live, rows_of, meta_at, bytes_at, kind_at, node_by, node_at, slots_for}
use Rattle.layout.specs.Lawful.{rows_ok, uses, held_from, slot_by, slot_ok, Lawful}
use Rattle.layout.proofs.Slotted.{SlotOf, free, directory, named, removed, target, slot-of}
use Rattle.slots.proofs.Contents.{length-contents}
use Rattle.slots.proofs.Totals.{total-set}
use Rattle.layout.proofs.Edited.Parted.{Has, rows-slots}
use Rattle.edit_entry.specs.Growth.{new_meta, Recounted, Timed}
use Rattle.edit_entry.proofs.Counted.{same_most, same_room, same_extent, same_mask, new-count, same_held, here-ok, number_ok_lem}

-- a slot by what is read of it
pub node_same : {i j : ℕ} {m n : Meta} {c d : Bytes} (k : ℕ) → i ≡ j → m ≡ n → c ≡ d → node_by i k m c ≡ node_by j k n d
node_same {i} {j} {m} {n} {c} {d} k e f g =
    ap (λ (y : ℕ). node_by y k m c) e ∙ (ap (λ (y : Meta). node_by j k y c) f ∙ ap (λ (y : Bytes). node_by j k n y) g)

pub slot_same : {i j h o u v : ℕ} {p r : Bool} {c d : Bytes} → i ≡ j → h ≡ o → u ≡ v → p ≡ r → c ≡ d → slot_by i h u p c ≡ slot_by j o v r d
slot_same {i} {j} {h} {o} {u} {v} {p} {r} {c} {d} e f g k m =
    ap (λ (y : ℕ). slot_by y h u p c) e
    ∙ (ap (λ (y : ℕ). slot_by j y u p c) f ∙ (ap (λ (y : ℕ). slot_by j o y p c) g ∙ (ap (λ (y : Bool). slot_by j o v y c) k ∙ ap (λ (y : Bytes). slot_by j o v r y) m)))

-- Rows with one more, which has a slot that was free, whose word is now h and whose bytes are c; n bytes of names more.
pub record Added (st st' : Store) (rs rs' : List Row) (s n h : ℕ) (c : Bytes) (t : Time) : Type 0 where
  pub counted : Recounted st st' (suc (count st))
  pub old : rows_of st ≡ rs
  pub new : rows_of st' ≡ rs'
  pub users : (k : ℕ) → uses k rs' ≡ cond (eqb s k) 1 0 + uses k rs
  pub low : s < length st.heads
  pub free : get_or st.heads s 0 ≡ 0
  pub heads : st'.heads ≡ set st.heads s h
  pub texts : contents st'.heads st'.bytes ≡ set (contents st.heads st.bytes) s c
  pub size : len_of h ≡ length c
  pub times : Timed st st' s t
  pub records : length st'.records ≡ length st.records
  pub bytes : length st'.bytes ≡ length st.bytes
  pub names : name_total (live st') ≡ name_total (live st) + n
  pub fits : name_total (live st) + n + total st.heads + length c ≤ room st
  pub more : count st < most st

module _ {st st' : Store} {rs rs' : List Row} {s n h : ℕ} {c : Bytes} {t : Time} (l : Lawful st) (g : Added st st' rs rs' s n h c t) where
  -- ---- the slot was free

  free-slot : SlotOf st s → (uses s (rows_of st) ≡ 0) × (held_from st 32 0 s ≡ false)
  free-slot (free e y u w) = (u, is_false (held_from st 32 0 s) w)
  free-slot (directory e y u w) = absurd (let k : kind_at st s ≡ 0 = ap kind_of g.free in omega arith)
  free-slot (named e u) = absurd (let k : kind_at st s ≡ 0 = ap kind_of g.free in omega arith)
  free-slot (removed e u w) = absurd (let k : kind_at st s ≡ 0 = ap kind_of g.free in omega arith)
  free-slot (target e y u w) = absurd (let k : kind_at st s ≡ 0 = ap kind_of g.free in omega arith)

  pub was_free : (uses s (rows_of st) ≡ 0) × (held_from st 32 0 s ≡ false)
  was_free = free-slot (slot-of st s (l.slots s g.low))

  -- ---- the other slots

  pub other_head : (k : ℕ) → (k ≡ s → ⊥) → get_or st'.heads k 0 ≡ get_or st.heads k 0
  other_head k e = ap (λ (hs : List ℕ). get_or hs k 0) g.heads ∙ get_or-set_other st.heads s k h 0 e

  pub other_bytes : (k : ℕ) → (k ≡ s → ⊥) → bytes_at st' k ≡ bytes_at st k
  other_bytes k e = ap (λ (cs : List Bytes). get_or cs k []) g.texts ∙ get_or-set_other (contents st.heads st.bytes) s k c [] e

  pub other_meta : (k : ℕ) → (k ≡ s → ⊥) → meta_at st' k ≡ meta_at st k
  other_meta k e =
      let z : 4 * k ≡ 4 * k + 0 = omega arith in
      rw (other_head k e, g.times.other k 1 (omega arith) e, g.times.other k 2 (omega arith) e, g.times.other k 3 (omega arith) e)
      (ap (λ (y : Time). record { mode = mode_of (get_or st.heads k 0); accessed = y; changed = get_or st.times (4 * k + 1) (pos 0); created = get_or st.times (4 * k + 2) (pos 0); modified = get_or st.times (4 * k + 3) (pos 0) })
      (ap (λ (i : ℕ). get_or st'.times i (pos 0)) z ∙ (g.times.other k 0 (omega arith) e ∙ ap (λ (i : ℕ). get_or st.times i (pos 0)) (sym z))))

  -- ---- the new one

  pub new-head : get_or st'.heads s 0 ≡ h
  new-head = ap (λ (hs : List ℕ). get_or hs s 0) g.heads ∙ get_or-set_same st.heads s h 0 g.low

  pub new-bytes : bytes_at st' s ≡ c
  new-bytes =
      ap (λ (cs : List Bytes). get_or cs s []) g.texts
      ∙ get_or-set_same (contents st.heads st.bytes) s c [] (subst (λ (k : ℕ). s < k) (sym (length-contents st.heads st.bytes)) g.low)

  pub new-meta : meta_at st' s ≡ new_meta (mode_of h) t
  new-meta =
      let z : 4 * s ≡ 4 * s + 0 = omega arith in
      rw (new-head, g.times.here 1 (omega arith), g.times.here 2 (omega arith), g.times.here 3 (omega arith))
      (ap (λ (y : Time). record { mode = mode_of h; accessed = y; changed = t; created = t; modified = t }) (ap (λ (i : ℕ). get_or st'.times i (pos 0)) z ∙ g.times.here 0 (omega arith)))

  -- ---- what other entries are

  pub not_new : (k : ℕ) → Has rs k → k ≡ s → ⊥
  not_new k u e = let z = was_free.0 in let y : uses s rs ≡ 0 = ap (uses s) (sym g.old) ∙ z in let v : uses k rs ≡ 0 = ap (λ (i : ℕ). uses i rs) e ∙ y in omega arith

  pub same_kind : (k : ℕ) → Has rs k → kind_at st k ≡ kind_at st' k
  same_kind k u = sym (ap kind_of (other_head k (not_new k u)))

  pub same_node : (k : ℕ) → Has rs k → node_at st' k ≡ node_at st k
  same_node k u = node_same k (sym (same_kind k u)) (other_meta k (not_new k u)) (other_bytes k (not_new k u))

  -- the rules of the entries that were there hold as well by what the slots now hold
  pub rows_still : T (rows_ok (kind_at st') (length st.heads) rs)
  rows_still =
      subst T (rows-slots (kind_at st) (kind_at st') (length st.heads) rs same_kind)
      (subst (λ (rs : List Row). T (rows_ok (kind_at st) (length st.heads) rs)) g.old l.entries)

  -- ---- the rules

  uses_other : (k : ℕ) → (k ≡ s → ⊥) → uses k (rows_of st') ≡ uses k (rows_of st)
  uses_other k e =
      let z : ◌≡◌ {A = ℕ} (cond (eqb s k) 1 0) 0 = ap (λ (y : Bool). cond {A = ℕ} y 1 0) (ne_eqb s k (λ d. e (sym d))) in
      ap (uses k) g.new ∙ (omega (arith, g.users k, z) ∙ ap (uses k) (sym g.old))

  uses-new : uses s (rows_of st') ≡ 1
  uses-new =
      let z : ◌≡◌ {A = ℕ} (cond (eqb s s) 1 0) 1 = ap (λ (y : Bool). cond {A = ℕ} y 1 0) (eq-eqb s s refl) in
      let u : uses s rs ≡ 0 = ap (uses s) (sym g.old) ∙ was_free.0 in
      ap (uses s) g.new ∙ omega (arith, g.users s, z, u)

  slots-ok : T (slot_by (kind_of h) h 1 false c) → (k : ℕ) → k < length st.heads → T (slot_ok st' k)
  slots-ok o k low = go (ℕ_discrete k s)
    where
      go : Dec (k ≡ s) → T (slot_ok st' k)
      go (yes e) =
          subst (λ (i : ℕ). T (slot_ok st' i)) (sym e)
          (subst T (sym (slot_same (ap kind_of new-head) new-head uses-new (same_held g.counted 32 0 s ∙ was_free.1) new-bytes)) o)
      go (no e) =
          subst T (sym (slot_same (ap kind_of (other_head k e)) (other_head k e) (uses_other k e) (same_held g.counted 32 0 k) (other_bytes k e))) (l.slots k low)

  new-total : total st'.heads ≡ total st.heads + length c
  new-total =
      let e : len_of (get_or st.heads s 0) ≡ 0 = ap len_of g.free in
      ap total g.heads ∙ omega (arith, total-set st.heads s h g.low, g.size)

  pub added-lawful : T (rows_ok (kind_at st') (length st.heads) rs') → T (slot_by (kind_of h) h 1 false c) → Lawful st'
  added-lawful ok o =
      let r = g.counted in
      let most-same = same_most r in
      let room_same_lem = same_room r in
      let extent-same = same_extent r in
      let old = l.exact in
      record {
        exact =
            record {
              words = ap length r.words ∙ (length-set st.words 2 (suc (count st)) ∙ old.words);
              records = g.records ∙ (old.records ∙ sym most-same);
              heads = r.slots ∙ (old.heads ∙ sym extent-same);
              times = g.times.long ∙ (old.times ∙ ap (λ (k : ℕ). 4 * slots_for k) (sym most-same));
              paths = ap length r.paths ∙ old.paths;
              bytes = g.bytes ∙ (old.bytes ∙ sym room_same_lem);
            };
        entry_limit = rw most-same l.entry_limit;
        byte_limit = rw room_same_lem l.byte_limit;
        counted = rw (new-count r (omega (arith, old.words)), most-same) g.more;
        slotted = rw (extent-same, most-same) l.slotted;
        space = rw (g.names, new-total, room_same_lem) (omega (arith, g.fits));
        entries =
            subst (λ (k : ℕ). T (rows_ok (kind_at st') k (rows_of st'))) (sym r.slots)
            (subst (λ (y : List Row). T (rows_ok (kind_at st') (length st.heads) y)) (sym g.new) ok);
        slots = λ k low. slots-ok o k (subst (λ (i : ℕ). k < i) r.slots low);
        numbers = λ i k. number_ok_lem r i (l.numbers i k);
        here = here-ok r l.here;
        umask = rw (same_mask r) l.umask;
      }
