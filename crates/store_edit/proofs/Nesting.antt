-- An entry below a new directory in its place. The state that is left fits, so the limits allow an entry more and its name: that is all
-- that nesting adds. The new directory has the record, the depth and the name that the entry had, so the entry has the next record, its
-- name begins behind the directory's, and its path is its old one with the new name behind.
-- Assumes nothing.
use mathlib.Core.List.{List, [], ◌∷◌, ◌++◌, append_assoc}
use mathlib.Core.Path.{◌≡◌, refl, sym, ap, ◌∙◌, subst}
use Prim.Native.Nat.{ℕ, suc, ◌+◌, ◌≤◌, ◌<◌}
use native.Mathlib.Omega.{arith}
use lib.Dec.{T}
use lib.ListN.{length, take, drop, get_or, length-append, length-take, take-append-drop}
use lib.Seq.{length-take-le, take-length, take-take, take-append-add, get_or-append_seam}
use Rattle.path.specs.Path.{Name}
use Rattle.model.specs.Tree.{Path, look}
use Rattle.model.specs.Prog as prog
use Rattle.model.specs.Calls.States.{State, nested}
use Rattle.model.specs.Rules.{name_ok}
use Rattle.model.proofs.Space.After.{after-nest}
use Rattle.model.proofs.Space.States.{Uses}
use Rattle.layout.specs.Fields.{nlen_of}
use Rattle.layout.specs.Rows.{Row, name_total, path_of}
use Rattle.layout.specs.Slots.{total}
use Rattle.layout.specs.Store.{Store, most, room, count, live, rows_of, state}
use Rattle.layout.specs.Lawful.{Lawful}
use Rattle.layout.specs.Parts.{path_after}
use Rattle.layout.proofs.Named.{name_sum, name-sum, rows_take}
use Rattle.layout.proofs.Used.{entries-used, bytes-used}
use Rattle.layout.proofs.Edited.Parted.{after_both}
use Rattle.records.proofs.Entries.{total-step, total-take}
use Rattle.slots.specs.Free.{HasFree}
use Rattle.edit_room.specs.Extents.{trim}
use Rattle.ask_find.specs.declared.Spot.{Spot}
use Rattle.ask_find.specs.Paths.{row_at, path_at}
use Rattle.ask_find.specs.Spots.{At, block_end}
use Rattle.ask_find.proofs.Records.{rows_long, total-live, parts_at, path_next, path-depth, path-look}
use Rattle.edit_entry.specs.declared.made.Fresh.{Fresh}
use Rattle.edit_entry.specs.Made.{fresh_meta}
use Rattle.edit_entry.specs.Nesting as nesting
use Rattle.store.specs.Shows.{Shows, Stands}
use Rattle.store_edit.specs.Moves.{MayNestAt}
use Rattle.store_edit.proofs.Blocks.{below_root, block_of}
use Rattle.store_edit.proofs.Carrying.{whole, trim_whole}
use Rattle.store_edit.proofs.Fitting.{fits-back, was_spaced}

-- ---- what it asks

module _ {st : Store} {s : State} (h : Shows st s) {spot : Spot} {p : Path} (a : Stands st spot p) where
  abbrev l : Lawful (trim st)
  l = h.roomy.lawful

  abbrev i : ℕ
  i = spot.at

  abbrev was : State
  was = state (trim st)

  -- the name behind its own begins there
  next_offset : name_total (take (suc i) st.records) ≡ spot.off + nlen_of (get_or st.records i 0)
  next_offset = omega (arith, a.offset, total-step st.records 0 i (omega arith) (omega (arith, a.within, l.counted, l.exact.records)))

  -- which is within the bytes
  pub next_low : spot.off + nlen_of (get_or st.records i 0) ≤ 1048576
  next_low =
      omega (arith, next_offset, total-live (trim st) l (suc i) (omega (arith, a.within)), total-take (live (trim st)) (suc i), l.space, l.byte_limit.1)

  module _ {x : Name} {new : Fresh} (n : MayNestAt x new s p) where
    used : Uses was (nested p x (fresh_meta new) was) 1 0 (length x) 0
    used = after-nest was (was_spaced h) p x (fresh_meta new) _ (ap (look was.tree) (sym a.path) ∙ path-look (trim st) l i a.within)

    -- one entry more, and its name
    pub nest-more : count st < most st
    nest-more =
        omega (arith, (fits-back h (prog.take p ∷ prog.make p (fresh_meta new) ∷ prog.give (p ++ (x ∷ [])) ∷ []) n.fits).0, used.entries, entries-used (trim st) l)

    nest-fits : name_total (live (trim st)) + length x + total (trim st).heads ≤ room st
    nest-fits =
        omega (arith, (fits-back h (prog.take p ∷ prog.make p (fresh_meta new) ∷ prog.give (p ++ (x ∷ [])) ∷ []) n.fits).1, used.bytes, bytes-used (trim st) l)

    pub may-nest : T (name_ok x) → HasFree (trim st).heads → {e : ℕ} → e ≡ block_end (trim st) i → nesting.MayNest (trim st) i e x
    may-nest ok free {e} z =
        record {
          block = block_of (trim st) l i e a.within (below_root (trim st) l spot p a n.below) z;
          name = ok;
          more = nest-more;
          fits = nest-fits;
          free = free;
        }

-- ---- the entry at its new place

-- the bytes of the names of the first k entries
names_first : (st : Store) (l : Lawful st) (k : ℕ) → k ≤ count st → name_sum (take k (rows_of st)) ≡ name_total (take k st.records)
names_first st l k h =
    ap name_sum (sym (rows_take (live st) st.bytes k))
    ∙ name-sum (take k (live st)) st.bytes (omega (arith, total-take (live st) k, l.space, l.exact.bytes))
    ∙ total-live st l k h

-- another last entry of the same name
same_names : (rs : List Row) (a b : Row) → a.name ≡ b.name → name_sum (rs ++ (a ∷ [])) ≡ name_sum (rs ++ (b ∷ []))
unfolding name_sum
same_names [] a b e = ap (λ (x : Name). length x + 0) e
same_names (r ∷ rs) a b e = ap (λ (k : ℕ). length r.name + k) (same_names rs a b e)

module _ (st v : Store) (l : Lawful st) (i : ℕ) (h : i < count st) (x : Name) (p : Path) (new : Fresh) (n : nesting.NestedAt st v i x p new) where
  abbrev front : List Row
  front = take i (rows_of st)

  abbrev behind : List Row
  behind = drop (suc i) (rows_of st)

  abbrev dir : Row
  dir = record { depth = n.row.depth; name = n.row.name; slot = n.slot }

  abbrev entry : Row
  entry = record { depth = suc n.row.depth; name = x; slot = n.row.slot }

  front_long : length front ≡ i
  front_long = length-take-le i (rows_of st) (omega (arith, h, rows_long st l))

  row_is : n.row ≡ row_at st i
  row_is =
      sym (get_or-append_seam front n.row behind n.row)
      ∙ ap (λ (rs : List Row). get_or rs (length front) n.row)
      (sym (append_assoc front (n.row ∷ []) behind) ∙ (ap (λ (rs : List Row). rs ++ behind) (sym n.old) ∙ (take-append-drop (suc i) (rows_of st) ∙ parts_at st l i h)))
      ∙ get_or-append_seam front (row_at st i) behind n.row

  -- two entries more than stand before it
  new-low : suc i < count v
  new-low =
      omega (
        arith,
        ap length n.new,
        length-append front (dir ∷ (entry ∷ [])),
        front_long,
        length-take (suc (suc i)) (rows_of v),
        rows_long v n.spells.lawful,
      )

  -- the new directory's name is as long as the entry's was
  new-offset : name_total (take (suc i) v.records) ≡ name_total (take (suc i) st.records)
  new-offset =
      let k : suc i ≡ length front + 1 = omega (arith, front_long) in
      let cut : take (suc i) (rows_of v) ≡ front ++ (dir ∷ []) =
      sym (take-take (suc i) (suc (suc i)) (rows_of v) (omega arith))
      ∙ (ap (take (suc i)) n.new ∙ (ap (λ (j : ℕ). take j (front ++ (dir ∷ (entry ∷ [])))) k ∙ take-append-add front (dir ∷ (entry ∷ [])) 1)) in
      sym (names_first v n.spells.lawful (suc i) (omega (arith, new-low)))
      ∙ (ap name_sum cut ∙ (same_names front dir n.row refl ∙ (ap name_sum (sym n.old) ∙ names_first st l (suc i) (omega (arith, h)))))

  new-path : path_at v (suc i) ≡ path_at st i ++ (x ∷ [])
  unfolding path_after
  new-path =
      let dir-path : path_of (path_after [] front) dir ≡ path_at st i = ap (path_of (path_after [] front)) row_is ∙ sym (path_next st l i h) in
      let deep : n.row.depth ≡ length (path_at st i) = ap (λ (r : Row). r.depth) row_is ∙ sym (path-depth st l i h) in
      ap (path_after []) n.new
      ∙ (after_both [] front (dir ∷ (entry ∷ []))
      ∙ (ap (λ (q : Path). path_of q entry) dir-path ∙ (ap (λ (k : ℕ). take k (path_at st i) ++ (x ∷ [])) deep ∙ ap (λ (q : Path). q ++ (x ∷ [])) (take-length (path_at st i)))))

  pub nested_at : (r : Spot) → r.at ≡ suc i → r.off ≡ name_total (take (suc i) st.records) → path_at st i ≡ p → At v r (p ++ (x ∷ []))
  nested_at r e f g =
      record {
        within = omega (arith, e, new-low);
        offset = f ∙ (sym new-offset ∙ ap (λ (k : ℕ). name_total (take k v.records)) (sym e));
        path = ap (path_at v) e ∙ (new-path ∙ ap (λ (q : Path). q ++ (x ∷ [])) g);
      }

-- with the words of the other slots behind those so far
pub stands-nested : {st v : Store} {s : State} → Shows st s → {spot : Spot} {p : Path} → Stands st spot p → {x : Name} {new : Fresh} → nesting.NestedAt (trim st) v spot.at x p new
    → {r : Spot} → r.at ≡ suc spot.at → r.off ≡ spot.off + nlen_of (get_or st.records spot.at 0) → Stands (whole st v) r (p ++ (x ∷ []))
stands-nested {st} {v} {s} h {spot} {p} a {x} {new} n {r} e f =
    subst (λ (u : Store). At u r (p ++ (x ∷ []))) (sym (trim_whole st v n.spells.lawful))
    (nested_at (trim st) v h.roomy.lawful spot.at a.within x p new n r e (f ∙ sym (next_offset h a)) a.path)
