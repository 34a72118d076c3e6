-- The entries of a store by its records, and the slots that they have: each slot has at most one.
-- Assumes nothing.
use mathlib.Core.List.{List, [], ◌∷◌}
use mathlib.Core.Logic.{inl, inr}
use mathlib.Core.Path.{◌≡◌, refl, ap, ◌∙◌}
use Prim.Native.Nat.{ℕ, zero, suc, ◌<◌}
use native.Mathlib.Omega.{arith}
use lib.ListN.{length, take, drop, get_or}
use lib.Seq.{get_or-take}
use Rattle.text.specs.Utf8.{Bytes}
use Rattle.model.specs.Tree.{Path, file}
use Rattle.model.proofs.Demand.Over.{file-inj}
use Rattle.layout.specs.Fields.{depth_of, nlen_of, slot_of}
use Rattle.layout.specs.Rows.{Row, rows, path_of}
use Rattle.layout.specs.Store.{Store, count, live, rows_of, kind_at}
use Rattle.layout.specs.Lawful.{Lawful}
use Rattle.layout.specs.Alike.{HasSlot}
use Rattle.layout.proofs.Roots.{all_slots}
use Rattle.layout.proofs.Used.{live-length}
use Rattle.layout.proofs.Walks.{At, look_at, at_once}
use Rattle.slots.proofs.Rowed.{words_within, used-once}
use Rattle.layout.proofs.Named.{length-rows}
use Rattle.layout.specs.Parts.{path_after}
use Rattle.edit_entry.specs.Removal.{EntryPath}

-- ---- by the words of the records

pub row-depth : (ws : List ℕ) (bs : Bytes) (i : ℕ) (r : Row) → i < length ws → (get_or (rows ws bs) i r).depth ≡ depth_of (get_or ws i 0)
unfolding rows
row-depth [] bs i r h = absurd (omega arith)
row-depth (w ∷ ws) bs zero r h = refl
row-depth (w ∷ ws) bs (suc i) r h = row-depth ws (drop (nlen_of w) bs) i r (omega arith)

pub row-slot : (ws : List ℕ) (bs : Bytes) (i : ℕ) (r : Row) → i < length ws → (get_or (rows ws bs) i r).slot ≡ slot_of (get_or ws i 0)
unfolding rows
row-slot [] bs i r h = absurd (omega arith)
row-slot (w ∷ ws) bs zero r h = refl
row-slot (w ∷ ws) bs (suc i) r h = row-slot ws (drop (nlen_of w) bs) i r (omega arith)

-- ---- the path of an entry

-- the i-th entry is at the path of the last of the first i + 1
at_row : (p : Path) (rs : List Row) (i : ℕ) (r : Row) → i < length rs → At p rs (path_after p (take (suc i) rs)) (get_or rs i r)
unfolding path_after
at_row p [] i r h = absurd (omega arith)
at_row p (s ∷ rs) zero r h = inl (refl, refl)
at_row p (s ∷ rs) (suc i) r h = inr (at_row (path_of p s) rs i r (omega arith))

module _ (st : Store) (l : Lawful st) (i : ℕ) (low : i < count st) where
  in_rows_lem : i < length (rows_of st)
  in_rows_lem = omega (arith, low, length-rows (live st) st.bytes, live-length st l)

  in_live : i < length (live st)
  in_live = omega (arith, low, live-length st l)

  same_word : get_or (live st) i 0 ≡ get_or st.records i 0
  same_word = get_or-take (count st) st.records i 0 low

  pub entry-depth : (r : Row) → (get_or (rows_of st) i r).depth ≡ depth_of (get_or st.records i 0)
  entry-depth r = row-depth (live st) st.bytes i r in_live ∙ ap depth_of same_word

  pub entry-slot : (r : Row) → (get_or (rows_of st) i r).slot ≡ slot_of (get_or st.records i 0)
  entry-slot r = row-slot (live st) st.bytes i r in_live ∙ ap slot_of same_word

  -- its slot is one of the slots
  pub slot-low : slot_of (get_or st.records i 0) < length st.heads
  slot-low =
      let w = words_within (length st.heads) (live st) st.bytes (all_slots (kind_at st) (length st.heads) (rows_of st) l.entries) i in_live in
      omega (arith, w, ap slot_of same_word)

  -- the path that has the record's slot is the entry's
  pub slot-path : (p : Path) → HasSlot st p (slot_of (get_or st.records i 0)) → EntryPath st i p
  slot-path p h =
      let a = look_at file [] (rows_of st) p (file (slot_of (get_or st.records i 0))) h in
      let s = slot_of (get_or st.records i 0) in
      at_once [] (rows_of st) s (used-once st l s slot-low) (path_after [] (take (suc i) (rows_of st))) p (get_or (rows_of st) i a.0) a.0
      (at_row [] (rows_of st) i a.0 in_rows_lem) a.1 (entry-slot a.0) (file-inj a.2)
