-- A store with another number of slots has the entries that it had, where records and bytes are the same: the number of slots is one
-- word, and the number of entries is another. So every spot stands as it stood, before a slot is reserved and after free ones are given
-- up.
-- Assumes nothing.
use mathlib.Core.List.{List, []}
use mathlib.Core.Path.{◌≡◌, refl, sym, ap, ◌∙◌}
use Prim.Native.Nat.{ℕ, suc, ◌≤◌}
use native.Mathlib.Omega.{arith}
use lib.ListN.{length, take}
use lib.Seq.{length-take-le}
use Rattle.model.specs.Tree.{Path}
use Rattle.layout.specs.Rows.{Row, name_total, rows}
use Rattle.layout.specs.Store.{Store, lent, most, room, count, extent, live, rows_of}
use Rattle.layout.specs.Parts.{path_after}
use Rattle.model.specs.Calls.States.{State}
use Rattle.edit_room.specs.Extents.{trim, Roomy, Resized, Reserved, Released, OnSlots}
use Rattle.edit_room.proofs.Parting.{part_within}
use Rattle.ask_find.specs.declared.Spot.{Spot}
use Rattle.store.specs.Shows.{Shows, Stands}
use Rattle.store_edit.proofs.Carrying.{shows-resized, shows-released}

module _ (st u : Store) (r : Resized st u) where
  -- as many entries, within the same limits
  pub count-resized : count u ≡ count st
  count-resized = r.words 2 (λ e. omega (arith, e))

  pub most_resized : most u ≡ most st
  most_resized = r.words 0 (λ e. omega (arith, e))

  pub room-resized : room u ≡ room st
  room-resized = r.words 1 (λ e. omega (arith, e))

  module _ (recs : u.records ≡ st.records) where
    pub live-resized : live (trim u) ≡ live (trim st)
    live-resized = λ j. take (count-resized j) (recs j)

    module _ (bs : u.bytes ≡ st.bytes) where
      -- the same entries
      pub rows-resized : rows_of (trim u) ≡ rows_of (trim st)
      rows-resized = λ j. rows (live-resized j) (bs j)

      -- every spot stands as it stood
      pub stands-resized : (spot : Spot) (p : Path) → Stands st spot p → Stands u spot p
      stands-resized spot p a =
          record {
            within = omega (arith, a.within, count-resized);
            offset = a.offset ∙ ap (λ (ws : List ℕ). name_total (take spot.at ws)) (sym recs);
            path = ap (λ (rs : List Row). path_after [] (take (suc spot.at) rs)) rows-resized ∙ a.path;
          }

-- the same by what is said of the words of the state and of the slots alone: all else is as it was
pub stands-released : {st : Store} {ws hs : List ℕ} → Roomy st
    → ((v : Store) → Roomy (lent st.words v.records st.heads v.times v.paths v.bytes) → Released (lent st.words v.records st.heads v.times v.paths v.bytes) (lent ws v.records hs v.times v.paths v.bytes))
    → (spot : Spot) (p : Path) → Stands st spot p → Stands (lent ws st.records hs st.times st.paths st.bytes) spot p
stands-released {st = st} {ws = ws} {hs = hs} h f spot p a =
    stands-resized st (lent ws st.records hs st.times st.paths st.bytes) (f st h).resized refl refl spot p a

-- ---- by what is said of the words of the state and of the slots alone

-- a slot reserved in a store that shows a state
pub record ReservedIn (st u : Store) (s : State) : Type 0 where
  pub is : Reserved st u
  pub shows : Shows u s
  pub stands : (spot : Spot) (p : Path) → Stands st spot p → Stands u spot p
  -- those so far are a part of what is lent
  pub within : extent u ≤ length u.heads
  pub part : extent u ≡ length (trim u).heads

pub reserved : {st : Store} {s : State} {ws hs : List ℕ} → Shows st s → OnSlots st.words ws st.heads hs Reserved
    → ReservedIn st (lent ws st.records hs st.times st.paths st.bytes) s
reserved {st = st} {ws = ws} {hs = hs} h f =
    let u : Store = lent ws st.records hs st.times st.paths st.bytes in
    let r = f st h.roomy in
    let w : extent u ≤ length u.heads = part_within u r.resized.roomy in
    record { is = r; shows = shows-resized h r.resized; stands = stands-resized st u r.resized refl refl; within = w; part = sym (length-take-le (extent u) u.heads w) }

-- the free slots at the end given up
pub record ReleasedIn (u v : Store) (s : State) : Type 0 where
  pub shows : Shows v s
  pub stands : (spot : Spot) (p : Path) → Stands u spot p → Stands v spot p

pub released : {u : Store} {s : State} {ws hs : List ℕ} → Shows u s → OnSlots u.words ws u.heads hs Released
    → ReleasedIn u (lent ws u.records hs u.times u.paths u.bytes) s
released h f = record { shows = shows-released h f; stands = stands-released h.roomy f }
