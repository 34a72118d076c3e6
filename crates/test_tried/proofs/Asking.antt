-- What the tests say of a store. Slices that are as long as the limits ask are not cut, but for the words of the slots.
-- Assumes nothing.
use mathlib.Core.List.{List, ◌++◌}
use mathlib.Core.Path.{◌≡◌, refl, subst}
use Prim.Native.Nat.{ℕ, ◌*◌}
use native.Mathlib.Omega.{arith}
use lib.IntN.{ℤ}
use lib.ListN.{length, take, drop, get_or}
use lib.Seq.{take_all}
use Rattle.text.specs.Utf8.{Bytes}
use Rattle.layout.specs.Store.{Store, lent, most, room, extent, slots_for, core}
use Rattle.layout.specs.Lawful.{Lawful}
use Rattle.edit_room.specs.Extents.{trim, Roomy}
use Rattle.edit_room.proofs.Parting.{part-back}
use Rattle.test_tried.specs.Tried.{Whole}

-- the store of which it is said
abbrev pub stored : {st : Store} → Roomy st → Store
stored {st} r = st

-- the same
abbrev pub kept : {st : Store} → Lawful st → Store
kept {st} l = st

pub uncut : (st : Store) → Whole st → Lawful (core st) → Roomy st
uncut st w l =
    let e : core st ≡ trim st =
    λ i. record {
      words = take_all 102 st.words (omega (arith, w.words)) i;
      records = take_all (most st) st.records (omega (arith, w.records)) i;
      heads = take (extent st) st.heads;
      times = take_all (4 * slots_for (most st)) st.times (omega (arith, w.times)) i;
      paths = take_all 33792 st.paths (omega (arith, w.paths)) i;
      bytes = take_all (room st) st.bytes (omega (arith, w.bytes)) i;
    } in
    record { lawful = subst Lawful e l; room = omega (arith, w.heads) }

-- an edit of the words of the slots so far, which keeps the lengths of the slices, leaves a store with room again
pub roomy-again : {ws rs hs ws' rs' xs : List ℕ} {ts ts' : List ℤ} {ps bs ps' bs' : Bytes} → Roomy (lent ws rs hs ts ps bs) → length xs ≡ length (take (get_or ws 101 0) hs)
    → length rs' ≡ length rs → Lawful (lent ws' rs' xs ts' ps' bs') → Roomy (lent ws' rs' (xs ++ drop (get_or ws 101 0) hs) ts' ps' bs')
roomy-again r x y l = part-back _ _ _ _ _ _ _ _ _ _ _ _ _ r refl x y l
