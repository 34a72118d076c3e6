-- The words of the slots so far, lent apart: what is left of them stands before the others again.
-- Assumes nothing.
use mathlib.Core.List.{List, ◌++◌}
use mathlib.Core.Path.{◌≡◌, sym, ap, ◌∙◌, subst}
use Prim.Native.Nat.{ℕ, ◌≤◌}
use native.Mathlib.Omega.{arith}
use lib.IntN.{ℤ}
use lib.ListN.{length, take, drop, get_or, length-append, length-drop}
use lib.Seq.{length-take-le, take-append_seam}
use Rattle.text.specs.Utf8.{Bytes}
use Rattle.layout.specs.Store.{Store, lent}
use Rattle.layout.specs.Lawful.{Lawful}
use Rattle.edit_room.specs.Extents.{Roomy}

-- the part is within what is lent
pub part_within : (st : Store) → Roomy st → get_or st.words 101 0 ≤ length st.heads
part_within st r = omega (arith, r.lawful.slotted, r.room)

-- an edit of the part, which leaves a store and the lengths of the slices, leaves the whole a store
pub part-back : (ws rs hs ws' rs' xs : List ℕ) (ts ts' : List ℤ) (ps bs ps' bs' : Bytes) (n : ℕ) → Roomy (lent ws rs hs ts ps bs) → n ≡ get_or ws 101 0
    → length xs ≡ length (take n hs) → length rs' ≡ length rs → Lawful (lent ws' rs' xs ts' ps' bs') → Roomy (lent ws' rs' (xs ++ drop n hs) ts' ps' bs')
part-back ws rs hs ws' rs' xs ts ts' ps bs ps' bs' n r e x y l =
    let low : n ≤ length hs = omega (arith, e, part_within (lent ws rs hs ts ps bs) r) in
    let whole : length (xs ++ drop n hs) ≡ length hs = length-append xs (drop n hs) ∙ omega (arith, length-drop n hs, x, length-take-le n hs low, low) in
    let cut : take (get_or ws' 101 0) (xs ++ drop n hs) ≡ xs = ap (λ (k : ℕ). take k (xs ++ drop n hs)) (sym l.exact.heads) ∙ take-append_seam xs (drop n hs) in
    record {
      lawful = subst (λ (h : List ℕ). Lawful (lent ws' rs' h ts' ps' bs')) (sym cut) l;
      room = omega (arith, whole, r.room, r.lawful.exact.records, l.exact.records, y);
    }
