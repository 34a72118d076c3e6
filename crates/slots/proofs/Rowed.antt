-- The users of a slot by the words of the records and by the rows are the same.
-- Assumes nothing.
use mathlib.Core.Bool.{cond}
use mathlib.Core.List.{List, [], ◌∷◌}
use mathlib.Core.Path.{◌≡◌, refl, ap}
use Prim.Native.Nat.{ℕ, zero, suc, ◌+◌, ◌≤◌, ◌<◌}
use native.Mathlib.Omega.{arith}
use lib.Dec.{eqb}
use lib.ListN.{length, drop}
use Rattle.text.specs.Utf8.{Bytes}
use Rattle.layout.specs.Fields.{nlen_of, slot_of}
use Rattle.layout.specs.Rows.{rows}
use Rattle.layout.specs.Store.{Store, rows_of}
use Rattle.layout.specs.Lawful.{uses, Lawful}
use Rattle.layout.proofs.Slotted.{SlotOf, free, directory, named, removed, target, slot-of}
use Rattle.layout.proofs.Walks.{SlotsIn}
use Rattle.slots.specs.Uses.{uses_in, Within}

pub uses-rows : (k : ℕ) (ws : List ℕ) (bs : Bytes) → uses k (rows ws bs) ≡ uses_in k ws
unfolding uses rows uses_in
uses-rows k [] bs = refl
uses-rows k (w ∷ ws) bs = ap (λ (n : ℕ). cond (eqb (slot_of w) k) 1 0 + n) (uses-rows k ws (drop (nlen_of w) bs))

pub words_within : (n : ℕ) (ws : List ℕ) (bs : Bytes) → SlotsIn n (rows ws bs) → Within n ws
unfolding rows
words_within n [] bs h i l = absurd (omega arith)
words_within n (w ∷ ws) bs h zero l = h.0
words_within n (w ∷ ws) bs h (suc i) l = words_within n ws (drop (nlen_of w) bs) h.1 i (omega arith)

-- a slot has at most one entry
once-used : (st : Store) (k : ℕ) → SlotOf st k → uses k (rows_of st) ≤ 1
once-used st k (free e h u w) = omega arith
once-used st k (directory e h u w) = omega arith
once-used st k (named e u) = omega arith
once-used st k (removed e u w) = omega arith
once-used st k (target e h u w) = omega arith

pub used-once : (st : Store) → Lawful st → (k : ℕ) → k < length st.heads → uses k (rows_of st) ≤ 1
used-once st l k h = once-used st k (slot-of st k (l.slots k h))
