-- Whether a number stands on a slot, and whether an entry has it.
-- Assumes nothing.
use mathlib.Core.Bool.{Bool, true, false, ◌||◌, cond}
use mathlib.Core.List.{List, [], ◌∷◌}
use mathlib.Core.Path.{◌≡◌, refl, ap, ◌∙◌}
use Rattle.std.specs.List.{list_any, range_with_len}
use Prim.Native.Nat.{ℕ, zero, suc, ◌+◌, ◌*◌, ◌≤◌}
use native.Mathlib.Numerals.{add-one}
use native.Mathlib.Omega.{arith}
use lib.Dec.{eqb}
use lib.ListN.{drop, get_or}
use Rattle.text.specs.Utf8.{Bytes}
use Rattle.layout.specs.Fields.{slot_of, nlen_of}
use Rattle.layout.specs.Rows.{rows}
use Rattle.layout.specs.Store.{lent}
use Rattle.layout.specs.Lawful.{uses, held_from}
use Rattle.slots.specs.Uses.{is_used}

-- a word among those of n numbers from i on
pub held-any : (ws : List ℕ) (h k n i : ℕ) → h ≡ suc k → list_any (λ j. eqb (get_or ws (5 + 3 * j) 0) h) (range_with_len i n) ≡ held_from (lent ws [] [] [] [] []) n i k
unfolding held_from
held-any ws h k zero i e = refl
held-any ws h k (suc n) i e = rw add-one (ap (λ (m : ℕ). eqb (get_or ws (5 + 3 * i) 0) m || list_any (λ j. eqb (get_or ws (5 + 3 * j) 0) h) (range_with_len (suc i) n)) e ∙ ap (λ (t : Bool). eqb (get_or ws (5 + 3 * i) 0) (suc k) || t) (held-any ws h k n (suc i) e))

-- the entries that have the slot
pub used_some : (k : ℕ) (ws : List ℕ) (bs : Bytes) → is_used k ws ≡ true → 1 ≤ uses k (rows ws bs)
unfolding uses rows
used_some k [] bs e = absurd (let q : ◌≡◌ {A = Bool} false true = e in let z : ◌≡◌ {A = ℕ} 0 1 = cc in omega arith)
used_some k (w ∷ ws) bs e = go (eqb (slot_of w) k) e (used_some k ws (drop (nlen_of w) bs))
  where
    go : (b : Bool) → b || is_used k ws ≡ true → (is_used k ws ≡ true → 1 ≤ uses k (rows ws (drop (nlen_of w) bs))) → 1 ≤ cond b 1 0 + uses k (rows ws (drop (nlen_of w) bs))
    go true x ih = omega arith
    go false x ih = omega (arith, ih x)

pub used_none : (k : ℕ) (ws : List ℕ) (bs : Bytes) → is_used k ws ≡ false → uses k (rows ws bs) ≡ 0
unfolding uses rows
used_none k [] bs e = refl
used_none k (w ∷ ws) bs e = go (eqb (slot_of w) k) e (used_none k ws (drop (nlen_of w) bs))
  where
    go : (b : Bool) → b || is_used k ws ≡ false → (is_used k ws ≡ false → uses k (rows ws (drop (nlen_of w) bs)) ≡ 0) → cond b 1 0 + uses k (rows ws (drop (nlen_of w) bs)) ≡ 0
    go true x ih = absurd (let z : ◌≡◌ {A = ℕ} 0 1 = cc in omega arith)
    go false x ih = omega (arith, ih x)
