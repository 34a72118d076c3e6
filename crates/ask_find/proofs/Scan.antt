-- The scan for a name, record by record: a record that is not deeper than the directory ends it, a deeper one than an entry is
-- passed, and an entry is compared.
-- Assumes nothing.
use mathlib.Core.Bool.{Bool, true, false, not, ◌||◌}
use mathlib.Core.Path.{◌≡◌, refl, sym, ap, ◌∙◌}
use Rattle.std.specs.Prelude.{Ok, Err}
use mathlib.Core.List.{List}
use Prim.Native.Nat.{ℕ, suc, ◌+◌, ◌-◌, ◌≤◌, ◌<◌}
use native.Mathlib.Numerals.{add-one}
use native.Mathlib.Omega.{arith}
use lib.Dec.{eqb}
use lib.ListN.{length, take, drop, get_or, length-take, length-drop, drop_of_length-le}
use lib.Seq.{drop-cons, drop-drop, get_or-take, get_or-drop, length-take-le}
use borrow.Author.Tests.{le-leb, lt-leb, eq-eqb, ne_eqb, eqb-true, eqb-false, not-false}
use Rattle.text.specs.Utf8.{Bytes}
use Rattle.layout.specs.Fields.{depth_of, nlen_of}
use Rattle.layout.specs.Rows.{rows, name_total}
use Rattle.layout.proofs.Named.{total-split, rows_drop}
use Rattle.name_order.specs.Order.{order_of, number}
use Rattle.std.specs.declared.cmp.Ordering.TheVariants.{Less, Equal, Greater}
use Rattle.name_order.proofs.Keys.{key-less}
use Rattle.ask_find.specs.declared.Spot.{Spot}
use Rattle.ask_find.specs.Finds.{spot, find_in, scan, Within, Passed}

-- what the scan starts with
pub record Start (ws : List ℕ) (bs : Bytes) (d : ℕ) (x : Bytes) (j o : ℕ) : Type 0 where
  pub within : Within ws bs (spot j o)
  pub same : scan ws bs d x (spot j o) ≡ find_in d x (drop j (rows ws bs)) j o

pub scan-start : (ws : List ℕ) (bs : Bytes) (d : ℕ) (x : Bytes) (j o : ℕ) → j ≤ length ws → o ≡ name_total (take j ws) → name_total ws ≤ length bs → Start ws bs d x j o
scan-start ws bs d x j o l e h =
    let a : name_total (take j ws) ≡ o = sym e in
    record { within = (l, omega (arith, e, h, total-split ws j)); same = sym (rw (sym (rows_drop ws bs j), a)) }

-- element i of the records from record a on is record a + i
pub record-met : (ws : List ℕ) (a i j : ℕ) → j ≡ a + i → i < length (take (length ws - a) (drop a ws))
    → (j < length ws) × (get_or (take (length ws - a) (drop a ws)) i 0 ≡ get_or ws j 0)
record-met ws a i j e h =
    let n : i < length ws - a = omega (arith, length-take (length ws - a) (drop a ws)) in
    (omega arith, rw e (get_or-take (length ws - a) (drop a ws) i 0 n ∙ get_or-drop a ws i 0))

pub passed_none : (ws : List ℕ) (bs : Bytes) (d k : ℕ) (s : Spot) → Within ws bs s → Passed ws bs d k s s
passed_none ws bs d k s w = record { within = w; same = λ x g e. refl }

pub scan-end : (ws : List ℕ) (bs : Bytes) (d : ℕ) (x : Bytes) (j o : ℕ) → length ws ≤ j → scan ws bs d x (spot j o) ≡ Err (spot j o)
unfolding find_in rows
scan-end ws bs d x j o l = rw (drop_of_length-le ws {i = j} l)

module _ (ws : List ℕ) (bs : Bytes) (j o : ℕ) (l : j < length ws) where
  abbrev w : ℕ
  w = get_or ws j 0

  -- record j has its name within the bytes, and so have those behind it
  pub scan-room : Within ws bs (spot j o) → Within ws bs (spot (suc j) (o + nlen_of w))
  unfolding name_total
  scan-room r = (omega arith, omega (arith, r.1, ap name_total (drop-cons ws j 0 l)))

  module _ (d : ℕ) (x : Bytes) where
    pub scan_out : depth_of w ≤ d → scan ws bs d x (spot j o) ≡ Err (spot j o)
    unfolding find_in rows
    scan_out k = rw (drop-cons ws j 0 l, le-leb (depth_of w) d k)

    module _ (r : Within ws bs (spot j o)) where
      name-at : length (take (nlen_of w) (drop o bs)) ≡ nlen_of w
      name-at = length-take-le (nlen_of w) (drop o bs) (omega (arith, length-drop o bs, scan-room r))

      pub scan-deeper : d < depth_of w → (depth_of w ≡ suc d → ⊥) → scan ws bs d x (spot j o) ≡ scan ws bs d x (spot (suc j) (o + nlen_of w))
      unfolding find_in rows
      scan-deeper k m = rw (drop-cons ws j 0 l, lt-leb (depth_of w) d k, ne_eqb (depth_of w) (suc d) m, name-at, drop-drop)

      pub scan-less : depth_of w ≡ suc d → order_of (take (nlen_of w) (drop o bs)) x ≡ Less → scan ws bs d x (spot j o) ≡ scan ws bs d x (spot (suc j) (o + nlen_of w))
      unfolding find_in rows
      scan-less k m = rw (drop-cons ws j 0 l, lt-leb (depth_of w) d (omega arith), eq-eqb (depth_of w) (suc d) k, m, name-at, drop-drop)

      -- a record is passed that is deeper than an entry, or whose first eight bytes are less
      pub scan-passed : ((m : ℕ) → get_or bs m 0 < 256) → ((m : ℕ) → get_or x m 0 < 256) → (k : ℕ) → number 8 0 x ≡ k → d < depth_of w
          → (b : Bool) → (b ≡ true → number 8 o bs < k) → not (not (eqb (depth_of w - d) 1) || b) ≡ false
          → scan ws bs d x (spot j o) ≡ scan ws bs d x (spot (suc j) (o + nlen_of w))
      scan-passed f g k e i b s q = go (eqb (depth_of w - d) 1) refl q
        where
          go : (v : Bool) → eqb (depth_of w - d) 1 ≡ v → not (not v || b) ≡ false → scan ws bs d x (spot j o) ≡ scan ws bs d x (spot (suc j) (o + nlen_of w))
          go true y z =
              scan-less
              (omega (arith, i, eqb-true (depth_of w - d) 1 y))
              (key-less bs x o (nlen_of w) f g (omega (arith, scan-room r)) (omega (arith, e, s (not-false b z))))
          go false y z = scan-deeper i (λ u. eqb-false (depth_of w - d) 1 y (omega (arith, u)))

    pub scan_same : depth_of w ≡ suc d → order_of (take (nlen_of w) (drop o bs)) x ≡ Equal → scan ws bs d x (spot j o) ≡ Ok (spot j o)
    unfolding find_in rows
    scan_same k m = rw (drop-cons ws j 0 l, lt-leb (depth_of w) d (omega arith), eq-eqb (depth_of w) (suc d) k, m)

    pub scan_more : depth_of w ≡ suc d → order_of (take (nlen_of w) (drop o bs)) x ≡ Greater → scan ws bs d x (spot j o) ≡ Err (spot j o)
    unfolding find_in rows
    scan_more k m = rw (drop-cons ws j 0 l, lt-leb (depth_of w) d (omega arith), eq-eqb (depth_of w) (suc d) k, m)

  -- with it, whatever the name is that begins with the key
  pub passed-on : (d k : ℕ) (s : Spot) → Passed ws bs d k s (spot j o) → ((m : ℕ) → get_or bs m 0 < 256) → d < depth_of w
      → (b : Bool) → (b ≡ true → number 8 o bs < k) → not (not (eqb (depth_of w - d) 1) || b) ≡ false
      → Passed ws bs d k s (spot (j + 1) (o + nlen_of w))
  passed-on d k s p f i b h q =
      rw add-one (record { within = scan-room p.within; same = λ x g e. p.same x g e ∙ scan-passed d x p.within f g k e i b h q })
