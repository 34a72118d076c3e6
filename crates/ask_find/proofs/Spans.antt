-- What lies below an entry, record by record.
-- Assumes nothing.
use mathlib.Core.Path.{◌≡◌, refl}
use mathlib.Core.Bool.{Bool, true, false}
use mathlib.Core.List.{List, [], ◌∷◌}
use Prim.Native.Nat.{ℕ, suc, ◌+◌, ◌≤◌, ◌<◌, zero-le}
use native.Mathlib.Nat.{le_refl}
use native.Mathlib.Omega.{arith}
use native.Mathlib.Numerals.{add-one}
use lib.Dec.{leb}
use lib.ListN.{length, drop, get_or, length-drop, drop_of_length-le}
use lib.Seq.{drop-cons}
use borrow.Author.Tests.{le-leb, lt-leb}
use Rattle.layout.specs.Fields.{depth_of}
use Rattle.ask_find.specs.Spans.{pick_n, span}

pub pick_n-le : (b : Bool) (x : ℕ) → pick_n b 0 x ≤ x
pick_n-le true x = zero-le
pick_n-le false x = le_refl x

-- the first that is not deeper ends it
pub span_none : (d : ℕ) → span d [] ≡ 0
unfolding span
span_none d = refl

pub span_hit : (d w : ℕ) (ws : List ℕ) → depth_of w ≤ d → span d (w ∷ ws) ≡ 0
unfolding span
span_hit d w ws h = rw (le-leb (depth_of w) d h)

pub span_miss : (d w : ℕ) (ws : List ℕ) → d < depth_of w → span d (w ∷ ws) ≡ span d ws + 1
unfolding span
span_miss d w ws h = rw (lt-leb (depth_of w) d h, add-one (span d ws))

pub span-le : (d : ℕ) (ws : List ℕ) → span d ws ≤ length ws
unfolding span
span-le d [] = zero-le
span-le d (w ∷ ws) = omega (arith, span-le d ws, pick_n-le (leb (depth_of w) d) (suc (span d ws)))

module _ (ws : List ℕ) where
  pub span_fits : (d j : ℕ) → j ≤ length ws → j + span d (drop j ws) ≤ length ws
  span_fits d j l = omega (arith, span-le d (drop j ws), length-drop j ws)

  pub span-end : (d j : ℕ) → length ws ≤ j → span d (drop j ws) ≡ 0
  unfolding span
  span-end d j l = rw (drop_of_length-le ws {i = j} l)

  pub span_out : (d j : ℕ) → j < length ws → depth_of (get_or ws j 0) ≤ d → span d (drop j ws) ≡ 0
  unfolding span
  span_out d j l k = rw (drop-cons ws j 0 l, le-leb (depth_of (get_or ws j 0)) d k)

  pub span_on : (d j : ℕ) → j < length ws → d < depth_of (get_or ws j 0) → span d (drop j ws) ≡ suc (span d (drop (suc j) ws))
  unfolding span
  span_on d j l k = rw (drop-cons ws j 0 l, lt-leb (depth_of (get_or ws j 0)) d k)
