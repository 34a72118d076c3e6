-- Sums over what lies below an entry. What lies below depth d starts with an entry, then all below that entry, then the rest of
-- what lies below d; so a sum over the entries of a directory adds up to the sum over all below it.
-- Assumes nothing.
use mathlib.Core.Path.{◌≡◌, refl, sym}
use mathlib.Core.Bool.{Bool, true, false, cond}
use mathlib.Core.List.{List, [], ◌∷◌}
use Prim.Native.Nat.{ℕ, suc, ◌+◌, ◌*◌, ◌≤◌, ◌<◌, zero-le}
use native.Mathlib.Nat.{zero-add, le_refl}
use native.Mathlib.Numerals.{add-one}
use native.Mathlib.Omega.{arith}
use lib.Dec.{leb, eqb}
use lib.ListN.{length, take, drop, get_or, length-drop, drop_of_length-le}
use lib.Seq.{drop-drop, drop-cons, length-take-le}
use borrow.Author.Tests.{le-leb, lt-leb, leb-false}
use Rattle.layout.specs.Fields.{depth_of, kind_of}
use Rattle.layout.specs.Rows.{name_total}
use Rattle.ask_find.specs.Spans.{span}
use Rattle.ask_find.proofs.Spans.{pick_n-le, span_fits, span_on}
use Rattle.ask_used.specs.Totals.{head_of, entry_bytes, below, held_total, link_total, whole_bytes, whole_end}

-- a name has at most 255 bytes, and a slot less than 2^24
below-le : (hs : List ℕ) (d : ℕ) (ws : List ℕ) → below hs d ws ≤ length ws * 16777471
unfolding below
below-le hs d [] = zero-le
below-le hs d (w ∷ ws) = omega (arith, below-le hs d ws, pick_n-le (leb (depth_of w) d) (entry_bytes hs w + below hs d ws))

-- what lies below depth d is what lies below the greater depth e, and what then lies below d
split : (hs : List ℕ) (d e : ℕ) → d ≤ e → (ws : List ℕ) → (below hs d ws ≡ below hs e ws + below hs d (drop (span e ws) ws)) × (span d ws ≡ span e ws + span d (drop (span e ws) ws))
unfolding below span
split hs d e h [] = (refl, refl)
split hs d e h (w ∷ ws) = go (leb (depth_of w) e) refl (split hs d e h ws)
  where
    go : (b : Bool) → leb (depth_of w) e ≡ b → (below hs d ws ≡ below hs e ws + below hs d (drop (span e ws) ws)) × (span d ws ≡ span e ws + span d (drop (span e ws) ws))
        → (below hs d (w ∷ ws) ≡ below hs e (w ∷ ws) + below hs d (drop (span e (w ∷ ws)) (w ∷ ws))) × (span d (w ∷ ws) ≡ span e (w ∷ ws) + span d (drop (span e (w ∷ ws)) (w ∷ ws)))
    go true q ih = rw q (sym (zero-add _), sym (zero-add _))
    go false q ih =
        let l : e < depth_of w = leb-false (depth_of w) e q in
        let m : leb (depth_of w) d ≡ false = lt-leb (depth_of w) d (omega arith) in
        rw (q, m) (omega (arith, ih.0), omega (arith, ih.1))

-- the bytes of all entries
abbrev pub sizes : List ℕ → List ℕ → ℕ
sizes hs ws = name_total ws + held_total hs ws

pub sizes-le : (hs ws : List ℕ) → sizes hs ws ≤ length ws * 16777471
unfolding name_total held_total
sizes-le hs [] = zero-le
sizes-le hs (w ∷ ws) = omega (arith, sizes-le hs ws)

-- these are the bytes of what lies below a depth, and of the rest
sizes-split : (hs : List ℕ) (e : ℕ) (ws : List ℕ) → sizes hs ws ≡ below hs e ws + sizes hs (drop (span e ws) ws)
unfolding name_total held_total below span
sizes-split hs e [] = refl
sizes-split hs e (w ∷ ws) = go (leb (depth_of w) e) refl (sizes-split hs e ws)
  where
    go : (b : Bool) → leb (depth_of w) e ≡ b → sizes hs ws ≡ below hs e ws + sizes hs (drop (span e ws) ws)
        → sizes hs (w ∷ ws) ≡ below hs e (w ∷ ws) + sizes hs (drop (span e (w ∷ ws)) (w ∷ ws))
    go true q ih = rw q (sym (zero-add _))
    go false q ih = rw q (omega (arith, ih))

-- no more links than records
links-le : (hs ws : List ℕ) → link_total hs ws ≤ length ws
unfolding link_total
links-le hs [] = zero-le
links-le hs (w ∷ ws) = omega (arith, links-le hs ws, cond-le (eqb (kind_of (head_of hs w)) 3))
  where
    cond-le : (b : Bool) → cond b 1 0 ≤ 1
    cond-le true = le_refl 1
    cond-le false = zero-le

pub links-fit : (ws : List ℕ) (n : ℕ) → n ≤ length ws → (hs : List ℕ) → link_total hs (take n ws) ≤ n
links-fit ws n h hs = omega (arith, links-le hs (take n ws), length-take-le n ws h)

module _ (ws hs : List ℕ) where
  -- the bytes of the entry at j with all below it, and the record behind them
  abbrev pub whole : ℕ → ℕ
  whole j = whole_bytes ws hs j

  abbrev pub past : ℕ → ℕ
  past j = whole_end ws j

  rest : (e j : ℕ) → drop (span e (drop (j + 1) ws)) (drop (j + 1) ws) ≡ drop (j + 1 + span e (drop (j + 1) ws)) ws
  rest e j = drop-drop (span e (drop (j + 1) ws)) (j + 1) ws

  pub below-fits : (d j : ℕ) → below hs d (drop j ws) ≤ length ws * 16777471
  below-fits d j = omega (arith, below-le hs d (drop j ws), length-drop j ws)

  pub below_end : (d j : ℕ) → length ws ≤ j → below hs d (drop j ws) ≡ 0
  unfolding below
  below_end d j l = rw (drop_of_length-le ws {i = j} l)

  pub below_out : (d j : ℕ) → j < length ws → depth_of (get_or ws j 0) ≤ d → below hs d (drop j ws) ≡ 0
  unfolding below
  below_out d j l k = rw (drop-cons ws j 0 l, le-leb (depth_of (get_or ws j 0)) d k)

  -- an entry, and then what is left
  next-on : (d j : ℕ) → j < length ws → d < depth_of (get_or ws j 0) → (below hs d (drop j ws) ≡ entry_bytes hs (get_or ws j 0) + below hs d (drop (j + 1) ws))
      × (j + span d (drop j ws) ≡ j + 1 + span d (drop (j + 1) ws))
  unfolding below
  next-on d j l k =
      let b : span d (drop j ws) ≡ suc (span d (drop (j + 1) ws)) = rw (add-one j) (span_on ws d j l k) in
      (rw (drop-cons ws j 0 l, lt-leb (depth_of (get_or ws j 0)) d k, add-one j), omega (arith, b))

  -- an entry with all below it, and then what is left
  below_on : (d j : ℕ) → j < length ws → d < depth_of (get_or ws j 0) → (below hs d (drop j ws) ≡ whole j + below hs d (drop (past j) ws))
      × (j + span d (drop j ws) ≡ past j + span d (drop (past j) ws))
  below_on d j l k =
      let e : ℕ = depth_of (get_or ws j 0) in
      let s = rw (rest e j) at (split hs d e (omega arith) (drop (j + 1) ws)) in
      let o = next-on d j l k in
      (omega (arith, o.0, s.0), omega (arith, o.1, s.1))

  pub sizes-end : (j : ℕ) → length ws ≤ j → sizes hs (drop j ws) ≡ 0
  unfolding name_total held_total
  sizes-end j l = rw (drop_of_length-le ws {i = j} l)

  -- the same of all entries
  sizes-on : (j : ℕ) → j < length ws → sizes hs (drop j ws) ≡ whole j + sizes hs (drop (past j) ws)
  unfolding name_total held_total
  sizes-on j l =
      let e : ℕ = depth_of (get_or ws j 0) in
      let s = rw (rest e j) at (sizes-split hs e (drop (j + 1) ws)) in
      let a : sizes hs (drop j ws) ≡ entry_bytes hs (get_or ws j 0) + sizes hs (drop (j + 1) ws) = rw (drop-cons ws j 0 l, add-one j) (omega arith) in
      omega (arith, a, s)

-- a turn of the loop over a directory's entries, past the entry at j, whose bytes are b and behind which k stands
pub record Turn (hs ws : List ℕ) (d j b k : ℕ) : Type 0 where
  pub bytes : below hs d (drop j ws) ≡ b + below hs d (drop k ws)
  pub place : j + span d (drop j ws) ≡ k + span d (drop k ws)
  pub up : j < k
  pub within : k ≤ length ws

pub turn : (hs ws : List ℕ) (d j b k : ℕ) → j < length ws → d < depth_of (get_or ws j 0) → b ≡ whole ws hs j → k ≡ past ws hs j → Turn hs ws d j b k
turn hs ws d j b k l m e f =
    let o = below_on ws hs d j l m in
    rw (e, f) (record { bytes = o.0; place = o.1; up = omega arith; within = span_fits ws (depth_of (get_or ws j 0)) (j + 1) (omega arith) })

-- the same past one record alone
pub turn_one : (hs ws : List ℕ) (d j b : ℕ) → j < length ws → d < depth_of (get_or ws j 0) → b ≡ entry_bytes hs (get_or ws j 0) → Turn hs ws d j b (j + 1)
turn_one hs ws d j b l m e = let o = next-on ws hs d j l m in rw e (record { bytes = o.0; place = o.1; up = omega arith; within = omega arith })

-- the same of the loop over all entries
pub record Pass (hs ws : List ℕ) (j b k : ℕ) : Type 0 where
  pub bytes : sizes hs (drop j ws) ≡ b + sizes hs (drop k ws)
  pub up : j < k
  pub within : k ≤ length ws

pub pass : (hs ws : List ℕ) (j b k : ℕ) → j < length ws → b ≡ whole ws hs j → k ≡ past ws hs j → Pass hs ws j b k
pass hs ws j b k l e f =
    rw (e, f) (record { bytes = sizes-on ws hs j l; up = omega arith; within = span_fits ws (depth_of (get_or ws j 0)) (j + 1) (omega arith) })
