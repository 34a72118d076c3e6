-- What `find_in` says of a walk. The scan passes what stands before the entry x of the directory q: the directory, its entries with
-- lesser names, and what lies below these. So behind each that it has passed the entry may stand. It ends at the entry itself, or
-- at one that may stand behind it: an entry with a greater name, or one of another directory of the path q.
-- Assumes nothing.
use mathlib.Core.Bool.{Bool, true, false, cond}
use Rattle.std.specs.Prelude.{Ok, Err}
use mathlib.Core.List.{List, [], ◌∷◌, ◌++◌}
use mathlib.Core.Path.{◌≡◌, refl, sym, ap, ◌∙◌, subst}
use Prim.Native.Nat.{ℕ, suc, ◌+◌, ◌≤◌, ◌<◌, zero-le}
use native.Mathlib.Nat.{add-zero}
use native.Mathlib.Omega.{arith}
use lib.Dec.{T, leb, eqb}
use lib.ListN.{length, take, drop, get_or, length-append, length-take, get_or-append}
use lib.Seq.{take-length, take-append_seam, get_or-append_seam, get_or-take}
use borrow.Author.Tests.{leb-true, leb-false, eqb-true, eqb-false}
use Rattle.path.specs.Path.{Name}
use Rattle.model.specs.Tree.{Path, precedes}
use Rattle.model.proofs.Entries.{of_true}
use Rattle.layout.specs.Rows.{Row, path_by, path_of}
use Rattle.layout.specs.Lawful.{follows, walk_ok}
use Rattle.layout.proofs.Named.{name_sum}
use Rattle.layout.proofs.Rising.{Follows, aside, below, follows_by, by_follows, next_length}
use Rattle.layout.proofs.Walks.{rest_ok}
use Rattle.name_order.specs.Order.{order_of}
use Rattle.std.specs.declared.cmp.Ordering.{Ordering}
use Rattle.std.specs.declared.cmp.Ordering.TheVariants.{Less, Equal, Greater}
use Rattle.name_order.proofs.Orders.{before_of_less, same_of_same, behind_of_more}
use Rattle.layout.specs.Parts.{path_after, dir_after, Behind}
use Rattle.layout.proofs.Edited.Removing.{walk-follows, next_keeps}
use Rattle.ask_find.specs.Finds.{Place, spot, by_order, find_in}

-- ---- one entry

-- the entry x of the directory q may stand behind an entry of path p
pub record Fits (q : Path) (x : Name) (p : Path) (d : Bool) : Type 0 where
  pub within : take (length q) p ≡ q
  pub follows : T (follows p d (suc (length q)) x)

module _ (q : Path) (x : Name) where
  -- behind the directory itself
  pub fits_first : Fits q x q true
  fits_first = record { within = take-length q; follows = by_follows q true (suc (length q)) x (below refl) }

  -- an entry of the directory stands behind one with a lesser name
  stands : (c y : Name) (e : Bool) → T (precedes c y) → T (follows (q ++ (c ∷ [])) e (suc (length q)) y)
  stands c y e t =
      by_follows (q ++ (c ∷ [])) e (suc (length q)) y
      (aside (length q) (omega (arith, length-append q (c ∷ []))) (subst (λ (n : Name). T (precedes n y)) (sym (get_or-append_seam q c [] [])) t))

  module _ (p : Path) (d : Bool) (u : Fits q x p d) where
    long : length q ≤ length p
    long = omega (arith, sym (length-take (length q) p) ∙ ap length u.within)

    -- an entry of the directory has the directory's path and its name
    child : (y : Name) → path_by (suc (length q)) p y ≡ q ++ (y ∷ [])
    child y = ap (λ (o : Path). o ++ (y ∷ [])) u.within

    -- behind one with a lesser name
    fits-lesser : (y : Name) (e : Bool) → T (precedes y x) → Fits q x (path_by (suc (length q)) p y) e
    fits-lesser y e t = subst (λ (o : Path). Fits q x o e) (sym (child y)) (record { within = take-append_seam q (y ∷ []); follows = stands y x e t })

    -- behind what lies deeper
    fits-deeper : (kind : ℕ → ℕ) (n : ℕ) (r : Row) (e : Bool) → suc (length q) < r.depth → T (follows p d r.depth r.name) → Fits q x (path_of p r) e
    fits-deeper kind n r e l t = record { within = next_keeps kind n (length q) p d r r.depth refl (omega (arith, l)) t ∙ u.within; follows = go (suc (length q)) refl (follows_by p d (suc (length q)) x u.follows) }
      where
        keeps : take (suc (length q)) (path_of p r) ≡ take (suc (length q)) p
        keeps = next_keeps kind n (suc (length q)) p d r r.depth refl l t

        short : (k : ℕ) → Follows p d r.name k → k ≤ suc (length p)
        short k (aside j h z) = omega arith
        short k (below z) = omega arith

        go : (k : ℕ) → k ≡ suc (length q) → Follows p d x k → T (follows (path_of p r) e (suc (length q)) x)
        go k i (aside j h z) =
            let w : j ≡ length q = omega (arith, i) in
            let g : get_or p j [] ≡ get_or (path_of p r) j [] =
            sym (get_or-take (suc (length q)) p j [] (omega (arith, w))) ∙ ap (λ (o : Path). get_or o j []) (sym keeps) ∙ get_or-take (suc (length q)) (path_of p r) j [] (omega (arith, w)) in
            let b : j < length (path_of p r) = omega (arith, w, l, next_length p d r.name r.depth (follows_by p d r.depth r.name t)) in
            subst (λ (m : ℕ). T (follows (path_of p r) e (suc m) x)) w (by_follows (path_of p r) e (suc j) x (aside j b (subst (λ (m : Name). T (precedes m x)) g z)))
        go k i (below z) = absurd (omega (arith, i, l, short r.depth (follows_by p d r.depth r.name t)))

    -- what is not deeper than the directory stands behind the entry
    behind-out : (y : Name) (k : ℕ) → k ≤ length q → Follows p d y k → T (follows (q ++ (x ∷ [])) false k y)
    behind-out y k l (aside j h z) =
        let g : get_or p j [] ≡ get_or (q ++ (x ∷ [])) j [] =
        sym (get_or-take (length q) p j [] (omega (arith, l))) ∙ ap (λ (o : Path). get_or o j []) u.within ∙ sym (get_or-append q (x ∷ []) [] j (omega (arith, l))) in
        by_follows (q ++ (x ∷ [])) false (suc j) y (aside j (omega (arith, l, length-append q (x ∷ []))) (subst (λ (m : Name). T (precedes m y)) g z))
    behind-out y k l (below z) = absurd (omega (arith, l, long))

-- ---- the scan

-- entry j has the path of x in the directory q; b is the offset of its name
pub record FoundAt (q : Path) (x : Name) (p : Path) (rs : List Row) (k o j b : ℕ) : Type 0 where
  pub index : ℕ
  pub at : j ≡ k + index
  pub within : index < length rs
  pub offset : b ≡ o + name_sum (take index rs)
  pub path : path_after p (take (suc index) rs) ≡ q ++ (x ∷ [])

-- the entry x of the directory q may stand before entry j
pub record MissingAt (kind : ℕ → ℕ) (q : Path) (x : Name) (p : Path) (d : Bool) (rs : List Row) (k o j b : ℕ) : Type 0 where
  pub index : ℕ
  pub at : j ≡ k + index
  pub within : index ≤ length rs
  pub offset : b ≡ o + name_sum (take index rs)
  pub fits : Fits q x (path_after p (take index rs)) (dir_after kind d (take index rs))
  pub behind : Behind (q ++ (x ∷ [])) (drop index rs)

-- what an answer of the scan says
abbrev pub Says : (ℕ → ℕ) → Path → Name → Path → Bool → List Row → ℕ → ℕ → Place → Type 0
Says kind q x p d rs k o (Ok s) = FoundAt q x p rs k o s.at s.off
Says kind q x p d rs k o (Err s) = MissingAt kind q x p d rs k o s.at s.off

module _ (kind : ℕ → ℕ) (n : ℕ) (q : Path) (x : Name) where
  -- at the first entry, or at the end
  here : (p : Path) (d : Bool) (rs : List Row) (k o : ℕ) → Fits q x p d → Behind (q ++ (x ∷ [])) rs → MissingAt kind q x p d rs k o k o
  unfolding path_after dir_after name_sum
  here p d rs k o u m = record { index = 0; at = sym (add-zero k); within = zero-le; offset = sym (add-zero o); fits = u; behind = m }

  -- the first entry is it
  found : (p : Path) (r : Row) (rs : List Row) (k o : ℕ) → path_of p r ≡ q ++ (x ∷ []) → FoundAt q x p (r ∷ rs) k o k o
  unfolding path_after name_sum
  found p r rs k o e = record { index = 0; at = sym (add-zero k); within = omega arith; offset = sym (add-zero o); path = e }

  -- what is said behind an entry is said with it
  later : (p : Path) (d : Bool) (r : Row) (rs : List Row) (k o : ℕ) (w : Place) → Says kind q x (path_of p r) (eqb (kind r.slot) 1) rs (suc k) (o + length r.name) w
      → Says kind q x p d (r ∷ rs) k o w
  unfolding path_after dir_after name_sum
  later p d r rs k o (Ok s) f =
      record { index = suc f.index; at = omega (arith, f.at); within = omega (arith, f.within); offset = omega (arith, f.offset); path = f.path }
  later p d r rs k o (Err s) f =
      record { index = suc f.index; at = omega (arith, f.at); within = omega (arith, f.within); offset = omega (arith, f.offset); fits = f.fits; behind = f.behind }

  -- one entry, and what the scan behind it says
  turn : (p : Path) (d : Bool) (r : Row) (rs : List Row) (k o : ℕ) → Fits q x p d → T (walk_ok kind n p d (r ∷ rs))
      → (Fits q x (path_of p r) (eqb (kind r.slot) 1)
      → Says kind q x (path_of p r) (eqb (kind r.slot) 1) rs (suc k) (o + length r.name) (find_in (length q) x rs (suc k) (o + length r.name)))
      → Says kind q x p d (r ∷ rs) k o (find_in (length q) x (r ∷ rs) k o)
  unfolding find_in
  turn p d r rs k o u h ih = one (leb r.depth (length q)) refl
    where
      t : T (follows p d r.depth r.name)
      t = walk-follows kind n p d r rs h

      dir : Bool
      dir = eqb (kind r.slot) 1

      on : Place
      on = find_in (length q) x rs (suc k) (o + length r.name)

      more : Fits q x (path_of p r) dir → Says kind q x p d (r ∷ rs) k o on
      more v = later p d r rs k o on (ih v)

      three : r.depth ≡ suc (length q) → (w : Ordering) → order_of r.name x ≡ w → Says kind q x p d (r ∷ rs) k o (by_order w on (Ok (spot k o)) (Err (spot k o)))
      three e Less w = more (rw e (fits-lesser q x p d u r.name dir (of_true (before_of_less r.name x w))))
      three e Equal w = found p r rs k o (rw e (child q x p d u r.name ∙ ap (λ (v : Name). q ++ (v ∷ [])) (same_of_same r.name x w)))
      three e Greater w = here p d (r ∷ rs) k o u (rw e (stands q x x r.name false (of_true (behind_of_more r.name x w))))

      two : length q < r.depth → (b : Bool) → eqb r.depth (suc (length q)) ≡ b
          → Says kind q x p d (r ∷ rs) k o (cond b (by_order (order_of r.name x) on (Ok (spot k o)) (Err (spot k o))) on)
      two l true e = three (eqb-true r.depth (suc (length q)) e) (order_of r.name x) refl
      two l false e = more (fits-deeper q x p d u kind n r dir (let z = eqb-false r.depth (suc (length q)) e in omega (arith, l, z)) t)

      one : (b : Bool) → leb r.depth (length q) ≡ b
          → Says kind q x p d (r ∷ rs) k o (cond b (Err (spot k o)) (cond (eqb r.depth (suc (length q))) (by_order (order_of r.name x) on (Ok (spot k o)) (Err (spot k o))) on))
      one true e = here p d (r ∷ rs) k o u (behind-out q x p d u r.name r.depth (leb-true r.depth (length q) e) (follows_by p d r.depth r.name t))
      one false e = two (leb-false r.depth (length q) e) (eqb r.depth (suc (length q))) refl

  pub scans : (p : Path) (d : Bool) (rs : List Row) (k o : ℕ) → Fits q x p d → T (walk_ok kind n p d rs) → Says kind q x p d rs k o (find_in (length q) x rs k o)
  unfolding find_in
  scans p d [] k o u h = here p d [] k o u tt
  scans p d (r ∷ rs) k o u h =
      turn p d r rs k o u h (λ v. scans (path_of p r) (eqb (kind r.slot) 1) rs (suc k) (o + length r.name) v (rest_ok kind n p d r rs h))
