-- What stands right below an entry of a walk: nothing that stands before it, since those paths are before the entry's; of what
-- stands behind it the entries of the directory, up to the first that is not deeper. That one and all behind it are beyond.
-- Assumes nothing.
use mathlib.Core.Bool.{Bool, true, false, cond}
use mathlib.Core.List.{List, [], ◌∷◌, ◌++◌, append-nil}
use mathlib.Core.Option.{Option, none, some}
use mathlib.Core.Path.{◌≡◌, refl, sym, ap, ◌∙◌, subst}
use Prim.Native.Nat.{ℕ, suc, ◌≤◌, ◌<◌}
use native.Mathlib.Omega.{arith}
use lib.Dec.{T, leb, eqb}
use lib.ListN.{length, take, drop, get_or, length-take, length-drop, take-append-drop}
use lib.Seq.{take-take, take-length, get_or-take}
use borrow.Author.Tests.{leb-true, leb-false, eqb-true, eqb-false}
use Rattle.path.specs.Path.{Name}
use Rattle.model.specs.Tree.{Path, Node, Entries, keep_if, precedes, behind, if_behind, under}
use Rattle.model.specs.Prog.{World, Stat, stat_of, child, children}
use Rattle.model.proofs.Entries.{behind-self}
use Rattle.layout.specs.Rows.{Row, path_by, path_of, tree_from}
use Rattle.layout.specs.Lawful.{walk_ok, rows_ok}
use Rattle.layout.proofs.Rising.{Follows, aside, below, next_length, rise_next}
use Rattle.layout.proofs.Roots.{root_of}
use Rattle.layout.proofs.Walks.{at_rises, rest_ok}
use Rattle.layout.specs.Parts.{path_after}
use Rattle.layout.proofs.Edited.Parted.{tree_both}
use Rattle.layout.proofs.Edited.Removing.{walk-follows, walk-rises, next_keeps, Beyond, beyond-rises, beyond-behind, rises-behind, beyond-aside}
use Rattle.layout.proofs.Edited.Blocked.{at_seam}
use Rattle.ask_list.specs.Listed.{entries_in, shown}

-- ---- entries one by one

-- an entry that does not begin with the path
passed : (q o : Path) (m : Node) (t : Entries) → behind q o ≡ none → under q ((o, m) ∷ t) ≡ under q t
unfolding under
passed q o m t h = ap (λ (z : Option Path). if_behind z m (under q t)) h

-- and one that does
entered : (world : World) (q o r : Path) (m : Node) (t : Entries) → behind q o ≡ some r
    → children world (under q ((o, m) ∷ t)) ≡ child r (stat_of world m) (children world (under q t))
unfolding under children
entered world q o r m t h = ap (λ (z : Option Path). children world (if_behind z m (under q t))) h

under_both : (q : Path) (a b : Entries) → under q (a ++ b) ≡ under q a ++ under q b
unfolding under
under_both q [] b = refl
under_both q (e ∷ a) b = go (behind q e.0) (under_both q a b)
  where
    go : (o : Option Path) → under q (a ++ b) ≡ under q a ++ under q b → if_behind o e.1 (under q (a ++ b)) ≡ if_behind o e.1 (under q a) ++ under q b
    go none ih = ih
    go (some r) ih = ap (λ (t : Entries). (r, e.1) ∷ t) ih

-- what is more than one name behind is not shown
child-far : (r : Path) (o : Option Stat) (l : List (Name × Stat)) → 1 < length r → child r o l ≡ l
child-far [] o l h = refl
child-far (x ∷ []) o l h = absurd (omega arith)
child-far (x ∷ y ∷ r) o l h = refl

-- a path that begins with another
begun : (q o : Path) → take (length q) o ≡ q → behind q o ≡ some (drop (length q) o)
begun q o h =
    ap (behind q) (sym (take-append-drop (length q) o) ∙ ap (λ (p : Path). p ++ drop (length q) o) h) ∙ behind-self q (drop (length q) o)

-- an entry that is not deeper than q, behind one that begins with q, is beyond it
beyond-here : (q p : Path) (d : Bool) (x : Name) (k : ℕ) → take (length q) p ≡ q → k ≤ length q → Follows p d x k → Beyond q (path_by k p x)
beyond-here q p d x k h l (aside j a t) =
    let e : take j q ≡ take j p = ap (take j) (sym h) ∙ take-take j (length q) p (omega (arith, l)) in
    let g : get_or p j [] ≡ get_or q j [] = sym (get_or-take (length q) p j [] (omega (arith, l))) ∙ ap (λ (o : Path). get_or o j []) h in
    subst (λ (o : Path). Beyond q (o ++ (x ∷ []))) e (beyond-aside j q x (omega (arith, l)) (subst (λ (y : Name). T (precedes y x)) g t))
beyond-here q p d x k h l (below e) = absurd (omega (arith, l, sym (length-take (length q) p) ∙ ap length h))

module _ (kind : ℕ → ℕ) (n : ℕ) (f : ℕ → Node) where
  -- ---- before and beyond

  front_none : (p : Path) (s : Row) (d : Bool) (a : List Row) (row : Row) (b : List Row) → T (walk_ok kind n (path_of p s) d (a ++ (row ∷ b)))
      → under (path_of (path_after p (s ∷ a)) row) (tree_from f p (s ∷ a)) ≡ []
  unfolding tree_from path_after under
  front_none p s d [] row b t =
      let o = path_of (path_of p s) row in
      passed o (path_of p s) (f s.slot) [] (rises-behind o (path_of p s) (at_rises kind n (path_of p s) d (row ∷ b) t o row (at_seam (path_of p s) [] row b)))
  front_none p s d (u ∷ a) row b t =
      let o = path_of (path_after (path_of p s) (u ∷ a)) row in
      passed o (path_of p s) (f s.slot) (tree_from f (path_of p s) (u ∷ a))
      (rises-behind o (path_of p s) (at_rises kind n (path_of p s) d (u ∷ a ++ (row ∷ b)) t o row (at_seam (path_of p s) (u ∷ a) row b)))
      ∙ front_none (path_of p s) u (eqb (kind u.slot) 1) a row b (rest_ok kind n (path_of p s) d u (a ++ (row ∷ b)) t)

  beyond_none : (q p : Path) (d : Bool) (rs : List Row) → Beyond q p → T (walk_ok kind n p d rs) → under q (tree_from f p rs) ≡ []
  unfolding tree_from under
  beyond_none q p d [] h t = refl
  beyond_none q p d (r ∷ rs) h t =
      let g : Beyond q (path_of p r) = beyond-rises q p (path_of p r) h (rise_next p d r.name r.depth (walk-rises kind n p d r rs t)) in
      passed q (path_of p r) (f r.slot) (tree_from f (path_of p r) rs) (beyond-behind q (path_of p r) g)
      ∙ beyond_none q (path_of p r) (eqb (kind r.slot) 1) rs g (rest_ok kind n p d r rs t)

  -- all that stand before
  before_none : (a : List Row) (row : Row) (b : List Row) → T (rows_ok kind n (a ++ (row ∷ b))) → under (path_of (path_after [] a) row) (tree_from f [] a) ≡ []
  unfolding tree_from under
  before_none [] row b t = refl
  before_none (s ∷ a) row b t =
      let o = root_of kind n s (a ++ (row ∷ b)) t in
      front_none [] s true a row b (subst (λ (p : Path). T (walk_ok kind n p true (a ++ (row ∷ b)))) (sym o.path) o.rest)

  -- ---- below

  module _ (world : World) (q : Path) where
    -- one entry, and those behind it
    turn : (p : Path) (d : Bool) (r : Row) (rs : List Row) → take (length q) p ≡ q → T (walk_ok kind n p d (r ∷ rs))
        → (take (length q) (path_of p r) ≡ q → children world (under q (tree_from f (path_of p r) rs)) ≡ shown world f (entries_in (length q) rs))
        → children world (under q (tree_from f p (r ∷ rs))) ≡ shown world f (entries_in (length q) (r ∷ rs))
    unfolding tree_from children entries_in shown
    turn p d r rs h t ih = one (leb r.depth (length q)) refl
      where
        m : ℕ
        m = length q

        o : Path
        o = path_of p r

        rest : List Row
        rest = entries_in m rs

        keeps : m < r.depth → take m o ≡ q
        keeps l = next_keeps kind n m p d r r.depth refl l (walk-follows kind n p d r rs t) ∙ h

        two : m < r.depth → (b : Bool) → eqb r.depth (suc m) ≡ b → children world (under q ((o, f r.slot) ∷ tree_from f o rs)) ≡ shown world f (keep_if b r rest)
        two l true e =
            let g : o ≡ q ++ (r.name ∷ []) = ap (λ (k : ℕ). path_by k p r.name) (eqb-true r.depth (suc m) e) ∙ ap (λ (u : Path). u ++ (r.name ∷ [])) h in
            entered world q o (r.name ∷ []) (f r.slot) (tree_from f o rs) (ap (behind q) g ∙ behind-self q (r.name ∷ []))
            ∙ ap (child (r.name ∷ []) (stat_of world (f r.slot))) (ih (keeps l))
        two l false e =
            entered world q o (drop m o) (f r.slot) (tree_from f o rs) (begun q o (keeps l))
            ∙ (child-far (drop m o) (stat_of world (f r.slot)) (children world (under q (tree_from f o rs)))
            (omega (arith, l, eqb-false r.depth (suc m) e, length-drop m o, next_length p d r.name r.depth (walk-rises kind n p d r rs t)))
            ∙ ih (keeps l))

        one : (b : Bool) → leb r.depth m ≡ b
            → children world (under q ((o, f r.slot) ∷ tree_from f o rs)) ≡ shown world f (cond b [] (keep_if (eqb r.depth (suc m)) r rest))
        one true e =
            let g : Beyond q o = beyond-here q p d r.name r.depth h (leb-true r.depth m e) (walk-rises kind n p d r rs t) in
            ap (children world)
            (passed q o (f r.slot) (tree_from f o rs) (beyond-behind q o g)
            ∙ beyond_none q o (eqb (kind r.slot) 1) rs g (rest_ok kind n p d r rs t))
        one false e = two (leb-false r.depth m e) (eqb r.depth (suc m)) refl

    scan : (p : Path) (d : Bool) (rs : List Row) → take (length q) p ≡ q → T (walk_ok kind n p d rs) → children world (under q (tree_from f p rs)) ≡ shown world f (entries_in (length q) rs)
    unfolding tree_from under children entries_in shown
    scan p d [] h t = refl
    scan p d (r ∷ rs) h t = turn p d r rs h t (λ g. scan (path_of p r) (eqb (kind r.slot) 1) rs g (rest_ok kind n p d r rs t))

  -- ---- all entries

  -- what stands right below the entry behind the first a
  pub children_at : (world : World) (a : List Row) (row : Row) (b : List Row) (d : Bool) → T (rows_ok kind n (a ++ (row ∷ b))) → T (walk_ok kind n (path_of (path_after [] a) row) d b)
      → children world (under (path_of (path_after [] a) row) (tree_from f [] (a ++ (row ∷ b)))) ≡ shown world f (entries_in (length (path_of (path_after [] a) row)) b)
  unfolding tree_from
  children_at world a row b d t w =
      let q = path_of (path_after [] a) row in
      let z = tree_from f q b in
      ap (λ (u : Entries). children world (under q u)) (tree_both f [] a (row ∷ b))
      ∙ (ap (children world) (under_both q (tree_from f [] a) ((q, f row.slot) ∷ z) ∙ ap (λ (u : Entries). u ++ under q ((q, f row.slot) ∷ z)) (before_none a row b t))
      ∙ (entered world q q [] (f row.slot) z (ap (behind q) (sym (append-nil q)) ∙ behind-self q [])
      ∙ scan world q q d b (take-length q) w))
