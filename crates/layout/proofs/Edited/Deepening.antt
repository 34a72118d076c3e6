-- What lies below a path, put below another: each path keeps the names behind the first, and the rules hold as before, since they
-- speak of the names behind it alone.
-- Assumes nothing.
use mathlib.Core.Bool.{Bool, ◌&&◌, cond}
use mathlib.Core.List.{List, [], ◌∷◌, ◌++◌, append_assoc}
use mathlib.Core.Path.{◌≡◌, refl, sym, ap, ◌∙◌, subst}
use Prim.Native.Nat.{ℕ, suc, ◌+◌, ◌-◌, ◌<◌}
use native.Mathlib.Omega.{arith}
use lib.Dec.{T, eqb, ltb}
use lib.ListN.{length, length-append, take, get_or}
use lib.Seq.{take-append-add, get_or-append-add}
use borrow.Author.Tests.{lt-ltb, le-ltb, eq-eqb}
use Rattle.path.specs.Path.{Name}
use Rattle.path.proofs.Laws.{and_left, and_right, and_both}
use Rattle.model.specs.Tree.{Path, Node, Entries, precedes, graft}
use Rattle.model.specs.Rules.{name_ok}
use Rattle.layout.specs.Rows.{Row, path_by, path_of, tree_from}
use Rattle.layout.specs.Lawful.{follows, entry_ok, walk_ok, uses}
use Rattle.layout.proofs.Rising.{Follows, aside, below, follows_by}
use Rattle.layout.specs.Parts.{dir_after, Deeper, deepen}

-- the names behind a path
path-below : (p s : Path) (k : ℕ) (x : Name) → path_by (suc (length p + k)) (p ++ s) x ≡ p ++ (take k s ++ (x ∷ []))
path-below p s k x =
    ap (λ (o : Path). o ++ (x ∷ [])) (take-append-add p s k) ∙ append_assoc p (take k s) (x ∷ [])

-- the same rule behind another
follows-below : (p q s : Path) (d : Bool) (k : ℕ) (x : Name) → T (follows (p ++ s) d (suc (length p + k)) x) → T (follows (q ++ s) d (suc (length q + k)) x)
follows-below p q s d k x t = go (suc (length p + k)) refl (follows_by (p ++ s) d (suc (length p + k)) x t)
  where
    go : (m : ℕ) → m ≡ suc (length p + k) → Follows (p ++ s) d x m → T (follows (q ++ s) d (suc (length q + k)) x)
    go m e (aside j h y) =
        let z : j ≡ length p + k = omega arith in
        let u : get_or (p ++ s) j [] ≡ get_or (q ++ s) (length q + k) [] = ap (λ (i : ℕ). get_or (p ++ s) i []) z ∙ (get_or-append-add p s k [] ∙ sym (get_or-append-add q s k [])) in
        rw (lt-ltb (length q + k) (length (q ++ s)) (omega (arith, length-append p s, length-append q s)))
        (subst (λ (n : Name). T (precedes n x)) u y)
    go m e (below y) =
        rw (le-ltb (length q + k) (length (q ++ s)) (omega (arith, length-append p s, length-append q s)), eq-eqb (length q + k) (length (q ++ s)) (omega (arith, length-append p s, length-append q s)), y) tt

-- how many names an entry has behind the path
pub record Depth (u : ℕ) (r : Row) : Type 0 where
  pub place : ℕ
  pub deep : r.depth ≡ suc (u + place)

depth-of : (u : ℕ) (r : Row) → u < r.depth → Depth u r
depth-of u r h = record { place = r.depth - suc u; deep = omega arith }

module _ (kind : ℕ → ℕ) (n : ℕ) (p q : Path) where
  abbrev down : Row → Row
  down r = record { depth = r.depth + length q - length p; name = r.name; slot = r.slot }

  new-depth : (r : Row) (y : Depth (length p) r) → r.depth + length q - length p ≡ suc (length q + y.place)
  new-depth r y = omega (arith, y.deep)

  -- the names behind the path, of an entry
  abbrev behind_it : Path → (r : Row) → Depth (length p) r → Path
  behind_it s r y = take y.place s ++ (r.name ∷ [])

  old-path : (s : Path) (r : Row) (y : Depth (length p) r) → path_of (p ++ s) r ≡ p ++ behind_it s r y
  old-path s r y = ap (λ (k : ℕ). path_by k (p ++ s) r.name) y.deep ∙ path-below p s y.place r.name

  new-path : (s : Path) (r : Row) (y : Depth (length p) r) → path_of (q ++ s) (down r) ≡ q ++ behind_it s r y
  new-path s r y = ap (λ (k : ℕ). path_by k (q ++ s) r.name) (new-depth r y) ∙ path-below q s y.place r.name

  pub walk-below : (s : Path) (d : Bool) (rs : List Row) → Deeper (length p) rs → T (walk_ok kind n (p ++ s) d rs) → T (walk_ok kind n (q ++ s) d (deepen (length p) (length q) rs))
  unfolding walk_ok deepen Deeper
  walk-below s d [] h t = tt
  walk-below s d (r ∷ rs) h t =
      let y = depth-of (length p) r h.0 in
      let f = and_left (entry_ok n (p ++ s) d r) _ t in
      let i = and_left (ltb r.slot n) _ f in
      let c = and_right (ltb r.slot n) (name_ok r.name && follows (p ++ s) d r.depth r.name) f in
      and_both (entry_ok n (q ++ s) d (down r)) _
      (and_both (ltb r.slot n) _ i
      (and_both (name_ok r.name) _ (and_left (name_ok r.name) _ c)
      (subst (λ (k : ℕ). T (follows (q ++ s) d k r.name)) (sym (new-depth r y))
      (follows-below p q s d y.place r.name (subst (λ (k : ℕ). T (follows (p ++ s) d k r.name)) y.deep (and_right (name_ok r.name) _ c))))))
      (subst (λ (o : Path). T (walk_ok kind n o (eqb (kind r.slot) 1) (deepen (length p) (length q) rs))) (sym (new-path s r y))
      (walk-below (behind_it s r y) (eqb (kind r.slot) 1) rs h.1 (subst (λ (o : Path). T (walk_ok kind n o (eqb (kind r.slot) 1) rs)) (old-path s r y) (and_right (entry_ok n (p ++ s) d r) _ t))))

  -- the tree below, by the names behind
  pub tree-below : (f : ℕ → Node) (s : Path) (rs : List Row) → Deeper (length p) rs
      → (t : Entries) × (tree_from f (p ++ s) rs ≡ graft p t) × (tree_from f (q ++ s) (deepen (length p) (length q) rs) ≡ graft q t)
  unfolding tree_from deepen Deeper graft
  tree-below f s [] h = ([], refl, refl)
  tree-below f s (r ∷ rs) h =
      let y = depth-of (length p) r h.0 in
      let u = tree-below f (behind_it s r y) rs h.1 in (
        (behind_it s r y, f r.slot) ∷ u.0,
        ap (λ (o : Path). (o, f r.slot) ∷ tree_from f o rs) (old-path s r y) ∙ ap (λ (e : Entries). (p ++ behind_it s r y, f r.slot) ∷ e) u.1,
        ap (λ (o : Path). (o, f r.slot) ∷ tree_from f o (deepen (length p) (length q) rs)) (new-path s r y) ∙ ap (λ (e : Entries). (q ++ behind_it s r y, f r.slot) ∷ e) u.2,
      )

pub uses-deepen : (u v k : ℕ) (rs : List Row) → uses k (deepen u v rs) ≡ uses k rs
unfolding uses deepen
uses-deepen u v k [] = refl
uses-deepen u v k (r ∷ rs) = ap (λ (i : ℕ). cond (eqb r.slot k) 1 0 + i) (uses-deepen u v k rs)

pub dir-deepen : (kind : ℕ → ℕ) (u v : ℕ) (d : Bool) (rs : List Row) → dir_after kind d (deepen u v rs) ≡ dir_after kind d rs
unfolding dir_after deepen
dir-deepen kind u v d [] = refl
dir-deepen kind u v d (r ∷ rs) = dir-deepen kind u v (eqb (kind r.slot) 1) rs
