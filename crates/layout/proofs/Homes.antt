-- Every entry of a walk stands in a directory of the tree: the directories of a path are those of the path before it, and the
-- entry before it where that is one.
-- Assumes nothing.
use mathlib.Core.Bool.{Bool, true}
use mathlib.Core.List.{List, [], ◌∷◌, ◌++◌}
use mathlib.Core.Logic.{inl, inr}
use mathlib.Core.Option.{some}
use mathlib.Core.Path.{◌≡◌, refl, sym, ap, ◌∙◌, subst}
use Prim.Native.Nat.{ℕ, suc, ◌≤◌, ◌<◌}
use native.Mathlib.Decide.{ℕ_discrete}
use native.Mathlib.Omega.{arith}
use lib.Dec.{T, eqb}
use lib.ListN.{length, take, length-append}
use lib.Seq.{take-length, take-take, take-append-le, length-take-le}
use borrow.Author.Tests.{eqb-true}
use Rattle.path.specs.Path.{Name}
use Rattle.path.proofs.Laws.{and_left, and_right}
use Rattle.model.specs.Tree.{Path, Meta, Node, dir, Entries, look}
use Rattle.model.proofs.Entries.{clash, look-here, look_past}
use Rattle.model.proofs.Sound.Worlds.{IsDir}
use Rattle.model.proofs.Sound.Entries.{snoc-equal}
use Rattle.layout.specs.Rows.{Row, path_of, path_by, tree_from}
use Rattle.layout.specs.Lawful.{entry_ok, walk_ok}
use Rattle.layout.proofs.Climbing.{none_below}
use Rattle.layout.proofs.Rising.{Follows, aside, below}
use Rattle.layout.proofs.Walks.{At, stands-ok, walk-climbs}

-- the directories of the path are there, and it is one itself where that is said
pub record Roof (t : Entries) (p : Path) (d : Bool) : Type 0 where
  pub above : (k : ℕ) → k < length p → IsDir t (take k p)
  pub self : d ≡ true → IsDir t p

-- the directory of the next entry
pub record Home (t : Entries) (p : Path) (k : ℕ) : Type 0 where
  pub depth : ℕ
  pub one : k ≡ suc depth
  pub short : depth ≤ length p
  pub is_dir : IsDir t (take depth p)

home : (t : Entries) (p : Path) (d : Bool) (x : Name) (k : ℕ) → Roof t p d → Follows p d x k → Home t p k
home t p d x k h (aside j g u) = record { depth = j; one = refl; short = omega arith; is_dir = h.above j g }
home t p d x k h (below e) =
    record { depth = length p; one = refl; short = omega arith; is_dir = subst (λ (q : Path). IsDir t q) (sym (take-length p)) (h.self e) }

-- the directories of the next path
above_next : (t : Entries) (p : Path) (d : Bool) (x : Name) (j : ℕ) → Roof t p d → j ≤ length p → IsDir t (take j p)
    → (i : ℕ) → i < length (take j p ++ (x ∷ [])) → IsDir t (take i (take j p ++ (x ∷ [])))
above_next t p d x j h s e i g = subst (λ (q : Path). IsDir t q) (sym same) (go (ℕ_discrete i j))
  where
    long : length (take j p ++ (x ∷ [])) ≡ suc j
    long = length-append (take j p) (x ∷ []) ∙ omega (arith, length-take-le j p s)

    low : i ≤ j
    low = omega (arith, long)

    same : take i (take j p ++ (x ∷ [])) ≡ take i p
    same = take-append-le i (take j p) (x ∷ []) (omega (arith, low, length-take-le j p s)) ∙ take-take i j p low

    go : Dec (i ≡ j) → IsDir t (take i p)
    go (yes z) = subst (λ (k : ℕ). IsDir t (take k p)) (sym z) e
    go (no z) = h.above i (omega (arith, low))

-- the path of the next entry, with its directory
path_next : (t : Entries) (p : Path) (x : Name) (k : ℕ) (h : Home t p k) → path_by k p x ≡ take h.depth p ++ (x ∷ [])
path_next t p x k h = ap (λ (n : ℕ). path_by n p x) h.one

pub roof_next : (t : Entries) (p : Path) (d e : Bool) (x : Name) (k : ℕ) → Roof t p d → Follows p d x k
    → (e ≡ true → IsDir t (path_by k p x)) → Roof t (path_by k p x) e
roof_next t p d e x k r f s =
    let h = home t p d x k r f in
    record {
      above = subst (λ (q : Path). (i : ℕ) → i < length q → IsDir t (take i q)) (sym (path_next t p x k h)) (above_next t p d x h.depth r h.short h.is_dir);
      self = s;
    }

home_of : (t : Entries) (p : Path) (d : Bool) (x : Name) (k : ℕ) → Roof t p d → Follows p d x k → (q : Path) (y : Name)
    → path_by k p x ≡ q ++ (y ∷ []) → IsDir t q
home_of t p d x k r f q y e =
    let h = home t p d x k r f in
    subst (λ (o : Path). IsDir t o) (snoc-equal (take h.depth p) q x y (sym (path_next t p x k h) ∙ e)) h.is_dir

-- what stands in the one stands in the other
abbrev pub Within : Entries → Entries → Type 0
Within u t = (q : Path) (n : Node) → look u q ≡ some n → look t q ≡ some n

module _ (kind : ℕ → ℕ) (n : ℕ) (f : ℕ → Node) (dirs : (k : ℕ) → kind k ≡ 1 → (m : Meta) × (f k ≡ dir m)) (t : Entries) where
  -- every entry's directory
  pub at_home : (p : Path) (d : Bool) (rs : List Row) → T (walk_ok kind n p d rs) → Roof t p d → Within (tree_from f p rs) t
      → (q : Path) (x : Name) (r : Row) → At p rs (q ++ (x ∷ [])) r → IsDir t q
  unfolding tree_from walk_ok
  at_home p d [] w h g q x r a = absurd a
  at_home p d (s ∷ rs) w h g q x r a = go a (at_home (path_of p s) (eqb (kind s.slot) 1) rs rest roof within q x r)
    where
      rest : T (walk_ok kind n (path_of p s) (eqb (kind s.slot) 1) rs)
      rest = and_right (entry_ok n p d s) (walk_ok kind n (path_of p s) (eqb (kind s.slot) 1) rs) w

      stands : Follows p d s.name s.depth
      stands = stands-ok kind n p d s (and_left (entry_ok n p d s) (walk_ok kind n (path_of p s) (eqb (kind s.slot) 1) rs) w)

      there : look t (path_of p s) ≡ some (f s.slot)
      there = g (path_of p s) (f s.slot) (look-here (path_of p s, f s.slot) (tree_from f (path_of p s) rs) (path_of p s) refl)

      roof : Roof t (path_of p s) (eqb (kind s.slot) 1)
      roof = roof_next t p d (eqb (kind s.slot) 1) s.name s.depth h stands
          (λ e. let m = dirs s.slot (eqb-true (kind s.slot) 1 e) in (m.0, there ∙ ap some m.1))

      within : Within (tree_from f (path_of p s) rs) t
      within o m e = g o m (look_past (path_of p s, f s.slot) (tree_from f (path_of p s) rs) o
          (λ z. clash (look (tree_from f (path_of p s) rs) o) m (none_below (path_of p s) (tree_from f (path_of p s) rs) (walk-climbs kind n f (path_of p s) (eqb (kind s.slot) 1) rs rest) o (inl (sym z))) e) ∙ e)

      go : At p (s ∷ rs) (q ++ (x ∷ [])) r → (At (path_of p s) rs (q ++ (x ∷ [])) r → IsDir t q) → IsDir t q
      go (inl e) ih = home_of t p d s.name s.depth h stands q x e.0
      go (inr b) ih = ih b
