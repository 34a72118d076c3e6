-- A block of a walk, an entry with all below it, taken out: the entries behind it keep their paths, and no other path begins with
-- the entry's. Before it every path is before the entry's; behind it every path is beyond it, greater at one of its names.
-- Assumes nothing.
use mathlib.Core.Bool.{Bool, true, false}
use mathlib.Core.List.{List, [], ◌∷◌, ◌++◌}
use mathlib.Core.Logic.{◌⊎◌, inl, inr}
use mathlib.Core.Option.{none}
use mathlib.Core.Path.{◌≡◌, refl, sym, ap, ◌∙◌, subst}
use Prim.Native.Nat.{ℕ, zero, suc, ◌≤◌, ◌<◌}
use native.Mathlib.Omega.{arith}
use lib.Dec.{T, eqb, ltb}
use lib.ListN.{length, take, drop, get_or, take-append-drop}
use lib.Seq.{take-append-le, length-take-le, take-take}
use Rattle.path.specs.Path.{Name, same}
use Rattle.path.proofs.Laws.{same_equal, and_right}
use Rattle.model.specs.Tree.{Path, precedes, behind, behind_by}
use Rattle.model.specs.Rules.{name_ok}
use Rattle.layout.specs.Rows.{Row, path_by, path_of}
use Rattle.layout.specs.Lawful.{follows, walk_ok}
use Rattle.model.proofs.Entries.{clash, is_false, behind-self}
use Rattle.layout.proofs.Rising.{before_self, before_both, Rises, Follows, aside, below, follows_by}
use Rattle.layout.proofs.Walks.{first_ok, rest_ok}
use Rattle.layout.specs.Parts.{path_after, Deeper}

-- ---- what lies below keeps the names

-- the names of a path with one more behind some of them
pub kept-names : (n k : ℕ) (p : Path) (x : Name) → n ≤ k → k ≤ length p → take n (take k p ++ (x ∷ [])) ≡ take n p
kept-names n k p x h j =
    take-append-le n (take k p) (x ∷ []) (rw (length-take-le k p j) h) ∙ take-take n k p h

-- how deep an entry stands behind a path
pub follows-low : (p : Path) (d : Bool) (k : ℕ) (x : Name) → T (follows p d (suc k) x) → k ≤ length p
follows-low p d k x t = go (suc k) refl (follows_by p d (suc k) x t)
  where
    go : (n : ℕ) → n ≡ suc k → Follows p d x n → k ≤ length p
    go n e (aside j h u) = omega (arith, e)
    go n e (below u) = omega (arith, e)

module _ (kind : ℕ → ℕ) (n : ℕ) where
  pub walk-follows : (p : Path) (d : Bool) (r : Row) (rs : List Row) → T (walk_ok kind n p d (r ∷ rs)) → T (follows p d r.depth r.name)
  walk-follows p d r rs t = and_right (name_ok r.name) _ (and_right (ltb r.slot n) _ (first_ok kind n p d r rs t))

  pub walk-rises : (p : Path) (d : Bool) (r : Row) (rs : List Row) → T (walk_ok kind n p d (r ∷ rs)) → Follows p d r.name r.depth
  walk-rises p d r rs t = follows_by p d r.depth r.name (walk-follows p d r rs t)

  -- one entry deeper than m names keeps the first m
  pub next_keeps : (m : ℕ) (p : Path) (d : Bool) (r : Row) (k : ℕ) → r.depth ≡ k → m < k → T (follows p d k r.name) → take m (path_by k p r.name) ≡ take m p
  next_keeps m p d r zero e h t = absurd (omega arith)
  next_keeps m p d r (suc k) e h t = kept-names m k p r.name (omega arith) (follows-low p d k r.name t)

  pub below-keeps : (m : ℕ) (p : Path) (d : Bool) (rs : List Row) → Deeper m rs → T (walk_ok kind n p d rs) → take m (path_after p rs) ≡ take m p
  unfolding path_after Deeper
  below-keeps m p d [] h t = refl
  below-keeps m p d (r ∷ rs) h t =
      below-keeps m (path_of p r) (eqb (kind r.slot) 1) rs h.1 (rest_ok kind n p d r rs t)
      ∙ next_keeps m p d r r.depth refl h.0 (walk-follows p d r rs t)

-- ---- paths beyond

-- greater at one of the names of the first
abbrev pub Beyond : Path → Path → Type 0
Beyond [] q = ⊥
Beyond (x ∷ p) [] = ⊥
Beyond (x ∷ p) (y ∷ q) = T (precedes x y) ⊎ ((x ≡ y) × Beyond p q)

pub beyond-rises : (p q r : Path) → Beyond p q → Rises q r → Beyond p r
beyond-rises [] q r h k = absurd h
beyond-rises (x ∷ p) [] r h k = absurd h
beyond-rises (x ∷ p) (y ∷ q) [] h k = absurd k
beyond-rises (x ∷ p) (y ∷ q) (z ∷ r) (inl t) (inl u) = inl (before_both x y z t u)
beyond-rises (x ∷ p) (y ∷ q) (z ∷ r) (inl t) (inr e) = inl (subst (λ (m : Name). T (precedes x m)) e.0 t)
beyond-rises (x ∷ p) (y ∷ q) (z ∷ r) (inr e) (inl u) = inl (subst (λ (m : Name). T (precedes m z)) (sym e.0) u)
beyond-rises (x ∷ p) (y ∷ q) (z ∷ r) (inr e) (inr f) = inr (e.0 ∙ f.0, beyond-rises p q r e.1 f.1)

-- a path that is greater at one of its names does not begin with the first
behind_none : (b : Bool) → behind_by b none ≡ none
behind_none true = refl
behind_none false = refl

not_same : (x y : Name) → T (precedes x y) ⊎ T (precedes y x) → same x y ≡ false
not_same x y (inl t) = is_false (same x y) (λ e. before_self y (subst (λ (m : Name). T (precedes m y)) (same_equal x y e) t))
not_same x y (inr t) = is_false (same x y) (λ e. before_self y (subst (λ (m : Name). T (precedes y m)) (same_equal x y e) t))

pub beyond-behind : (p q : Path) → Beyond p q → behind p q ≡ none
unfolding behind
beyond-behind [] q h = absurd h
beyond-behind (x ∷ p) [] h = refl
beyond-behind (x ∷ p) (y ∷ q) (inl t) = ap (λ (b : Bool). behind_by b (behind p q)) (not_same x y (inl t))
beyond-behind (x ∷ p) (y ∷ q) (inr e) = ap (behind_by (same x y)) (beyond-behind p q e.1) ∙ behind_none (same x y)

-- nor does one that is before it
pub rises-behind : (p q : Path) → Rises q p → behind p q ≡ none
unfolding behind
rises-behind [] [] h = absurd h
rises-behind [] (y ∷ q) h = absurd h
rises-behind (x ∷ p) [] h = refl
rises-behind (x ∷ p) (y ∷ q) (inl t) = ap (λ (b : Bool). behind_by b (behind p q)) (not_same x y (inr t))
rises-behind (x ∷ p) (y ∷ q) (inr e) = ap (behind_by (same x y)) (rises-behind p q e.1) ∙ behind_none (same x y)

-- greater at the k-th
pub beyond-aside : (k : ℕ) (p : Path) (x : Name) → k < length p → T (precedes (get_or p k []) x) → Beyond p (take k p ++ (x ∷ []))
beyond-aside k [] x h t = absurd (omega arith)
beyond-aside zero (y ∷ p) x h t = inl t
beyond-aside (suc k) (y ∷ p) x h t = inr (refl, beyond-aside k p x (omega arith) t)

-- a path of which the first begins is behind it
pub begins : (p q : Path) → take (length p) q ≡ p → behind p q ≡ none → ⊥
begins p q e h =
    let z : q ≡ p ++ drop (length p) q = sym (take-append-drop (length p) q) ∙ ap (λ (r : Path). r ++ drop (length p) q) e in
    clash (behind p q) (drop (length p) q) h (ap (behind p) z ∙ behind-self p (drop (length p) q))
