-- The order of paths, name by name from the root, a directory before what is below it: a path never rises to itself, two rises
-- make one, and the path of each entry of a walk is behind that of the entry before it.
-- Assumes nothing.
use mathlib.Core.Bool.{Bool, true, false, ◌&&◌, cond}
use mathlib.Core.List.{[], ◌∷◌, ◌++◌}
use mathlib.Core.Logic.{◌⊎◌, inl, inr}
use mathlib.Core.Path.{◌≡◌, refl, sym, ap, ◌∙◌, subst}
use Prim.Native.Nat.{ℕ, zero, suc, ◌<◌}
use native.Mathlib.Omega.{arith}
use lib.Dec.{T, eqb, ltb, eqb→eq}
use lib.ListN.{length, take, get_or, length-append}
use lib.Seq.{take-length, length-take-le}
use borrow.Author.Tests.{lt-ltb, le-ltb, eq-eqb, ltb-true}
use Rattle.text.specs.Utf8.{Bytes}
use Rattle.path.specs.Path.{Name}
use Rattle.path.proofs.Laws.{and_left, and_right}
use Rattle.model.specs.Tree.{Path, precedes}
use Rattle.model.proofs.Entries.{is_true, of_true}
use Rattle.model.proofs.Ordering.{not_itself, joins}
use Rattle.layout.specs.Rows.{path_by}
use Rattle.layout.specs.Lawful.{follows}

-- ---- names

pub before_self : (x : Bytes) → T (precedes x x) → ⊥
before_self x t = subst T (not_itself x) t

pub before_both : (x y z : Bytes) → T (precedes x y) → T (precedes y z) → T (precedes x z)
before_both x y z t u = of_true (joins x y z (is_true (precedes x y) t) (is_true (precedes y z) u))

-- ---- paths

-- the first path is before the second
abbrev pub Rises : Path → Path → Type 0
Rises [] [] = ⊥
Rises [] (y ∷ q) = Unit {0}
Rises (x ∷ p) [] = ⊥
Rises (x ∷ p) (y ∷ q) = T (precedes x y) ⊎ ((x ≡ y) × Rises p q)

pub rise-self : (p : Path) → Rises p p → ⊥
rise-self [] h = h
rise-self (x ∷ p) (inl t) = before_self x t
rise-self (x ∷ p) (inr e) = rise-self p e.1

pub rise-apart : (p q : Path) → Rises p q → p ≡ q → ⊥
rise-apart p q h e = rise-self q (subst (λ (r : Path). Rises r q) e h)

pub rise_both : (p q r : Path) → Rises p q → Rises q r → Rises p r
rise_both [] [] r h k = absurd h
rise_both [] (y ∷ q) [] h k = k
rise_both [] (y ∷ q) (z ∷ r) h k = tt
rise_both (x ∷ p) [] r h k = absurd h
rise_both (x ∷ p) (y ∷ q) [] h k = k
rise_both (x ∷ p) (y ∷ q) (z ∷ r) (inl t) (inl u) = inl (before_both x y z t u)
rise_both (x ∷ p) (y ∷ q) (z ∷ r) (inl t) (inr e) = inl (subst (λ (n : Name). T (precedes x n)) e.0 t)
rise_both (x ∷ p) (y ∷ q) (z ∷ r) (inr e) (inl u) = inl (subst (λ (n : Name). T (precedes n z)) (sym e.0) u)
rise_both (x ∷ p) (y ∷ q) (z ∷ r) (inr e) (inr f) = inr (e.0 ∙ f.0, rise_both p q r e.1 f.1)

-- ---- the next entry of a walk

-- behind another in its directory
pub rise-aside : (k : ℕ) (p : Path) (x : Name) → k < length p → T (precedes (get_or p k []) x) → Rises p (take k p ++ (x ∷ []))
rise-aside k [] x h t = absurd (omega arith)
rise-aside zero (y ∷ p) x h t = inl t
rise-aside (suc k) (y ∷ p) x h t = inr (refl, rise-aside k p x (omega arith) t)

-- the first in the directory before it
pub rise_under : (p : Path) (x : Name) → Rises p (p ++ (x ∷ []))
rise_under [] x = tt
rise_under (y ∷ p) x = inr (refl, rise_under p x)

-- where the entry stands: aside one of the names before it, or below all of them
pub data Follows (p : Path) (d : Bool) (x : Name) : ℕ → Type 0 where
  aside : (k : ℕ) → k < length p → T (precedes (get_or p k []) x) → Follows p d x (suc k)
  below : d ≡ true → Follows p d x (suc (length p))

pub follows_by : (p : Path) (d : Bool) (k : ℕ) (x : Name) → T (follows p d k x) → Follows p d x k
follows_by p d zero x t = absurd t
follows_by p d (suc k) x t = go (ltb k (length p)) refl t
  where
    go : (b : Bool) → ltb k (length p) ≡ b → T (cond b (precedes (get_or p k []) x) (eqb k (length p) && d)) → Follows p d x (suc k)
    go true e t = aside k (ltb-true k (length p) e) t
    go false e t =
        subst (λ (n : ℕ). Follows p d x (suc n)) (sym (eqb→eq k (length p) (and_left (eqb k (length p)) d t)))
        (below (is_true d (and_right (eqb k (length p)) d t)))

pub by_follows : (p : Path) (d : Bool) (k : ℕ) (x : Name) → Follows p d x k → T (follows p d k x)
by_follows p d n x (aside k h t) = rw (lt-ltb k (length p) h) t
by_follows p d n x (below e) = rw (le-ltb (length p) (length p) (omega arith), eq-eqb (length p) (length p) refl, e) tt

-- it has as many names as it says
pub next_length : (p : Path) (d : Bool) (x : Name) (k : ℕ) → Follows p d x k → length (path_by k p x) ≡ k
next_length p d x n (aside k h t) = length-append (take k p) (x ∷ []) ∙ omega (arith, length-take-le k p (omega arith))
next_length p d x n (below e) = length-append (take (length p) p) (x ∷ []) ∙ omega (arith, ap length (take-length p))

pub rise_next : (p : Path) (d : Bool) (x : Name) (k : ℕ) → Follows p d x k → Rises p (path_by k p x)
rise_next p d x k (aside j h t) = rise-aside j p x h t
rise_next p d x k (below e) = subst (λ (q : Path). Rises p (q ++ (x ∷ []))) (sym (take-length p)) (rise_under p x)
