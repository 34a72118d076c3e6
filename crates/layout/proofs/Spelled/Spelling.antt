-- Entries in the order of their paths are a walk: the directory of an entry stands before it, so it is a part of the path before
-- it, and depth and last name give the path back.
-- Assumes nothing.
use mathlib.Core.Bool.{Bool, true}
use mathlib.Core.List.{[], ◌∷◌, ◌++◌, drop_last}
use mathlib.Core.Logic.{◌⊎◌, inl, inr}
use mathlib.Core.Path.{◌≡◌, refl, sym, ap, ◌∙◌, subst}
use Prim.Native.Nat.{ℕ, suc, ◌+◌, ◌≤◌}
use native.Mathlib.Omega.{arith}
use lib.Dec.{T}
use lib.ListN.{length, take, get_or, length-append}
use lib.Seq.{get_or-append_seam, take-append_seam, take-length}
use borrow.Author.Tests.{lt-ltb, le-ltb, eq-eqb}
use Rattle.path.specs.Path.{Name, last_name}
use Rattle.model.specs.Tree.{Path, precedes}
use Rattle.model.proofs.Sound.Paths.{whole}
use Rattle.layout.specs.Rows.{path_by}
use Rattle.layout.specs.Lawful.{follows}
use Rattle.layout.proofs.Rising.{Rises, before_self, before_both}

-- ---- a directory's path before another is a part of it

-- the second path is the first, or goes on behind it with a name before x
pub data Goes (P : Path) (x : Name) (Q : Path) : Type 0 where
  same : Q ≡ P → Goes P x Q
  past : (y : Name) (R : Path) → Q ≡ P ++ (y ∷ R) → T (precedes y x) → Goes P x Q

-- nothing is before the root
pub no_rise : (p : Path) → Rises p [] → ⊥
no_rise [] r = r
no_rise (x ∷ p) r = r

behind-name : (a : Name) (P Q : Path) (x : Name) → Goes P x Q → Goes (a ∷ P) x (a ∷ Q)
behind-name a P Q x (same e) = same (ap (λ (r : Path). a ∷ r) e)
behind-name a P Q x (past y R e t) = past y R (ap (λ (r : Path). a ∷ r) e) t

pub goes : (P Q : Path) (x : Name) → (P ≡ Q) ⊎ Rises P Q → Rises Q (P ++ (x ∷ [])) → Goes P x Q
goes [] [] x h r = same refl
goes [] (y ∷ Q) x h (inl t) = past y Q refl t
goes [] (y ∷ Q) x h (inr e) = absurd (no_rise Q e.1)
goes (a ∷ P) [] x (inl e) r = absurd (let z : ◌≡◌ {A = ℕ} 0 1 = cc in omega arith)
goes (a ∷ P) [] x (inr u) r = absurd u
goes (a ∷ P) (b ∷ Q) x h r = go h r (goes P Q x)
  where
    on : a ≡ b → ((P ≡ Q) ⊎ Rises P Q) → Rises Q (P ++ (x ∷ [])) → ((P ≡ Q) ⊎ Rises P Q → Rises Q (P ++ (x ∷ [])) → Goes P x Q) → Goes (a ∷ P) x (b ∷ Q)
    on e k u ih = subst (λ (c : Name). Goes (a ∷ P) x (c ∷ Q)) e (behind-name a P Q x (ih k u))

    cons-equal : a ∷ P ≡ b ∷ Q → (a ≡ b) × (P ≡ Q)
    cons-equal e = (cc, cc)

    go : (a ∷ P ≡ b ∷ Q) ⊎ (T (precedes a b) ⊎ ((a ≡ b) × Rises P Q)) → T (precedes b a) ⊎ ((b ≡ a) × Rises Q (P ++ (x ∷ [])))
        → ((P ≡ Q) ⊎ Rises P Q → Rises Q (P ++ (x ∷ [])) → Goes P x Q) → Goes (a ∷ P) x (b ∷ Q)
    go (inl e) (inl t) ih = absurd (before_self a (subst (λ (c : Name). T (precedes c a)) (sym (cons-equal e).0) t))
    go (inl e) (inr u) ih = on (cons-equal e).0 (inl (cons-equal e).1) u.1 ih
    go (inr (inl t)) (inl u) ih = absurd (before_self a (before_both a b a t u))
    go (inr (inl t)) (inr u) ih = absurd (before_self a (subst (λ (c : Name). T (precedes a c)) u.0 t))
    go (inr (inr k)) (inl u) ih = absurd (before_self a (subst (λ (c : Name). T (precedes c a)) (sym k.0) u))
    go (inr (inr k)) (inr u) ih = on k.0 (inr k.1) u.1 ih

-- ---- the row of an entry

-- what depth and name of the next entry say behind the path Q
pub record Step (Q : Path) (d : Bool) (k : ℕ) (x : Name) (p : Path) : Type 0 where
  pub stands : T (follows Q d k x)
  pub path : path_by k Q x ≡ p
  pub short : k ≤ suc (length Q)

step_by : (P Q : Path) (x : Name) (d : Bool) → (P ≡ Q → d ≡ true) → Goes P x Q → Step Q d (suc (length P)) x (P ++ (x ∷ []))
step_by P Q x d h (same e) =
    let l : length Q ≡ length P = ap length e in
    record {
      stands = rw (le-ltb (length P) (length Q) (omega arith), eq-eqb (length P) (length Q) (sym l), h (sym e)) tt;
      path = ap (λ (q : Path). q ++ (x ∷ [])) (ap (take (length P)) e ∙ take-length P);
      short = omega arith;
    }
step_by P Q x d h (past y R e t) =
    let l : length Q ≡ length P + suc (length R) = ap length e ∙ length-append P (y ∷ R) in
    record {
      stands = rw (lt-ltb (length P) (length Q) (omega arith), ap (λ (q : Path). get_or q (length P) []) e, get_or-append_seam P y R []) t;
      path = ap (λ (q : Path). q ++ (x ∷ [])) (ap (take (length P)) e ∙ take-append_seam P (y ∷ R));
      short = omega arith;
    }

-- a path that is not the root's, by its directory and its last name
pub record Parts (p : Path) : Type 0 where
  pub home : Path
  pub all : home ++ (last_name p ∷ []) ≡ p
  pub deep : length p ≡ suc (length home)

pub parts : (p : Path) → (p ≡ [] → ⊥) → Parts p
parts [] n = absurd (n refl)
parts (x ∷ p) n =
    let e = whole x p in
    record { home = drop_last (x ∷ p); all = e; deep = ap length (sym e) ∙ length-append (drop_last (x ∷ p)) (last_name (x ∷ p) ∷ []) ∙ omega arith }

pub step : (Q p : Path) (d : Bool) (a : Parts p) → Rises Q p → (a.home ≡ Q) ⊎ Rises a.home Q → (a.home ≡ Q → d ≡ true) → Step Q d (length p) (last_name p) p
step Q p d a r h g =
    let s = step_by a.home Q (last_name p) d g (goes a.home Q (last_name p) h (subst (λ (q : Path). Rises Q q) (sym a.all) r)) in
    subst (λ (k : ℕ). Step Q d k (last_name p) p) (sym a.deep) (subst (λ (q : Path). Step Q d (suc (length a.home)) (last_name p) q) a.all s)
