-- The entries of a walk and what a look finds of them: the paths rise, so each stands once and a look finds its own entry; the
-- directory of each is a part of the path before it, so it stands in the tree.
-- Assumes nothing.
use mathlib.Core.Bool.{Bool, true, ◌&&◌}
use mathlib.Core.List.{List, [], ◌∷◌}
use mathlib.Core.Logic.{◌⊎◌, inl, inr}
use mathlib.Core.Option.{some}
use mathlib.Core.Path.{◌≡◌, refl, sym, ap, ◌∙◌, subst}
use Prim.Native.Nat.{ℕ, ◌≤◌, ◌<◌}
use native.Mathlib.Decide.{ℕ_discrete}
use native.Mathlib.Omega.{arith}
use lib.Dec.{T, eqb, ltb, ltb→lt}
use lib.ListN.{length, take, drop, take-append-drop}
use lib.Seq.{take-length}
use borrow.Author.Tests.{eq-eqb, ne_eqb}
use Rattle.path.specs.Path.{Name}
use Rattle.path.proofs.Laws.{and_left, and_right, and_both}
use Rattle.model.specs.Tree.{Path, Node, look}
use Rattle.model.specs.Rules.{name_ok, names_ok}
use Rattle.model.proofs.Entries.{clash, some_inj, path-dec, look-here, look_past, look_none}
use Rattle.model.proofs.Sound.Entries.{names_left, names_both}
use Rattle.layout.specs.Rows.{Row, path_of, path_by, tree_from}
use Rattle.layout.specs.Lawful.{follows, entry_ok, walk_ok, uses}
use Rattle.layout.proofs.Climbing.{Climbs}
use Rattle.layout.proofs.Rising.{Rises, rise-apart, rise_both, Follows, aside, below, follows_by, rise_next}

-- the entry of that path is this row
abbrev pub At : Path → List Row → Path → Row → Type 0
At p [] q r = ⊥
At p (s ∷ rs) q r = ((path_of p s ≡ q) × (s ≡ r)) ⊎ At (path_of p s) rs q r

-- what a look finds is what the slot of a row holds
pub look_at : (f : ℕ → Node) (p : Path) (rs : List Row) (q : Path) (n : Node) → look (tree_from f p rs) q ≡ some n
    → (r : Row) × At p rs q r × (f r.slot ≡ n)
unfolding tree_from
look_at f p [] q n e = clash (look [] q) n (look_none q) e
look_at f p (s ∷ rs) q n e = go (path-dec (path_of p s) q) (look_at f (path_of p s) rs q n)
  where
    go : Dec (path_of p s ≡ q) → (look (tree_from f (path_of p s) rs) q ≡ some n → (r : Row) × At (path_of p s) rs q r × (f r.slot ≡ n))
        → (r : Row) × At p (s ∷ rs) q r × (f r.slot ≡ n)
    go (yes y) ih = (s, inl (y, refl), some_inj (sym (look-here (path_of p s, f s.slot) (tree_from f (path_of p s) rs) q y) ∙ e))
    go (no y) ih =
        let h = ih (sym (look_past (path_of p s, f s.slot) (tree_from f (path_of p s) rs) q y) ∙ e) in
        (h.0, inr h.1, h.2)

-- ---- slots

pub at_uses : (p : Path) (rs : List Row) (q : Path) (r : Row) → At p rs q r → 1 ≤ uses r.slot rs
unfolding uses
at_uses p [] q r a = absurd a
at_uses p (s ∷ rs) q r (inl e) = rw (eq-eqb s.slot r.slot (ap (λ (x : Row). x.slot) e.1)) (omega arith)
at_uses p (s ∷ rs) q r (inr a) = omega (arith, at_uses (path_of p s) rs q r a)

pub uses_at : (p : Path) (rs : List Row) (k : ℕ) → 1 ≤ uses k rs → (q : Path) × (r : Row) × At p rs q r × (r.slot ≡ k)
unfolding uses
uses_at p [] k h = absurd (omega arith)
uses_at p (s ∷ rs) k h = go (ℕ_discrete s.slot k) (uses_at (path_of p s) rs k)
  where
    go : Dec (s.slot ≡ k) → (1 ≤ uses k rs → (q : Path) × (r : Row) × At (path_of p s) rs q r × (r.slot ≡ k))
        → (q : Path) × (r : Row) × At p (s ∷ rs) q r × (r.slot ≡ k)
    go (yes e) ih = (path_of p s, s, inl (refl, refl), e)
    go (no e) ih = let g = ih (omega (arith, rw (ne_eqb s.slot k e) at h)) in (g.0, g.1, inr g.2, g.3)

-- a slot that one row has is at one path
pub at_once : (p : Path) (rs : List Row) (k : ℕ) → uses k rs ≤ 1 → (q o : Path) (r s : Row)
    → At p rs q r → At p rs o s → r.slot ≡ k → s.slot ≡ k → q ≡ o
unfolding uses
at_once p [] k h q o r s a b e g = absurd a
at_once p (t ∷ rs) k h q o r s (inl a) (inl b) e g = sym a.0 ∙ b.0
at_once p (t ∷ rs) k h q o r s (inl a) (inr b) e g =
    absurd (omega (arith, rw (eq-eqb t.slot k (ap (λ (x : Row). x.slot) a.1 ∙ e)) at h, subst (λ (n : ℕ). 1 ≤ uses n rs) g (at_uses (path_of p t) rs o s b)))
at_once p (t ∷ rs) k h q o r s (inr a) (inl b) e g =
    absurd (omega (arith, rw (eq-eqb t.slot k (ap (λ (x : Row). x.slot) b.1 ∙ g)) at h, subst (λ (n : ℕ). 1 ≤ uses n rs) e (at_uses (path_of p t) rs q r a)))
at_once p (t ∷ rs) k h q o r s (inr a) (inr b) e g =
    at_once (path_of p t) rs k (omega arith) q o r s a b e g

-- every slot is one of n
abbrev pub SlotsIn : ℕ → List Row → Type 0
SlotsIn n [] = Unit {0}
SlotsIn n (r ∷ rs) = (r.slot < n) × SlotsIn n rs

pub at_slot : (n : ℕ) (p : Path) (rs : List Row) → SlotsIn n rs → (q : Path) (r : Row) → At p rs q r → r.slot < n
at_slot n p [] h q r a = absurd a
at_slot n p (s ∷ rs) h q r (inl e) = subst (λ (x : Row). x.slot < n) e.1 h.0
at_slot n p (s ∷ rs) h q r (inr a) = at_slot n (path_of p s) rs h.1 q r a

-- ---- the walk

module _ (kind : ℕ → ℕ) (n : ℕ) where
  -- the first row, and the walk behind it
  pub first_ok : (p : Path) (d : Bool) (r : Row) (rs : List Row) → T (walk_ok kind n p d (r ∷ rs)) → T (entry_ok n p d r)
  unfolding walk_ok
  first_ok p d r rs t = and_left (entry_ok n p d r) (walk_ok kind n (path_of p r) (eqb (kind r.slot) 1) rs) t

  pub rest_ok : (p : Path) (d : Bool) (r : Row) (rs : List Row) → T (walk_ok kind n p d (r ∷ rs)) → T (walk_ok kind n (path_of p r) (eqb (kind r.slot) 1) rs)
  unfolding walk_ok
  rest_ok p d r rs t = and_right (entry_ok n p d r) (walk_ok kind n (path_of p r) (eqb (kind r.slot) 1) rs) t

  slot_ok_lem : (p : Path) (d : Bool) (r : Row) → T (entry_ok n p d r) → r.slot < n
  slot_ok_lem p d r t = ltb→lt r.slot n (and_left (ltb r.slot n) (name_ok r.name && follows p d r.depth r.name) t)

  name-ok : (p : Path) (d : Bool) (r : Row) → T (entry_ok n p d r) → T (name_ok r.name)
  name-ok p d r t = and_left (name_ok r.name) (follows p d r.depth r.name) (and_right (ltb r.slot n) (name_ok r.name && follows p d r.depth r.name) t)

  pub stands-ok : (p : Path) (d : Bool) (r : Row) → T (entry_ok n p d r) → Follows p d r.name r.depth
  stands-ok p d r t =
      follows_by p d r.depth r.name
      (and_right (name_ok r.name) (follows p d r.depth r.name) (and_right (ltb r.slot n) (name_ok r.name && follows p d r.depth r.name) t))

  rises-ok : (p : Path) (d : Bool) (r : Row) → T (entry_ok n p d r) → Rises p (path_of p r)
  rises-ok p d r t = rise_next p d r.name r.depth (stands-ok p d r t)

  pub at_rises : (p : Path) (d : Bool) (rs : List Row) → T (walk_ok kind n p d rs) → (q : Path) (r : Row) → At p rs q r → Rises p q
  at_rises p d [] t q r a = absurd a
  at_rises p d (s ∷ rs) t q r (inl e) = subst (λ (o : Path). Rises p o) e.0 (rises-ok p d s (first_ok p d s rs t))
  at_rises p d (s ∷ rs) t q r (inr a) =
      rise_both p (path_of p s) q (rises-ok p d s (first_ok p d s rs t))
      (at_rises (path_of p s) (eqb (kind s.slot) 1) rs (rest_ok p d s rs t) q r a)

  pub walk-slots : (p : Path) (d : Bool) (rs : List Row) → T (walk_ok kind n p d rs) → SlotsIn n rs
  walk-slots p d [] t = tt
  walk-slots p d (r ∷ rs) t = (slot_ok_lem p d r (first_ok p d r rs t), walk-slots (path_of p r) (eqb (kind r.slot) 1) rs (rest_ok p d r rs t))

  names_next : (p : Path) (d : Bool) (k : ℕ) (x : Name) → Follows p d x k → T (names_ok p) → T (name_ok x) → T (names_ok (path_by k p x))
  unfolding names_ok
  names_next p d k x (aside j h u) a b =
      names_both (take j p) (x ∷ []) (names_left (take j p) (drop j p) (subst (λ (q : Path). T (names_ok q)) (sym (take-append-drop j p)) a)) (and_both (name_ok x) true b tt)
  names_next p d k x (below e) a b =
      names_both (take (length p) p) (x ∷ []) (subst (λ (q : Path). T (names_ok q)) (sym (take-length p)) a) (and_both (name_ok x) true b tt)

  pub at_names : (p : Path) (d : Bool) (rs : List Row) → T (walk_ok kind n p d rs) → T (names_ok p) → (q : Path) (r : Row) → At p rs q r → T (names_ok q)
  at_names p d [] t h q r a = absurd a
  at_names p d (s ∷ rs) t h q r (inl e) =
      subst (λ (o : Path). T (names_ok o)) e.0 (names_next p d s.depth s.name (stands-ok p d s (first_ok p d s rs t)) h (name-ok p d s (first_ok p d s rs t)))
  at_names p d (s ∷ rs) t h q r (inr a) =
      at_names (path_of p s) (eqb (kind s.slot) 1) rs (rest_ok p d s rs t)
      (names_next p d s.depth s.name (stands-ok p d s (first_ok p d s rs t)) h (name-ok p d s (first_ok p d s rs t))) q r a

  module _ (f : ℕ → Node) where
    -- the paths rise
    pub walk-climbs : (p : Path) (d : Bool) (rs : List Row) → T (walk_ok kind n p d rs) → Climbs p (tree_from f p rs)
    unfolding tree_from
    walk-climbs p d [] t = tt
    walk-climbs p d (s ∷ rs) t = (rises-ok p d s (first_ok p d s rs t), walk-climbs (path_of p s) (eqb (kind s.slot) 1) rs (rest_ok p d s rs t))

    -- a look finds each row
    pub at-look : (p : Path) (d : Bool) (s : Row) (rs : List Row) → T (walk_ok kind n (path_of p s) d rs) → (q : Path) (r : Row) → At p (s ∷ rs) q r
        → look (tree_from f p (s ∷ rs)) q ≡ some (f r.slot)
    unfolding tree_from
    at-look p d s [] t q r (inl e) = look-here (path_of p s, f s.slot) [] q e.0 ∙ ap (λ (x : Row). some (f x.slot)) e.1
    at-look p d s [] t q r (inr a) = absurd a
    at-look p d s (o ∷ rs) t q r (inl e) = look-here (path_of p s, f s.slot) (tree_from f (path_of p s) (o ∷ rs)) q e.0 ∙ ap (λ (x : Row). some (f x.slot)) e.1
    at-look p d s (o ∷ rs) t q r (inr a) =
        look_past (path_of p s, f s.slot) (tree_from f (path_of p s) (o ∷ rs)) q (rise-apart (path_of p s) q (at_rises (path_of p s) d (o ∷ rs) t q r a))
        ∙ at-look (path_of p s) (eqb (kind o.slot) 1) o rs (rest_ok (path_of p s) d o rs t) q r a
