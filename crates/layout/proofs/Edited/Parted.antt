-- A walk in two parts: the second begins behind the path of the last entry of the first, and only as many of that path's names
-- matter as the first entry of the second has directories.
-- Assumes nothing.
use mathlib.Core.Bool.{Bool, true, false, ◌&&◌}
use mathlib.Core.List.{List, [], ◌∷◌, ◌++◌}
use mathlib.Core.Path.{◌≡◌, refl, sym, ap, ◌∙◌, subst}
use Prim.Native.Nat.{ℕ, ◌+◌, ◌≤◌}
use native.Mathlib.Omega.{arith}
use lib.Dec.{T, eqb, ltb}
use borrow.Author.Tests.{eq-eqb}
use Rattle.path.proofs.Laws.{and_left, and_right, and_both}
use Rattle.model.specs.Tree.{Path, Node, Entries}
use Rattle.model.specs.Rules.{name_ok}
use Rattle.layout.specs.Rows.{Row, path_of, tree_from}
use Rattle.layout.specs.Lawful.{follows, entry_ok, walk_ok, rows_ok, uses}
use Rattle.layout.proofs.Roots.{root_of}
use Rattle.layout.specs.Parts.{path_after, dir_after}

-- ---- in two parts

pub tree_both : (f : ℕ → Node) (p : Path) (a b : List Row) → tree_from f p (a ++ b) ≡ tree_from f p a ++ tree_from f (path_after p a) b
unfolding tree_from path_after
tree_both f p [] b = refl
tree_both f p (r ∷ a) b = ap (λ (t : Entries). (path_of p r, f r.slot) ∷ t) (tree_both f (path_of p r) a b)

and_assoc : (a b c : Bool) → a && (b && c) ≡ (a && b) && c
and_assoc true b c = refl
and_assoc false b c = refl

pub walk_both : (kind : ℕ → ℕ) (n : ℕ) (p : Path) (d : Bool) (a b : List Row)
    → walk_ok kind n p d (a ++ b) ≡ walk_ok kind n p d a && walk_ok kind n (path_after p a) (dir_after kind d a) b
unfolding walk_ok path_after dir_after
walk_both kind n p d [] b = refl
walk_both kind n p d (r ∷ a) b =
    ap (λ (w : Bool). entry_ok n p d r && w) (walk_both kind n (path_of p r) (eqb (kind r.slot) 1) a b) ∙ and_assoc (entry_ok n p d r) _ _

-- the second part of a walk from the root
pub walk-second : (kind : ℕ → ℕ) (n : ℕ) (r : Row) (a b : List Row) → T (rows_ok kind n (r ∷ (a ++ b))) → T (walk_ok kind n (path_after [] (r ∷ a)) (dir_after kind false (r ∷ a)) b)
unfolding path_after dir_after
walk-second kind n r a b t =
    let o = root_of kind n r (a ++ b) t in
    let w = and_right (walk_ok kind n [] true a) _ (subst T (walk_both kind n [] true a b) o.rest) in
    subst (λ (p : Path). T (walk_ok kind n (path_after p a) (dir_after kind (eqb (kind r.slot) 1) a) b)) (sym o.path)
    (subst (λ (d : Bool). T (walk_ok kind n (path_after [] a) (dir_after kind d a) b)) (sym (eq-eqb (kind r.slot) 1 o.is_dir)) w)

pub uses_both : (k : ℕ) (a b : List Row) → uses k (a ++ b) ≡ uses k a + uses k b
unfolding uses
uses_both k [] b = omega arith
uses_both k (r ∷ a) b = omega (arith, uses_both k a b)

pub after_both : (p : Path) (a b : List Row) → path_after p (a ++ b) ≡ path_after (path_after p a) b
unfolding path_after
after_both p [] b = refl
after_both p (r ∷ a) b = after_both (path_of p r) a b

pub dir_both : (kind : ℕ → ℕ) (d : Bool) (a b : List Row) → dir_after kind d (a ++ b) ≡ dir_after kind (dir_after kind d a) b
unfolding dir_after
dir_both kind d [] b = refl
dir_both kind d (r ∷ a) b = dir_both kind (eqb (kind r.slot) 1) a b

-- ---- another path before the second part

-- the first entry has the same path behind both
abbrev pub SameStart : Path → Path → List Row → Type 0
SameStart p q [] = Unit {0}
SameStart p q (r ∷ rs) = path_of p r ≡ path_of q r

pub same_back : (p q : Path) (b : List Row) → SameStart p q b → SameStart q p b
same_back p q [] h = tt
same_back p q (r ∷ b) h = sym h

-- and may stand behind the second
abbrev pub MayStand : Path → Bool → List Row → Type 0
MayStand q e [] = Unit {0}
MayStand q e (r ∷ rs) = T (follows q e r.depth r.name)

pub tree-start : (f : ℕ → Node) (p q : Path) (b : List Row) → SameStart p q b → tree_from f p b ≡ tree_from f q b
unfolding tree_from
tree-start f p q [] h = refl
tree-start f p q (r ∷ b) h = ap (λ (o : Path). (o, f r.slot) ∷ tree_from f o b) h

pub walk_start : (kind : ℕ → ℕ) (n : ℕ) (p q : Path) (d e : Bool) (b : List Row) → SameStart p q b → MayStand q e b → T (walk_ok kind n p d b) → T (walk_ok kind n q e b)
unfolding walk_ok
walk_start kind n p q d e [] h m t = tt
walk_start kind n p q d e (r ∷ b) h m t =
    let a = and_left (entry_ok n p d r) _ t in
    let i = and_left (ltb r.slot n) _ a in
    let c = and_right (ltb r.slot n) (name_ok r.name && follows p d r.depth r.name) a in
    let j = and_left (name_ok r.name) _ c in
    and_both (entry_ok n q e r) _ (and_both (ltb r.slot n) _ i (and_both (name_ok r.name) _ j m))
    (subst (λ (o : Path). T (walk_ok kind n o (eqb (kind r.slot) 1) b)) h (and_right (entry_ok n p d r) _ t))

-- ---- what other slots hold does not matter

-- the entries have the slot
abbrev pub Has : List Row → ℕ → Type 0
Has rs k = 1 ≤ uses k rs

pub has_first : (a b : List Row) (k : ℕ) → Has a k → Has (a ++ b) k
has_first a b k u = omega (arith, uses_both k a b)

has_here : (r : Row) (rs : List Row) → Has (r ∷ rs) r.slot
unfolding uses
has_here r rs = rw (eq-eqb r.slot r.slot refl) (omega arith)

has_later : (r : Row) (rs : List Row) (k : ℕ) → Has rs k → Has (r ∷ rs) k
unfolding uses
has_later r rs k h = omega (arith, h)

pub tree-slots : (f g : ℕ → Node) (p : Path) (rs : List Row) → ((k : ℕ) → Has rs k → f k ≡ g k) → tree_from f p rs ≡ tree_from g p rs
unfolding tree_from
tree-slots f g p [] h = refl
tree-slots f g p (r ∷ rs) h =
    rw (h r.slot (has_here r rs), tree-slots f g (path_of p r) rs (λ k u. h k (has_later r rs k u))) refl

pub walk-slots : (f g : ℕ → ℕ) (n : ℕ) (p : Path) (d : Bool) (rs : List Row) → ((k : ℕ) → Has rs k → f k ≡ g k) → walk_ok f n p d rs ≡ walk_ok g n p d rs
unfolding walk_ok
walk-slots f g n p d [] h = refl
walk-slots f g n p d (r ∷ rs) h =
    rw (h r.slot (has_here r rs), walk-slots f g n (path_of p r) (eqb (g r.slot) 1) rs (λ k u. h k (has_later r rs k u))) refl

pub rows-slots : (f g : ℕ → ℕ) (n : ℕ) (rs : List Row) → ((k : ℕ) → Has rs k → f k ≡ g k) → rows_ok f n rs ≡ rows_ok g n rs
unfolding rows_ok
rows-slots f g n [] h = refl
rows-slots f g n (r ∷ rs) h =
    rw (h r.slot (has_here r rs), walk-slots f g n [] true rs (λ k u. h k (has_later r rs k u))) refl

pub dir-slots : (f g : ℕ → ℕ) (d : Bool) (rs : List Row) → ((k : ℕ) → Has rs k → f k ≡ g k) → dir_after f d rs ≡ dir_after g d rs
unfolding dir_after
dir-slots f g d [] h = refl
dir-slots f g d (r ∷ rs) h = rw (h r.slot (has_here r rs)) (dir-slots f g (eqb (g r.slot) 1) rs (λ k u. h k (has_later r rs k u)))
