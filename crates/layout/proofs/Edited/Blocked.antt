-- The parts of a walk around a block: an entry, all below it, and what stands behind.
-- Assumes nothing.
use mathlib.Core.Bool.{Bool}
use mathlib.Core.List.{List, [], ◌∷◌, ◌++◌}
use mathlib.Core.Logic.{inl, inr}
use mathlib.Core.Option.{Option, none, some}
use mathlib.Core.Path.{◌≡◌, refl, sym, ap, ◌∙◌, subst}
use Prim.Native.Nat.{ℕ, suc, ◌≤◌, ◌<◌}
use native.Mathlib.Decide.{ℕ_discrete}
use native.Mathlib.Omega.{arith}
use lib.Dec.{T, eqb}
use lib.ListN.{length, length-append, length-take, take, get_or}
use lib.Seq.{length-take-le, get_or-take, get_or-append_seam, take-length, take-take}
use borrow.Author.Tests.{lt-ltb, le-ltb, eq-eqb}
use Rattle.path.specs.Path.{Name}
use Rattle.path.proofs.Laws.{and_left, and_right}
use Rattle.model.specs.Tree.{Path, Node, precedes, look, behind}
use Rattle.model.proofs.Entries.{clash, look_none, look_past}
use Rattle.layout.specs.Rows.{Row, path_by, path_of, tree_from}
use Rattle.layout.specs.Lawful.{follows, walk_ok}
use Rattle.layout.proofs.Rising.{before_both, Rises, Follows, aside, below, follows_by}
use Rattle.layout.proofs.Walks.{At, look_at, at_rises, rest_ok}
use Rattle.layout.specs.Parts.{path_after, dir_after, Deeper, NotDeeper}
use Rattle.layout.proofs.Edited.Parted.{walk_both, SameStart, MayStand}
use Rattle.layout.proofs.Edited.Removing.{kept-names, follows-low, walk-follows, next_keeps, below-keeps, Beyond, beyond-rises, beyond-behind, beyond-aside, begins, walk-rises}

-- the name at a place of a path with one more behind
get_d_kept : (d j : ℕ) (p : Path) (x : Name) → j < d → d ≤ length p → get_or (take d p ++ (x ∷ [])) j [] ≡ get_or p j []
get_d_kept d j p x h k =
    let e : take (suc j) (take d p ++ (x ∷ [])) ≡ take (suc j) p = kept-names (suc j) d p x (omega arith) k in
    sym (get_or-take (suc j) (take d p ++ (x ∷ [])) j [] (omega arith)) ∙ (ap (λ (q : Path). get_or q j []) e ∙ get_or-take (suc j) p j [] (omega arith))

pub get_d_last : (d : ℕ) (p : Path) (x : Name) → d ≤ length p → get_or (take d p ++ (x ∷ [])) d [] ≡ x
get_d_last d p x h =
    ap (λ (k : ℕ). get_or (take d p ++ (x ∷ [])) k []) (sym (length-take-le d p h)) ∙ get_or-append_seam (take d p) x [] []

-- the entry's depth is one more than the number of its directories below the root
module _ (kind : ℕ → ℕ) (n : ℕ) (p : Path) (e : Bool) (row : Row) (x b : List Row) (d : ℕ) (dep : row.depth ≡ suc d)
    (dx : Deeper (suc d) x) (nb : NotDeeper (suc d) b) (t : T (walk_ok kind n p e (row ∷ (x ++ b)))) where
  abbrev at : Path
  at = take d p ++ (row.name ∷ [])

  pub at_path : path_of p row ≡ at
  at_path = ap (λ (k : ℕ). path_by k p row.name) dep

  first : Follows p e row.name (suc d)
  first = follows_by p e (suc d) row.name (subst (λ (k : ℕ). T (follows p e k row.name)) dep (walk-follows kind n p e row (x ++ b) t))

  low : d ≤ length p
  low = follows-low p e d row.name (subst (λ (k : ℕ). T (follows p e k row.name)) dep (walk-follows kind n p e row (x ++ b) t))

  pub at_length : length at ≡ suc d
  at_length = length-append (take d p) (row.name ∷ []) ∙ (rw (length-take-le d p low) (omega arith))

  -- the path before what stands behind
  abbrev end : Path
  end = path_after at x

  rest : T (walk_ok kind n at (eqb (kind row.slot) 1) (x ++ b))
  rest = subst (λ (o : Path). T (walk_ok kind n o (eqb (kind row.slot) 1) (x ++ b))) at_path (rest_ok kind n p e row (x ++ b) t)

  pub below-ok : T (walk_ok kind n at (eqb (kind row.slot) 1) x)
  below-ok = and_left (walk_ok kind n at (eqb (kind row.slot) 1) x) _ (subst T (walk_both kind n at (eqb (kind row.slot) 1) x b) rest)

  pub behind-ok : T (walk_ok kind n end (dir_after kind (eqb (kind row.slot) 1) x) b)
  behind-ok = and_right (walk_ok kind n at (eqb (kind row.slot) 1) x) _ (subst T (walk_both kind n at (eqb (kind row.slot) 1) x b) rest)

  end-keeps : take (suc d) end ≡ at
  end-keeps = below-keeps kind n (suc d) at (eqb (kind row.slot) 1) x dx below-ok ∙ (ap (λ (k : ℕ). take k at) (sym at_length) ∙ take-length at)

  end-long : suc d ≤ length end
  end-long = omega (arith, sym (length-take (suc d) end) ∙ (ap length end-keeps ∙ at_length))

  -- ---- what stands behind

  -- where the first of them stands
  pub record Next (r : Row) : Type 0 where
    pub place : ℕ
    pub deep : r.depth ≡ suc place
    pub within : place ≤ d
    pub greater : T (precedes (get_or at place []) r.name)

  next : (r : Row) (k : ℕ) → r.depth ≡ k → k ≤ suc d → Follows end (dir_after kind (eqb (kind row.slot) 1) x) r.name k → Next r
  next r k f h (aside j y z) =
      let u : get_or end j [] ≡ get_or at j [] = sym (get_or-take (suc d) end j [] (omega arith)) ∙ ap (λ (q : Path). get_or q j []) end-keeps in
      record { place = j; deep = f; within = omega arith; greater = subst (λ (m : Name). T (precedes m r.name)) u z }
  next r k f h (below y) = absurd (omega (arith, end-long))

  pub first_next : (r : Row) (c : List Row) → b ≡ r ∷ c → Next r
  first_next r c f =
      let y = subst (λ (l : List Row). T (walk_ok kind n end (dir_after kind (eqb (kind row.slot) 1) x) l)) f behind-ok in
      let z = subst (NotDeeper (suc d)) f nb in
      next r r.depth refl z (walk-rises kind n end _ r c y)

  start-at : (r : Row) → Next r → path_of p r ≡ path_of end r
  start-at r y =
      let f : take y.place end ≡ take y.place p = sym (take-take y.place (suc d) end (omega (arith, y.within))) ∙ (ap (take y.place) end-keeps ∙ kept-names y.place d p row.name y.within low) in
      rw y.deep (ap (λ (q : Path). q ++ (r.name ∷ [])) (sym f))

  pub behind-start : SameStart p end b
  behind-start = go b refl
    where
      go : (c : List Row) → b ≡ c → SameStart p end c
      go [] f = tt
      go (r ∷ c) f = start-at r (first_next r c f)

  -- behind the entry, or first in its directory
  stand_last : (k : Name) → Follows p e row.name (suc d) → T (precedes row.name k) → T (follows p e (suc d) k)
  stand_last k f g = go (suc d) refl f
    where
      go : (m : ℕ) → m ≡ suc d → Follows p e row.name m → T (follows p e (suc d) k)
      go m z (aside j y u) =
          let w : j ≡ d = omega arith in
          rw (lt-ltb d (length p) (omega arith)) (before_both (get_or p d []) row.name k (subst (λ (i : ℕ). T (precedes (get_or p i []) row.name)) w u) g)
      go m z (below y) =
          let w : d ≡ length p = omega arith in
          rw (le-ltb d (length p) (omega arith), eq-eqb d (length p) w, y) tt

  stand_at : (r : Row) → Next r → T (follows p e r.depth r.name)
  stand_at r y = rw y.deep (go (ℕ_discrete y.place d))
    where
      go : Dec (y.place ≡ d) → T (follows p e (suc y.place) r.name)
      go (yes f) =
          subst (λ (k : ℕ). T (follows p e (suc k) r.name)) (sym f)
          (stand_last r.name first (subst (λ (m : Name). T (precedes m r.name)) (ap (λ (k : ℕ). get_or at k []) f ∙ get_d_last d p row.name low) y.greater))
      go (no f) =
          rw (lt-ltb y.place (length p) (omega (arith, y.within, low, f)))
          (subst (λ (m : Name). T (precedes m r.name)) (get_d_kept d y.place p row.name (omega (arith, y.within, f)) low) y.greater)

  pub behind-stand : MayStand p e b
  behind-stand = go b refl
    where
      go : (c : List Row) → b ≡ c → MayStand p e c
      go [] f = tt
      go (r ∷ c) f = stand_at r (first_next r c f)

  -- ---- no other path begins with the entry's

  beyond_at : (r : Row) → Next r → Beyond at (path_of end r)
  beyond_at r y =
      let f : take y.place end ≡ take y.place at = sym (take-take y.place (suc d) end (omega (arith, y.within))) ∙ ap (take y.place) end-keeps in
      rw y.deep (subst (λ (q : Path). Beyond at (q ++ (r.name ∷ []))) (sym f) (beyond-aside y.place at r.name (omega (arith, at_length, y.within)) y.greater))

  pub behind-beyond : (q : Path) (r : Row) → At end b q r → Beyond at q
  behind-beyond q r y = go b refl y
    where
      go : (c : List Row) → b ≡ c → At end c q r → Beyond at q
      go [] f z = absurd z
      go (s ∷ c) f (inl z) = subst (Beyond at) z.0 (beyond_at s (first_next s c f))
      go (s ∷ c) f (inr z) =
          let w = subst (λ (l : List Row). T (walk_ok kind n end (dir_after kind (eqb (kind row.slot) 1) x) l)) f behind-ok in
          beyond-rises at (path_of end s) q (beyond_at s (first_next s c f)) (at_rises kind n (path_of end s) (eqb (kind s.slot) 1) c (rest_ok kind n end _ s c w) q r z)

  pub behind_none : (f : ℕ → Node) (q r : Path) → behind at q ≡ some r → look (tree_from f end b) q ≡ none
  behind_none f q r h = go (look (tree_from f end b) q) refl
    where
      go : (o : Option Node) → look (tree_from f end b) q ≡ o → o ≡ none
      go none z = refl
      go (some m) z = let y = look_at f end b q m z in clash (behind at q) r (beyond-behind at q (behind-beyond q y.0 y.1)) h

  -- ---- all of the block do

  below_none : (f : ℕ → Node) (q : Path) → behind at q ≡ none → (o : Path) (g : Bool) (c : List Row) → take (suc d) o ≡ at → Deeper (suc d) c → T (walk_ok kind n o g c)
      → look (tree_from f o c) q ≡ none
  unfolding tree_from Deeper
  below_none f q h o g [] z y w = look_none q
  below_none f q h o g (r ∷ c) z y w =
      let k : take (suc d) (path_of o r) ≡ at = next_keeps kind n (suc d) o g r r.depth refl y.0 (walk-follows kind n o g r c w) ∙ z in
      look_past (path_of o r, f r.slot) (tree_from f (path_of o r) c) q (λ u. begins at q (ap (λ (i : ℕ). take i q) at_length ∙ (ap (take (suc d)) (sym u) ∙ k)) h)
      ∙ below_none f q h (path_of o r) (eqb (kind r.slot) 1) c k y.1 (rest_ok kind n o g r c w)

  pub block_none : (f : ℕ → Node) (q : Path) → behind at q ≡ none → look ((at, f row.slot) ∷ tree_from f at x) q ≡ none
  block_none f q h =
      let k : take (suc d) at ≡ at = ap (λ (i : ℕ). take i at) (sym at_length) ∙ take-length at in
      look_past (at, f row.slot) (tree_from f at x) q (λ u. begins at q (ap (λ (i : ℕ). take i q) at_length ∙ (ap (take (suc d)) (sym u) ∙ k)) h)
      ∙ below_none f q h at (eqb (kind row.slot) 1) x k dx below-ok

-- ---- what stands before

-- a part of a walk is a part of the whole
at_first : (p : Path) (a b : List Row) (q : Path) (r : Row) → At p a q r → At p (a ++ b) q r
at_first p [] b q r h = absurd h
at_first p (s ∷ a) b q r (inl e) = inl e
at_first p (s ∷ a) b q r (inr h) = inr (at_first (path_of p s) a b q r h)

pub at_seam : (p : Path) (a : List Row) (r : Row) (b : List Row) → At p (a ++ (r ∷ b)) (path_of (path_after p a) r) r
unfolding path_after
at_seam p [] r b = inl (refl, refl)
at_seam p (s ∷ a) r b = inr (at_seam (path_of p s) a r b)

module _ (kind : ℕ → ℕ) (n : ℕ) where
  pub before-rises : (p : Path) (d : Bool) (a : List Row) (row : Row) (b : List Row) → T (walk_ok kind n p d (a ++ (row ∷ b))) → (q : Path) (r : Row) → At p a q r
      → Rises q (path_of (path_after p a) row)
  unfolding path_after
  before-rises p d [] row b t q r h = absurd h
  before-rises p d (s ∷ a) row b t q r (inl e) =
      subst (λ (o : Path). Rises o (path_of (path_after (path_of p s) a) row)) e.0
      (at_rises kind n (path_of p s) (eqb (kind s.slot) 1) (a ++ (row ∷ b)) (rest_ok kind n p d s (a ++ (row ∷ b)) t) _ row (at_seam (path_of p s) a row b))
  before-rises p d (s ∷ a) row b t q r (inr h) =
      before-rises (path_of p s) (eqb (kind s.slot) 1) a row b (rest_ok kind n p d s (a ++ (row ∷ b)) t) q r h
