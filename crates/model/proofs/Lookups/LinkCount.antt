-- The number of links: an entry taken out, if it was a link, leaves one fewer. Taken out link by link, one tree is seen to have no
-- more links than another.
-- Assumes nothing.
use mathlib.Core.Bool.{Bool, true, false, not}
use mathlib.Core.List.{[], ◌∷◌}
use mathlib.Core.Option.{Option, none, some}
use mathlib.Core.Path.{◌≡◌, refl, ap}
use Prim.Native.Nat.{ℕ, ◌+◌, ◌≤◌}
use native.Mathlib.Omega.{arith}
use lib.Dec.{T}
use Rattle.model.specs.Tree.{Path, Node, dir, file, link, Entries, same_path, or_else, look, keep_if, less, behind, unless_behind, cut, links_in}
use Rattle.model.specs.Rules.{Once, new_path}
use Rattle.model.proofs.Entries.{path-equal, path-refl, path-dec, look-here, look_past, less_past}

-- what a test says of a fact
abbrev pub Told : Bool → Type 0 → Type 0
Told true P = P
Told false P = ¬ P

-- the test of two paths
pub told : (p q : Path) → Told (same_path p q) (p ≡ q)
told p q = go (same_path p q) (path-equal p q) (λ e. rw e (path-refl q))
  where
    go : (b : Bool) → (T b → p ≡ q) → (p ≡ q → T b) → Told b (p ≡ q)
    go true f g = f tt
    go false f g = g

-- what an entry adds to the number of links, if there is one
abbrev pub links_of : Option Node → ℕ
links_of none = 0
links_of (some (dir m)) = 0
links_of (some (file i)) = 0
links_of (some (link m s)) = 1

-- the number of links, entry by entry
pub links-cons : (e : Path × Node) (t : Entries) → links_in (e ∷ t) ≡ links_of (some e.1) + links_in t
unfolding links_in
links-cons (p, dir m) t = omega arith
links-cons (p, file i) t = omega arith
links-cons (p, link m s) t = omega arith

-- a link that was looked up is one link less
pub links-less : (p : Path) (t : Entries) → links_in (less p t) + links_of (look t p) ≤ links_in t
unfolding less look links_in
links-less p [] = omega arith
links-less p (e ∷ t) = go (same_path e.0 p) (links-less p t)
  where
    go : (b : Bool) → links_in (less p t) + links_of (look t p) ≤ links_in t →
        links_in (keep_if (not b) e (less p t)) + links_of (or_else b e.1 (look t p)) ≤ links_in (e ∷ t)
    go true ih = omega (arith, links-cons e t)
    go false ih = omega (arith, links-cons e t, links-cons e (less p t))

-- a tree that has a link wherever another has one has no fewer
pub links_within : (t u : Entries) → Once new_path t → ((p : Path) → links_of (look t p) ≤ links_of (look u p)) → links_in t ≤ links_in u
unfolding links_in
links_within [] u o h = omega arith
links_within (e ∷ t) u o h = omega (arith, links-cons e t, ap links_of (look-here e t e.0 refl), h e.0, links-less e.0 u, links_within t (less e.0 u) o.1 rest)
  where
    rest : (p : Path) → links_of (look t p) ≤ links_of (look (less e.0 u) p)
    rest p = go (path-dec e.0 p)
      where
        go : Dec (e.0 ≡ p) → links_of (look t p) ≤ links_of (look (less e.0 u) p)
        go (yes k) = rw (← k, o.0) (omega arith)
        go (no k) = rw (less_past e.0 p u k, ← look_past e t p k) (h p)

-- without an entry and all below it a tree has no more links
pub links-cut : (p : Path) (t : Entries) → links_in (cut p t) ≤ links_in t
unfolding cut links_in
links-cut p [] = omega arith
links-cut p (e ∷ t) = go (behind p e.0) (links-cut p t)
  where
    go : (o : Option Path) → links_in (cut p t) ≤ links_in t → links_in (unless_behind o e (cut p t)) ≤ links_in (e ∷ t)
    go none ih = omega (arith, links-cons e (cut p t), links-cons e t)
    go (some r) ih = omega (arith, links-cons e t)
