-- The entries of a tree put in the order of their paths: a look finds in them what it finds in the tree, and their number and
-- bytes are the same.
-- Assumes nothing.
use mathlib.Core.Bool.{Bool, true, false, not, false≢true}
use mathlib.Core.List.{[], ◌∷◌}
use mathlib.Core.Logic.{inl, inr}
use mathlib.Core.Option.{none}
use mathlib.Core.Path.{◌≡◌, refl, sym, ap, ◌∙◌}
use Prim.Native.Nat.{ℕ, suc, ◌+◌}
use native.Mathlib.Omega.{arith}
use lib.ListN.{length}
use Rattle.model.specs.Tree.{Path, Node, Entries, precedes, look, name_length, target_length, names_and_targets}
use Rattle.model.proofs.Entries.{clash, of_true, name-dec, path-dec, look-here, look_past, look-cons, Apart}
use Rattle.model.proofs.Ordering.{one_way}
use Rattle.layout.proofs.Climbing.{Climbs, Ascends}
use Rattle.layout.proofs.Rising.{Rises, rise-apart}

-- ---- two paths

pub data Order (p q : Path) : Type 0 where
  less : Rises p q → Order p q
  equal : p ≡ q → Order p q
  more : Rises q p → Order p q

pub order : (p q : Path) → Order p q
order [] [] = equal refl
order [] (y ∷ q) = less tt
order (x ∷ p) [] = more tt
order (x ∷ p) (y ∷ q) = go (name-dec x y) (order p q)
  where
    aside : (a : Bool) → precedes x y ≡ a → (b : Bool) → precedes y x ≡ b → a ≡ not b → Order (x ∷ p) (y ∷ q)
    aside true e b g h = less (inl (of_true e))
    aside false e true g h = more (inl (of_true g))
    aside false e false g h = absurd (false≢true h)

    go : Dec (x ≡ y) → Order p q → Order (x ∷ p) (y ∷ q)
    go (no n) ih = aside (precedes x y) refl (precedes y x) refl (one_way x y n)
    go (yes e) (less r) = less (inr (e, r))
    go (yes e) (equal r) = equal (let z : x ∷ p ≡ y ∷ q = cc in z)
    go (yes e) (more r) = more (inr (sym e, r))

-- ---- an entry put in its place

abbrev into_by : {p q : Path} → Order p q → Path × Node → Path × Node → Entries → Entries → Entries
into_by (less r) e f l rest = e ∷ f ∷ l
into_by (equal r) e f l rest = e ∷ f ∷ l
into_by (more r) e f l rest = f ∷ rest

into : Path × Node → Entries → Entries
into e [] = e ∷ []
into e (f ∷ l) = into_by (order e.0 f.0) e f l (into e l)

unfoldable pub sort : Entries → Entries
unfolding into
sort [] = []
sort (e ∷ t) = into e (sort t)

-- no other entry has its path, nor one behind the first
none_behind : (e f : Path × Node) (l : Entries) → look (f ∷ l) e.0 ≡ none → (f.0 ≡ e.0 → ⊥) → look l e.0 ≡ none
none_behind e f l h n = sym (look_past f l e.0 n) ∙ h

into_climbs : (p : Path) (e : Path × Node) (l : Entries) → Rises p e.0 → Climbs p l → look l e.0 ≡ none → Climbs p (into e l)
unfolding into
into_climbs p e [] r c h = (r, tt)
into_climbs p e (f ∷ l) r c h = go (order e.0 f.0) (into_climbs f.0 e l)
  where
    go : (o : Order e.0 f.0) → (Rises f.0 e.0 → Climbs f.0 l → look l e.0 ≡ none → Climbs f.0 (into e l)) → Climbs p (into_by o e f l (into e l))
    go (less u) ih = (r, (u, c.1))
    go (equal u) ih = clash (look (f ∷ l) e.0) f.1 h (look-here f l e.0 (sym u))
    go (more u) ih = (c.0, ih u c.1 (none_behind e f l h (rise-apart f.0 e.0 u)))

into_ascends : (e : Path × Node) (l : Entries) → Ascends l → look l e.0 ≡ none → Ascends (into e l)
unfolding into
into_ascends e [] a h = tt
into_ascends e (f ∷ l) a h = go (order e.0 f.0)
  where
    go : (o : Order e.0 f.0) → Ascends (into_by o e f l (into e l))
    go (less u) = (u, a)
    go (equal u) = clash (look (f ∷ l) e.0) f.1 h (look-here f l e.0 (sym u))
    go (more u) = into_climbs f.0 e l u a (none_behind e f l h (rise-apart f.0 e.0 u))

into_look : (e : Path × Node) (l : Entries) (q : Path) → look (into e l) q ≡ look (e ∷ l) q
unfolding into
into_look e [] q = refl
into_look e (f ∷ l) q = go (order e.0 f.0) (into_look e l q)
  where
    go : (o : Order e.0 f.0) → look (into e l) q ≡ look (e ∷ l) q → look (into_by o e f l (into e l)) q ≡ look (e ∷ f ∷ l) q
    go (less u) ih = refl
    go (equal u) ih = refl
    go (more u) ih = two (path-dec f.0 q)
      where
        two : Dec (f.0 ≡ q) → look (f ∷ into e l) q ≡ look (e ∷ f ∷ l) q
        two (yes k) =
            look-here f (into e l) q k ∙ sym (look_past e (f ∷ l) q (λ z. rise-apart f.0 e.0 u (k ∙ sym z)) ∙ look-here f l q k)
        two (no k) = look_past f (into e l) q k ∙ ih ∙ sym (look-cons e (f ∷ l) l q (look_past f l q k))

into_length : (e : Path × Node) (l : Entries) → length (into e l) ≡ suc (length l)
unfolding into
into_length e [] = refl
into_length e (f ∷ l) = go (order e.0 f.0) (into_length e l)
  where
    go : (o : Order e.0 f.0) → length (into e l) ≡ suc (length l) → length (into_by o e f l (into e l)) ≡ suc (suc (length l))
    go (less u) ih = refl
    go (equal u) ih = refl
    go (more u) ih = ap suc ih

into_bytes : (e : Path × Node) (l : Entries) → names_and_targets (into e l) ≡ name_length e.0 + target_length e.1 + names_and_targets l
unfolding into names_and_targets
into_bytes e [] = refl
into_bytes e (f ∷ l) = go (order e.0 f.0) (into_bytes e l)
  where
    go : (o : Order e.0 f.0) → names_and_targets (into e l) ≡ name_length e.0 + target_length e.1 + names_and_targets l
        → names_and_targets (into_by o e f l (into e l)) ≡ name_length e.0 + target_length e.1 + (name_length f.0 + target_length f.1 + names_and_targets l)
    go (less u) ih = refl
    go (equal u) ih = refl
    go (more u) ih = omega arith

-- ---- all of them

pub sort-look : (t : Entries) (q : Path) → look (sort t) q ≡ look t q
unfolding sort
sort-look [] q = refl
sort-look (e ∷ t) q = into_look e (sort t) q ∙ look-cons e (sort t) t q (sort-look t q)

pub sort-ascends : (t : Entries) → Apart t → Ascends (sort t)
unfolding sort
sort-ascends [] a = tt
sort-ascends (e ∷ t) a = into_ascends e (sort t) (sort-ascends t a.1) (sort-look t e.0 ∙ a.0)

pub sort-length : (t : Entries) → length (sort t) ≡ length t
unfolding sort
sort-length [] = refl
sort-length (e ∷ t) = into_length e (sort t) ∙ ap suc (sort-length t)

pub sort-bytes : (t : Entries) → names_and_targets (sort t) ≡ names_and_targets t
unfolding sort names_and_targets
sort-bytes [] = refl
sort-bytes (e ∷ t) = into_bytes e (sort t) ∙ ap (λ (k : ℕ). name_length e.0 + target_length e.1 + k) (sort-bytes t)
