-- Where an entry is put in, by what the functions of `find` answer: the place before the record where a name is missing is vacant.
-- Assumes nothing.
use mathlib.Core.Bool.{Bool, true, false}
use mathlib.Core.List.{[], ◌∷◌, ◌++◌}
use mathlib.Core.Option.{none}
use mathlib.Core.Path.{◌≡◌, refl, subst}
use Prim.Native.Nat.{ℕ, suc, ◌-◌, ◌≤◌, ◌<◌}
use native.Mathlib.Omega.{arith}
use lib.Dec.{T, leb}
use lib.ListN.{length, take, drop}
use borrow.Author.Tests.{leb-true, leb-false}
use Rattle.path.specs.Path.{Name}
use Rattle.model.specs.Tree.{look}
use Rattle.model.specs.Rules.{name_ok}
use Rattle.layout.specs.Numbers.{most_entries}
use Rattle.layout.specs.Rows.{name_total}
use Rattle.layout.specs.Store.{Store, count, live, rows_of, kind_at, state}
use Rattle.layout.specs.Lawful.{Lawful}
use Rattle.layout.specs.Parts.{path_after, Between}
use Rattle.layout.proofs.Edited.Removing.{begins, rises-behind}
use Rattle.ask_find.specs.declared.Gap.{Gap}
use Rattle.ask_find.specs.declared.Spot.{Spot}
use Rattle.ask_find.specs.Paths.{slot_at, path_at}
use Rattle.ask_find.specs.Spots.{At, Room, between, instead, Vacant, nothing, Looks, ChildIs}
use Rattle.ask_find.proofs.Children.{dir-told}
use Rattle.std.specs.Prelude.{Result, Ok, Err, IfSome}
use Rattle.std.specs.Result.{result_ok, result_err}
use Rattle.ask_find.proofs.Records.{path-rises}
use Rattle.test_tried.specs.Tried.{Spotted, ChildOf}

-- the place of a missing entry stands behind its directory: the path before it begins with the directory's
after-dir : (st : Store) (l : Lawful st) (i k : ℕ) (x : Name) → i < count st → 0 < k → k ≤ count st → Between (kind_at st) (take k (rows_of st)) (drop k (rows_of st)) (path_at st i) x → i < k
after-dir st l i k x h a b g = go (leb k i) refl
  where
    e : k ≡ suc (k - 1)
    e = omega (arith, a)

    go : (v : Bool) → leb k i ≡ v → i < k
    go true z =
        absurd (begins (path_at st i) (path_at st (k - 1)) (subst (λ (m : ℕ). take (length (path_at st i)) (path_after [] (take m (rows_of st))) ≡ path_at st i) e g.within)
        (rises-behind (path_at st i) (path_at st (k - 1)) (path-rises st l (k - 1) i (omega (arith, a, leb-true k i z)) h)))
    go false z = leb-false k i z

-- the spot of a record is the entry at its path
pub at_record : (st : Store) (i o : ℕ) → i < count st → o ≡ name_total (take i st.records) → At st (record { at = i; off = o }) (path_at st i)
at_record st i o h e = record { within = h; offset = e; path = refl }

pub spotted : (st : Store) (l : Lawful st) (i : ℕ) → i < count st → (x : Name) → T (name_ok x) → (g : Gap) → look (state st).tree (path_at st i ++ (x ∷ [])) ≡ none
    → Vacant st most_entries (path_at st i) x g → Spotted st i g.at g.depth x
spotted st l i h x n g e v = go v.room
  where
    go : Room st most_entries (path_at st i) x g.at → Spotted st i g.at g.depth x
    go (between w) = record { after = after-dir st l i g.at x h v.first v.last w; vacant = record { first = v.first; last = v.last; deep = v.deep; name = n; gap = w; missing = e } }
    go (instead a b c w) = absurd (omega (arith, a, l.counted, l.entry_limit.1))

-- ---- what `look` answers of a name in the directory at a record

pub looked : (st : Store) → Lawful st → (i o : ℕ) → i < count st → kind_at st (slot_at st i) ≡ 1 → (x : Name) → o ≡ name_total (take i st.records) → (r : Result Spot Gap)
    → ChildIs (live st) st.bytes (record { at = i; off = o }) x most_entries r → Looks st most_entries (state st).tree (path_at st i) x r
looked st l i o h d x e r k = k st refl refl l (path_at st i) (state st).tree (at_record st i o h e) (nothing (omega (arith, l.counted, l.entry_limit.1)) refl) (dir-told st l i h d)

-- its place, if it is missing
pub place-found : (st : Store) → Lawful st → (i : ℕ) → i < count st → (x : Name) → T (name_ok x) → (r : Result Spot Gap) → Looks st most_entries (state st).tree (path_at st i) x r
    → IfSome (result_err r) (λ g. Spotted st i g.at g.depth x)
place-found st l i h x n (Ok s) y = tt
place-found st l i h x n (Err g) y = spotted st l i h x n g y.0 y.1

-- its record, if it is there
pub record-found : (st : Store) (i : ℕ) → i < count st → (x : Name) (r : Result Spot Gap) → Looks st most_entries (state st).tree (path_at st i) x r → IfSome (result_ok r) (λ s. ChildOf st i x s.at)
record-found st i h x (Ok s) y = record { inside = h; within = y.at.within; path = y.at.path }
record-found st i h x (Err g) y = tt
