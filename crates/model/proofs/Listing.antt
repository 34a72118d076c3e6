-- A listing's names rise strictly by byte order, in every state that obeys the rules.
-- Assumes nothing.
use mathlib.Core.Bool.{Bool, true, false, not, false≢true}
use mathlib.Core.List.{List, [], ◌∷◌}
use mathlib.Core.Option.{none}
use mathlib.Core.Path.{◌≡◌, refl, sym, ◌∙◌}
use lib.Dec.{T}
use Rattle.text.specs.Utf8.{Bytes}
use Rattle.path.specs.Path.{Name}
use Rattle.model.specs.Tree.{Path, under, precedes, insert_by, insert, in_order}
use Rattle.model.specs.Prog.{Stat, list?, answer, children, listing}
use Rattle.model.specs.Calls.{State, world_of}
use Rattle.model.specs.Rules.{Obeys}
use Rattle.model.proofs.Entries.{clash, of_true, apart_under}
use Rattle.model.proofs.Ordering.{one_way, named, named_here, named_past, Names}
use Rattle.model.proofs.Demand.Asking.{children-names, order-named}

-- each name is before the next one
abbrev pub Rising : {A : Type 0} → List (Name × A) → Type 0
Rising [] = Unit {0}
Rising (a ∷ []) = Unit {0}
Rising (a ∷ b ∷ l) = T (precedes a.0 b.0) × Rising (b ∷ l)

-- a name that is not before a different one has that one before it
other_way : (x y : Bytes) → precedes x y ≡ false → (y ≡ x → ⊥) → T (precedes y x)
other_way x y h n = go (precedes y x) (sym (one_way x y (λ e. n (sym e))) ∙ h)
  where
    go : (b : Bool) → not b ≡ false → T b
    go true k = tt
    go false k = absurd (false≢true (sym k))

module _ {A : Type 0} where
  -- behind the first the names rise
  rising-tail : (f : Name × A) (l : List (Name × A)) → Rising (f ∷ l) → Rising l
  rising-tail f [] h = tt
  rising-tail f (g ∷ l) h = h.1

  -- a name placed behind one that is before it keeps them rising
  rising-behind : (f e : Name × A) (l : List (Name × A)) → T (precedes f.0 e.0) → Rising (f ∷ l) → Rising (insert e l)
      → Rising (f ∷ insert e l)
  unfolding insert
  rising-behind f e [] t h r = (t, tt)
  rising-behind f e (g ∷ l) t h r = go (precedes e.0 g.0) r
    where
      go : (b : Bool) → Rising (insert_by b e g l (insert e l)) → Rising (f ∷ insert_by b e g l (insert e l))
      go true r = (t, r)
      go false r = (h.0, r)

  -- a new name put in its place keeps them rising
  rising-place : (e : Name × A) (l : List (Name × A)) → named l e.0 ≡ none → Rising l → Rising (insert e l)
  unfolding insert
  rising-place e [] n h = tt
  rising-place e (f ∷ l) n h = go (precedes e.0 f.0) refl (rising-place e l (sym (named_past f l e.0 other) ∙ n) (rising-tail f l h))
    where
      other : f.0 ≡ e.0 → ⊥
      other d = clash (named (f ∷ l) e.0) f.1 n (named_here f l e.0 d)

      go : (b : Bool) → precedes e.0 f.0 ≡ b → Rising (insert e l) → Rising (insert_by b e f l (insert e l))
      go true k ih = (of_true k, h)
      go false k ih = rising-behind f e l (other_way e.0 f.0 k other) h ih

-- names that stand once each rise when they are in order
rising-order : (l : List (Name × Stat)) → Names l → Rising (in_order l)
unfolding in_order
rising-order [] h = tt
rising-order (e ∷ l) h = rising-place e (in_order l) (order-named l h.1 e.0 ∙ h.0) (rising-order l h.1)

-- "Names in a directory rise strictly by byte order"
pub rises : (s : State) (p : Path) → Obeys s → Rising (answer (list? p) (world_of s))
unfolding answer listing
rises s p o =
    rising-order (children (world_of s) (under p s.tree))
    (children-names (world_of s) (under p s.tree) (apart_under p s.tree o.paths))
