-- The two places for a new entry: the root of an empty tree, and a gap between the entries of a directory.
-- Assumes nothing.
use mathlib.Core.Bool.{Bool}
use mathlib.Core.List.{List, [], ◌∷◌, ◌++◌}
use mathlib.Core.Path.{◌≡◌, refl, subst}
use Prim.Native.Nat.{ℕ, suc, ◌<◌}
use lib.Dec.{T}
use lib.ListN.{length}
use borrow.Author.Tests.{lt-ltb}
use Rattle.text.specs.Utf8.{Bytes}
use Rattle.path.specs.Path.{Name}
use Rattle.model.specs.Tree.{Path, Time, Node}
use Rattle.model.specs.Rules.{name_ok}
use Rattle.layout.specs.Rows.{Row, tree_from}
use Rattle.layout.specs.Store.{Store, kind_at}
use Rattle.layout.specs.Lawful.{follows, rows_ok, walk_ok, Lawful}
use Rattle.layout.specs.Parts.{path_after, Between}
use Rattle.layout.proofs.Edited.Inserting.{tree-new, rows_new}
use Rattle.edit_entry.specs.Growth.{new_row, root_row, Grown}
use Rattle.edit_entry.proofs.Growing.{rows_still, dir_still}

module _ {st st' : Store} {a b : List Row} {q : Path} {x : Name} {s h : ℕ} {c : Bytes} {t : Time} (l : Lawful st) (g : Grown st st' a b (new_row q x s) h c t)
    (p : Between (kind_at st) a b q x) where
  new-gap : Between (kind_at st') a b q x
  new-gap =
      record {
        within = p.within;
        follows = subst (λ (d : Bool). T (follows (path_after [] a) d (suc (length q)) x)) (dir_still l g) p.follows;
        behind = p.behind;
      }

  pub gap-tree : (f : ℕ → Node) → tree_from f [] (a ++ (new_row q x s ∷ b)) ≡ tree_from f [] a ++ ((q ++ (x ∷ []), f s) ∷ tree_from f (path_after [] a) b)
  gap-tree f = tree-new (kind_at st) a b q x p f s

  pub gap-rows : (a ≡ [] → ⊥) → T (name_ok x) → T (rows_ok (kind_at st') (length st.heads) (a ++ (new_row q x s ∷ b)))
  gap-rows z m = rows_new (kind_at st') a b q x new-gap (length st.heads) s z g.low m (rows_still l g)

-- the root of an empty tree
pub root-tree : (f : ℕ → Node) (s : ℕ) → tree_from f [] (root_row s ∷ []) ≡ ([], f s) ∷ []
unfolding tree_from
root-tree f s = refl

pub root-rows : (kind : ℕ → ℕ) (n s : ℕ) → s < n → kind s ≡ 1 → T (rows_ok kind n (root_row s ∷ []))
unfolding rows_ok walk_ok
root-rows kind n s h e = rw (lt-ltb s n h, e) tt
