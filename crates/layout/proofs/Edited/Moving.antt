-- A block put between two parts of a walk that does not have it: the rules hold, and a look finds the block below its new path and
-- all else as before.
-- Assumes nothing.
use mathlib.Core.Bool.{Bool, true, false}
use mathlib.Core.List.{List, [], ◌∷◌, ◌++◌}
use mathlib.Core.Option.{Option, none, some}
use mathlib.Core.Path.{◌≡◌, refl, sym, ap, ◌∙◌, subst}
use Prim.Native.Nat.{ℕ, suc, ◌<◌}
use lib.Dec.{T, eqb, ltb}
use lib.ListN.{length, take}
use lib.Seq.{take-length}
use borrow.Author.Tests.{lt-ltb}
use Rattle.path.specs.Path.{Name}
use Rattle.path.proofs.Laws.{and_left, and_right, and_both}
use Rattle.model.specs.Tree.{Path, Node, Entries, look, behind, graft}
use Rattle.model.specs.Rules.{name_ok}
use Rattle.model.proofs.Entries.{of_true, or, both_look, graft_in, graft_out}
use Rattle.layout.specs.Rows.{Row, path_by, tree_from}
use Rattle.layout.specs.Lawful.{entry_ok, walk_ok, root_ok, rows_ok}
use Rattle.layout.specs.Parts.{path_after, dir_after, Behind, Between, Deeper}
use Rattle.layout.proofs.Edited.Parted.{tree_both, walk_both, SameStart, tree-start, walk_start}
use Rattle.layout.proofs.Edited.Inserting.{stand-below, start-below, root_is, same_start, new-path, none_left}
use Rattle.layout.proofs.Edited.Removing.{below-keeps}

-- ---- behind a path that begins with the entry's

-- ---- the block between the parts

module _ (kind : ℕ → ℕ) (n : ℕ) (a b : List Row) (q : Path) (x : Name) (g : Between kind a b q x) (s : ℕ) (c : List Row) where
  -- the entry, and its path
  abbrev row : Row
  row = record { depth = suc (length q); name = x; slot = s }

  abbrev at : Path
  at = q ++ (x ∷ [])

  module _ (dc : Deeper (length at) c) (wc : T (walk_ok kind n at (eqb (kind s) 1) c)) where
    end-keeps : take (length at) (path_after at c) ≡ at
    end-keeps = below-keeps kind n (length at) at (eqb (kind s) 1) c dc wc ∙ take-length at

    -- the entries behind: by the path before the block, and by the last of the block
    start-end : SameStart (path_after [] a) (path_after at c) b
    start-end = go b g.behind
      where
        go : (y : List Row) → Behind at y → SameStart (path_after [] a) (path_after at c) y
        go [] h = tt
        go (r ∷ y) h = same_start kind a b q x g (r ∷ y) h ∙ start-below at (path_after at c) end-keeps (r ∷ y) h

    pub tree-block : (f : ℕ → Node) → tree_from f [] (a ++ (row ∷ (c ++ b))) ≡ tree_from f [] a ++ (((at, f s) ∷ tree_from f at c) ++ tree_from f (path_after [] a) b)
    unfolding tree_from
    tree-block f =
        tree_both f [] a (row ∷ (c ++ b))
        ∙ ap (λ (t : Entries). tree_from f [] a ++ t)
        (ap (λ (p : Path). (p, f s) ∷ tree_from f p (c ++ b)) (new-path kind a b q x g s)
        ∙ ap (λ (t : Entries). (at, f s) ∷ t) (tree_both f at c b ∙ ap (λ (t : Entries). tree_from f at c ++ t) (sym (tree-start f (path_after [] a) (path_after at c) b start-end))))

    walk_block : (p : Path) (d : Bool) (y : List Row) → path_after p y ≡ path_after [] a → dir_after kind d y ≡ dir_after kind false a → s < n → T (name_ok x)
        → T (walk_ok kind n p d (y ++ b)) → T (walk_ok kind n p d (y ++ (row ∷ (c ++ b))))
    unfolding walk_ok
    walk_block p d y e f h m t =
        let old = subst T (walk_both kind n p d y b) t in
        let end = and_right (walk_ok kind n p d y) _ old in
        let there = subst (λ (o : Path). T (walk_ok kind n o (dir_after kind false a) b)) e (subst (λ (o : Bool). T (walk_ok kind n (path_after p y) o b)) f end) in
        let last = walk_start kind n (path_after [] a) (path_after at c) (dir_after kind false a) (dir_after kind (eqb (kind s) 1) c) b start-end (stand-below at (path_after at c) end-keeps _ b g.behind) there in
        subst T (sym (walk_both kind n p d y (row ∷ (c ++ b))))
        (and_both (walk_ok kind n p d y) _ (and_left (walk_ok kind n p d y) _ old)
        (rw (e, f)
        (and_both (entry_ok n (path_after [] a) (dir_after kind false a) row) _
        (and_both (ltb s n) _ (of_true (lt-ltb s n h)) (and_both (name_ok x) _ m g.follows))
        (subst (λ (o : Path). T (walk_ok kind n o (eqb (kind s) 1) (c ++ b))) (sym (new-path kind a b q x g s))
        (subst T (sym (walk_both kind n at (eqb (kind s) 1) c b)) (and_both (walk_ok kind n at (eqb (kind s) 1) c) _ wc last))))))

    rows-go : s < n → T (name_ok x) → (r : Row) (y : List Row) → path_after [] (r ∷ y) ≡ path_after [] a → dir_after kind false (r ∷ y) ≡ dir_after kind false a
        → T (rows_ok kind n (r ∷ (y ++ b))) → T (rows_ok kind n (r ∷ (y ++ (row ∷ (c ++ b)))))
    unfolding rows_ok path_after dir_after
    rows-go h m r y e f t =
        let i = and_left (root_ok kind n r) _ t in
        let root = root_is kind n r i in
        and_both (root_ok kind n r) _ i
        (walk_block [] true y (ap (λ (d : ℕ). path_after (path_by d [] r.name) y) (sym root.0) ∙ e) (ap (λ (d : Bool). dir_after kind d y) (sym root.1) ∙ f) h m (and_right (root_ok kind n r) _ t))

    pub rows-block : (a ≡ [] → ⊥) → s < n → T (name_ok x) → T (rows_ok kind n (a ++ b)) → T (rows_ok kind n (a ++ (row ∷ (c ++ b))))
    rows-block z h m t = go a z refl refl t
      where
        go : (y : List Row) → (y ≡ [] → ⊥) → path_after [] y ≡ path_after [] a → dir_after kind false y ≡ dir_after kind false a → T (rows_ok kind n (y ++ b)) → T (rows_ok kind n (y ++ (row ∷ (c ++ b))))
        go [] z e f t = absurd (z refl)
        go (r ∷ y) z e f t = rows-go h m r y e f t

-- ---- looking

-- a block below a path that nothing else has may stand anywhere
module _ (p : Path) (h : Entries) (s t : Entries) (clear : (q r : Path) → behind p q ≡ some r → look (s ++ t) q ≡ none) where
  pub look_in : (q r : Path) → behind p q ≡ some r → look (s ++ (graft p h ++ t)) q ≡ look h r
  look_in q r e =
      let z = sym (both_look s t q) ∙ clear q r e in
      let y = none_left (look s q) (look t q) z in
      both_look s (graft p h ++ t) q
      ∙ (ap (λ (o : Option Node). or o (look (graft p h ++ t) q)) y
      ∙ (both_look (graft p h) t q ∙ (ap (or (look (graft p h) q)) (ap (λ (o : Option Node). or o (look t q)) (sym y) ∙ z) ∙ (or-none (look (graft p h) q) ∙ graft_in p q r h e))))
    where
      or-none : (o : Option Node) → or o none ≡ o
      or-none none = refl
      or-none (some m) = refl

  pub look_out : (q : Path) → behind p q ≡ none → look (s ++ (graft p h ++ t)) q ≡ look (s ++ t) q
  look_out q e =
      both_look s (graft p h ++ t) q
      ∙ (ap (or (look s q)) (both_look (graft p h) t q ∙ ap (λ (o : Option Node). or o (look t q)) (graft_out p q h e)) ∙ sym (both_look s t q))
