-- A block taken out of a walk and put down between two parts of what is left: the tree is the model's, taken and given.
-- Assumes nothing.
use mathlib.Core.List.{List, [], ◌∷◌, ◌++◌, append-nil}
use mathlib.Core.Option.{Option, none, some}
use mathlib.Core.Path.{◌≡◌, refl, sym, ap, ◌∙◌, subst}
use Prim.Native.Nat.{ℕ, suc, ◌<◌}
use native.Mathlib.Omega.{arith}
use lib.Dec.{T, eqb}
use lib.ListN.{length}
use Rattle.path.specs.Path.{Name}
use Rattle.model.specs.Tree.{Path, Node, Entries, look, behind, cut, under, graft}
use Rattle.model.specs.Rules.{name_ok}
use Rattle.model.proofs.Entries.{behind-self, under_look, give_in, give_out}
use Rattle.layout.specs.Rows.{Row, path_of, tree_from}
use Rattle.layout.specs.Lawful.{walk_ok, rows_ok, uses}
use Rattle.layout.specs.Parts.{path_after, Between, Deeper, NotDeeper, deepen}
use Rattle.layout.proofs.Edited.Deepening.{walk-below, tree-below, uses-deepen}
use Rattle.layout.proofs.Edited.Moving.{tree-block, rows-block, look_in, look_out}
use Rattle.layout.proofs.Edited.Parted.{tree_both, uses_both}
use Rattle.layout.proofs.Edited.Taking.{path-long, block-walk, block-tree, block-alone, look-cut, rows_cut}

-- still below
pub deeper_still : (u v : ℕ) (rs : List Row) → Deeper u rs → Deeper v (deepen u v rs)
unfolding Deeper deepen
deeper_still u v [] h = tt
deeper_still u v (r ∷ rs) h = (omega (arith, h.0), deeper_still u v rs h.1)

module _ (kind : ℕ → ℕ) (n : ℕ) (root : Row) (a : List Row) (row : Row) (x b : List Row) (t : T (rows_ok kind n (root ∷ (a ++ (row ∷ (x ++ b))))))
    (dx : Deeper row.depth x) (nb : NotDeeper row.depth b)
    (a₂ b₂ : List Row) (parts : root ∷ (a ++ b) ≡ a₂ ++ b₂) (q : Path) (y : Name) (g : Between kind a₂ b₂ q y) where
  -- the old path and the new one
  abbrev old : Path
  old = path_of (path_after [] a) row

  abbrev new : Path
  new = q ++ (y ∷ [])

  -- what lies below, at the new depth
  abbrev low : List Row
  low = deepen row.depth (length new) x

  old-long : length old ≡ row.depth
  old-long = path-long kind n root a row x b t dx nb

  low-walk : T (walk_ok kind n new (eqb (kind row.slot) 1) low)
  low-walk =
      subst (λ (k : ℕ). T (walk_ok kind n new (eqb (kind row.slot) 1) (deepen k (length new) x))) old-long
      (subst (λ (o : Path). T (walk_ok kind n o (eqb (kind row.slot) 1) (deepen (length old) (length new) x))) (append-nil new)
      (walk-below kind n old new [] (eqb (kind row.slot) 1) x (subst (λ (k : ℕ). Deeper k x) (sym old-long) dx)
      (subst (λ (o : Path). T (walk_ok kind n o (eqb (kind row.slot) 1) x)) (sym (append-nil old)) (block-walk kind n root a row x b t dx nb))))

  low-deep : Deeper (length new) low
  low-deep = deeper_still row.depth (length new) x dx

  left_rows : T (rows_ok kind n (a₂ ++ b₂))
  left_rows = subst (λ (r : List Row). T (rows_ok kind n r)) parts (rows_cut kind n root a row x b t dx nb)

  -- the rows after the move
  abbrev pub carried_rows : List Row
  carried_rows = a₂ ++ (record { depth = suc (length q); name = y; slot = row.slot } ∷ (deepen row.depth (length (q ++ (y ∷ []))) x ++ b₂))

  pub rows-carried : (a₂ ≡ [] → ⊥) → row.slot < n → T (name_ok y) → T (rows_ok kind n carried_rows)
  rows-carried z h m = rows-block kind n a₂ b₂ q y g row.slot low low-deep low-walk z h m left_rows

  pub uses-carried : (k : ℕ) → uses k carried_rows ≡ uses k (root ∷ (a ++ (row ∷ (x ++ b))))
  unfolding uses
  uses-carried k =
      let c = uses_both k a₂ (record { depth = suc (length q); name = y; slot = row.slot } ∷ (low ++ b₂)) in
      let d = uses_both k low b₂ in
      let e = uses-deepen row.depth (length new) k x in
      let f = ap (uses k) parts ∙ uses_both k a₂ b₂ in
      let i = uses_both k a b in
      let j = uses_both k a (row ∷ (x ++ b)) in
      let m = uses_both k x b in
      omega (arith, c, d, e, f, i, j, m)

  module _ (f : ℕ → Node) where
    abbrev full : Entries
    full = tree_from f [] (root ∷ (a ++ (row ∷ (x ++ b))))

    below : (s : Entries) × (tree_from f (old ++ []) x ≡ graft old s) × (tree_from f (new ++ []) (deepen (length old) (length new) x) ≡ graft new s)
    below = tree-below kind n old new f [] x (subst (λ (k : ℕ). Deeper k x) (sym old-long) dx)

    -- the block by the names behind its entry's path
    abbrev hand : Entries
    hand = ([], f row.slot) ∷ below.0

    block-old : (old, f row.slot) ∷ tree_from f old x ≡ graft old hand
    unfolding graft
    block-old =
        ap (λ (o : Path). (o, f row.slot) ∷ tree_from f old x) (sym (append-nil old))
        ∙ ap (λ (s : Entries). (old ++ [], f row.slot) ∷ s) (ap (λ (o : Path). tree_from f o x) (sym (append-nil old)) ∙ below.1)

    block_new : (new, f row.slot) ∷ tree_from f new low ≡ graft new hand
    unfolding graft
    block_new =
        ap (λ (o : Path). (o, f row.slot) ∷ tree_from f new low) (sym (append-nil new))
        ∙ ap (λ (s : Entries). (new ++ [], f row.slot) ∷ s)
        (ap (λ (k : ℕ). tree_from f new (deepen k (length new) x)) (sym old-long) ∙ (ap (λ (o : Path). tree_from f o (deepen (length old) (length new) x)) (sym (append-nil new)) ∙ below.2))

    -- what the model takes in hand
    in-hand : (r : Path) → look (under old full) r ≡ look hand r
    in-hand r =
        under_look old r full
        ∙ (ap (λ (s : Entries). look s (old ++ r)) (block-tree kind n root a row x b t dx nb f ∙ ap (λ (s : Entries). (([], f root.slot) ∷ tree_from f [] a) ++ (s ++ tree_from f (path_after [] a) b)) block-old)
        ∙ look_in old hand (([], f root.slot) ∷ tree_from f [] a) (tree_from f (path_after [] a) b) (block-alone kind n root a row x b t dx nb f) (old ++ r) r (behind-self old r))

    left-tree : (o : Path) → look (tree_from f [] a₂ ++ tree_from f (path_after [] a₂) b₂) o ≡ look (cut old full) o
    left-tree o =
        ap (λ (s : Entries). look s o) (sym (tree_both f [] a₂ b₂) ∙ ap (tree_from f []) (sym parts)) ∙ look-cut kind n root a row x b t dx nb f o

    new-tree : tree_from f [] carried_rows ≡ tree_from f [] a₂ ++ (graft new hand ++ tree_from f (path_after [] a₂) b₂)
    new-tree =
        tree-block kind n a₂ b₂ q y g row.slot low low-deep low-walk f
        ∙ ap (λ (s : Entries). tree_from f [] a₂ ++ (s ++ tree_from f (path_after [] a₂) b₂)) block_new

    pub look-carried : ((o r : Path) → behind new o ≡ some r → look (cut old full) o ≡ none) → (o : Path)
        → look (tree_from f [] carried_rows) o ≡ look (graft new (under old full) ++ cut new (cut old full)) o
    look-carried clear o = ap (λ (s : Entries). look s o) new-tree ∙ go (behind new o) refl
      where
        empty : (o r : Path) → behind new o ≡ some r → look (tree_from f [] a₂ ++ tree_from f (path_after [] a₂) b₂) o ≡ none
        empty o r e = left-tree o ∙ clear o r e

        go : (m : Option Path) → behind new o ≡ m → look (tree_from f [] a₂ ++ (graft new hand ++ tree_from f (path_after [] a₂) b₂)) o ≡ look (graft new (under old full) ++ cut new (cut old full)) o
        go (some r) e = look_in new hand (tree_from f [] a₂) (tree_from f (path_after [] a₂) b₂) empty o r e ∙ (sym (in-hand r) ∙ sym (give_in new o r (under old full) (cut old full) e))
        go none e = look_out new hand (tree_from f [] a₂) (tree_from f (path_after [] a₂) b₂) empty o e ∙ (left-tree o ∙ sym (give_out new o (under old full) (cut old full) e))
