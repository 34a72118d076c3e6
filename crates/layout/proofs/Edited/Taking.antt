-- A walk from the root without one of its blocks: the rules hold, and a look finds what it found, but for the paths that begin with
-- the entry's.
-- Assumes nothing.
use mathlib.Core.Bool.{Bool, true}
use mathlib.Core.List.{List, [], ◌∷◌, ◌++◌}
use mathlib.Core.Option.{Option, none, some}
use mathlib.Core.Path.{◌≡◌, refl, sym, ap, ◌∙◌, subst}
use Prim.Native.Nat.{ℕ, zero, suc}
use lib.Dec.{T, eqb}
use lib.ListN.{length, take}
use Rattle.path.specs.Path.{Name}
use Rattle.path.proofs.Laws.{and_left, and_right, and_both}
use Rattle.model.specs.Tree.{Path, Node, Entries, look, behind, cut}
use Rattle.model.proofs.Entries.{clash, look-cons, look_past, both_look, cut_in, cut_out, or}
use Rattle.layout.specs.Rows.{Row, path_by, path_of, tree_from}
use Rattle.layout.specs.Lawful.{follows, walk_ok, root_ok, rows_ok}
use Rattle.layout.proofs.Rising.{Rises}
use Rattle.layout.proofs.Walks.{look_at}
use Rattle.layout.specs.Parts.{path_after, dir_after, Deeper, NotDeeper}
use Rattle.layout.proofs.Edited.Parted.{tree_both, walk_both, same_back, tree-start, walk_start}
use Rattle.layout.proofs.Edited.Inserting.{root_is}
use Rattle.layout.proofs.Edited.Removing.{walk-follows, rises-behind}
use Rattle.layout.proofs.Edited.Blocked.{at_path, at_length, below-ok, behind-ok, behind-start, behind-stand, behind_none, block_none, before-rises}

-- an entry that is not the root has a name
pub one_deep : (p : Path) (d : Bool) (k : ℕ) (x : Name) → T (follows p d k x) → (j : ℕ) × (k ≡ suc j)
one_deep p d zero x t = absurd t
one_deep p d (suc k) x t = (k, refl)

-- the root begins with no other path
root_none : (p : Path) (x : Name) → behind (p ++ (x ∷ [])) [] ≡ none
unfolding behind
root_none [] x = refl
root_none (y ∷ p) x = refl

module _ (kind : ℕ → ℕ) (n : ℕ) (root : Row) (a : List Row) (row : Row) (x b : List Row) (t : T (rows_ok kind n (root ∷ (a ++ (row ∷ (x ++ b))))))
    (dx : Deeper row.depth x) (nb : NotDeeper row.depth b) where
  is_root : T (root_ok kind n root)
  unfolding rows_ok
  is_root = and_left (root_ok kind n root) _ t

  walk : T (walk_ok kind n [] true (a ++ (row ∷ (x ++ b))))
  unfolding rows_ok
  walk = and_right (root_ok kind n root) _ t

  abbrev up : Path
  up = path_after [] a

  abbrev is_dir : Bool
  is_dir = dir_after kind true a

  first_part : T (walk_ok kind n [] true a)
  first_part = and_left (walk_ok kind n [] true a) _ (subst T (walk_both kind n [] true a (row ∷ (x ++ b))) walk)

  block : T (walk_ok kind n up is_dir (row ∷ (x ++ b)))
  block = and_right (walk_ok kind n [] true a) _ (subst T (walk_both kind n [] true a (row ∷ (x ++ b))) walk)

  deep : (j : ℕ) × (row.depth ≡ suc j)
  deep = one_deep up is_dir row.depth row.name (walk-follows kind n up is_dir row (x ++ b) block)

  abbrev d : ℕ
  d = deep.0

  dx' : Deeper (suc d) x
  dx' = subst (λ (k : ℕ). Deeper k x) deep.1 dx

  nb' : NotDeeper (suc d) b
  nb' = subst (λ (k : ℕ). NotDeeper k b) deep.1 nb

  -- the path of the entry
  abbrev taken : Path
  taken = take d up ++ (row.name ∷ [])

  taken-path : path_of up row ≡ taken
  taken-path = at_path kind n up is_dir row x b d deep.1 dx' nb' block

  pub rows_cut : T (rows_ok kind n (root ∷ (a ++ b)))
  unfolding rows_ok
  rows_cut =
      and_both (root_ok kind n root) _ is_root
      (subst T (sym (walk_both kind n [] true a b))
      (and_both (walk_ok kind n [] true a) _ first_part
      (walk_start kind n _ up _ is_dir b (same_back up _ b (behind-start kind n up is_dir row x b d deep.1 dx' nb' block)) (behind-stand kind n up is_dir row x b d deep.1 dx' nb' block)
      (behind-ok kind n up is_dir row x b d deep.1 dx' nb' block))))

  module _ (f : ℕ → Node) where
    abbrev ta : Entries
    ta = tree_from f [] a

    abbrev tb : Entries
    tb = tree_from f up b

    abbrev tx : Entries
    tx = (taken, f row.slot) ∷ tree_from f taken x

    root-tree : (c : List Row) → tree_from f [] (root ∷ c) ≡ ([], f root.slot) ∷ tree_from f [] c
    unfolding tree_from
    root-tree c = ap (λ (k : ℕ). (path_by k [] root.name, f root.slot) ∷ tree_from f (path_by k [] root.name) c) (root_is kind n root is_root).0

    behind-tree : tree_from f (path_after taken x) b ≡ tb
    behind-tree = sym (tree-start f up (path_after taken x) b (behind-start kind n up is_dir row x b d deep.1 dx' nb' block))

    whole : tree_from f [] (root ∷ (a ++ (row ∷ (x ++ b)))) ≡ ([], f root.slot) ∷ (ta ++ (tx ++ tb))
    unfolding tree_from
    whole =
        root-tree (a ++ (row ∷ (x ++ b)))
        ∙ ap (λ (u : Entries). ([], f root.slot) ∷ u)
        (tree_both f [] a (row ∷ (x ++ b))
        ∙ ap (λ (u : Entries). ta ++ u)
        (ap (λ (o : Path). (o, f row.slot) ∷ tree_from f o (x ++ b)) taken-path
        ∙ ap (λ (u : Entries). (taken, f row.slot) ∷ u) (tree_both f taken x b ∙ ap (λ (u : Entries). tree_from f taken x ++ u) behind-tree)))

    pub left : tree_from f [] (root ∷ (a ++ b)) ≡ ([], f root.slot) ∷ (ta ++ tb)
    left = root-tree (a ++ b) ∙ ap (λ (u : Entries). ([], f root.slot) ∷ u) (tree_both f [] a b)

    -- a path that begins with the entry's is gone
    gone-first : (q r : Path) → behind taken q ≡ some r → (o : Option Node) → look ta q ≡ o → o ≡ none
    gone-first q r h none e = refl
    gone-first q r h (some m) e =
        let y = look_at f [] a q m e in
        clash (behind taken q) r (rises-behind taken q (subst (Rises q) taken-path (before-rises kind n [] true a row (x ++ b) walk q y.0 y.1))) h

    gone-behind : (q r : Path) → behind taken q ≡ some r → look tb q ≡ none
    gone-behind q r h =
        ap (λ (u : Entries). look u q) (sym behind-tree) ∙ behind_none kind n up is_dir row x b d deep.1 dx' nb' block f q r h

    gone : (q r : Path) → behind taken q ≡ some r → look (([], f root.slot) ∷ (ta ++ tb)) q ≡ none
    gone q r h =
        look_past ([], f root.slot) (ta ++ tb) q (λ e. clash (behind taken q) r (ap (behind taken) (sym e) ∙ root_none (take d up) row.name) h)
        ∙ (both_look ta tb q ∙ (ap (λ (o : Option Node). or o (look tb q)) (gone-first q r h (look ta q) refl) ∙ gone-behind q r h))

    -- any other is found as before
    stays : (q : Path) → behind taken q ≡ none → look (([], f root.slot) ∷ (ta ++ tb)) q ≡ look (([], f root.slot) ∷ (ta ++ (tx ++ tb))) q
    stays q h =
        look-cons ([], f root.slot) (ta ++ tb) (ta ++ (tx ++ tb)) q
        (both_look ta tb q
        ∙ (ap (or (look ta q)) (sym (both_look tx tb q ∙ ap (λ (o : Option Node). or o (look tb q)) (block_none kind n up is_dir row x b d deep.1 dx' nb' block f q h))) ∙ sym (both_look ta (tx ++ tb) q)))

    look-taken : (q : Path) → look (tree_from f [] (root ∷ (a ++ b))) q ≡ look (cut taken (tree_from f [] (root ∷ (a ++ (row ∷ (x ++ b)))))) q
    look-taken q = ap (λ (u : Entries). look u q) left ∙ (go (behind taken q) refl ∙ ap (λ (u : Entries). look (cut taken u) q) (sym whole))
      where
        go : (o : Option Path) → behind taken q ≡ o → look (([], f root.slot) ∷ (ta ++ tb)) q ≡ look (cut taken (([], f root.slot) ∷ (ta ++ (tx ++ tb)))) q
        go none h = stays q h ∙ sym (cut_out taken q (([], f root.slot) ∷ (ta ++ (tx ++ tb))) h)
        go (some r) h = gone q r h ∙ sym (cut_in taken q r (([], f root.slot) ∷ (ta ++ (tx ++ tb))) h)

    pub look-cut : (q : Path) → look (tree_from f [] (root ∷ (a ++ b))) q ≡ look (cut (path_of (path_after [] a) row) (tree_from f [] (root ∷ (a ++ (row ∷ (x ++ b)))))) q
    look-cut q = look-taken q ∙ ap (λ (o : Path). look (cut o (tree_from f [] (root ∷ (a ++ (row ∷ (x ++ b)))))) q) (sym taken-path)

  -- ---- the block itself, by the path of its entry

  abbrev pub entry_path : Path
  entry_path = path_of (path_after [] a) row

  pub path-long : length entry_path ≡ row.depth
  path-long = ap length taken-path ∙ (at_length kind n up is_dir row x b d deep.1 dx' nb' block ∙ sym deep.1)

  pub block-walk : T (walk_ok kind n entry_path (eqb (kind row.slot) 1) x)
  block-walk =
      subst (λ (o : Path). T (walk_ok kind n o (eqb (kind row.slot) 1) x)) (sym taken-path) (below-ok kind n up is_dir row x b d deep.1 dx' nb' block)

  pub block-tree : (f : ℕ → Node) → tree_from f [] (root ∷ (a ++ (row ∷ (x ++ b))))
      ≡ (([], f root.slot) ∷ tree_from f [] a) ++ (((entry_path, f row.slot) ∷ tree_from f entry_path x) ++ tree_from f (path_after [] a) b)
  block-tree f = whole f ∙ ap (λ (o : Path). ([], f root.slot) ∷ (tree_from f [] a ++ (((o, f row.slot) ∷ tree_from f o x) ++ tree_from f up b))) (sym taken-path)

  pub block-alone : (f : ℕ → Node) (q r : Path) → behind entry_path q ≡ some r → look ((([], f root.slot) ∷ tree_from f [] a) ++ tree_from f (path_after [] a) b) q ≡ none
  block-alone f q r h = gone f q r (ap (λ (o : Path). behind o q) (sym taken-path) ∙ h)
