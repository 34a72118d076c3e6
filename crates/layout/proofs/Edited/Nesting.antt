-- A block put one deeper, below a new entry that stands in its place: the tree is the model's, with the entry taken out, the new one made
-- and the entry put down below it.
-- Assumes nothing.
use mathlib.Core.Bool.{Bool, true, false, cond}
use mathlib.Core.List.{List, [], ◌∷◌, ◌++◌, append-nil, append_assoc}
use mathlib.Core.Option.{Option, none, some}
use mathlib.Core.Path.{◌≡◌, refl, sym, ap, ◌∙◌, subst}
use Prim.Native.Nat.{ℕ, suc, ◌+◌, ◌<◌}
use native.Mathlib.Omega.{arith}
use lib.Dec.{T, eqb, ltb, ltb→lt}
use lib.ListN.{length, take, length-append}
use lib.Seq.{take-length, take-append_seam}
use borrow.Author.Tests.{eq-eqb, lt-ltb, le-ltb}
use Rattle.path.specs.Path.{Name}
use Rattle.path.proofs.Laws.{and_left, and_right}
use Rattle.model.specs.Tree.{Path, Node, Entries, look, behind, cut, under, graft, put, less}
use Rattle.model.specs.Rules.{name_ok}
use Rattle.model.proofs.Entries.{look-cons, behind-self, behind_is, under_look, give_in, give_out, cut_in, put_past, less_none}
use Rattle.layout.specs.Rows.{Row, path_of, tree_from}
use Rattle.layout.specs.Lawful.{follows, walk_ok, rows_ok, uses}
use Rattle.layout.specs.Parts.{path_after, dir_after, Behind, Between, Deeper, NotDeeper, deepen}
use Rattle.layout.proofs.Roots.{root_of}
use Rattle.layout.proofs.Walks.{first_ok}
use Rattle.layout.proofs.Edited.Blocked.{at_path, at_length, first_next}
use Rattle.layout.proofs.Edited.Carrying.{deeper_still}
use Rattle.layout.proofs.Edited.Deepening.{walk-below, tree-below, uses-deepen}
use Rattle.layout.proofs.Edited.Inserting.{stand-below, tree-new, rows_new, look-new}
use Rattle.layout.proofs.Edited.Moving.{tree-block, rows-block, look_in, look_out}
use Rattle.layout.proofs.Edited.Parted.{tree_both, uses_both, after_both, dir_both, walk-second}
use Rattle.layout.proofs.Edited.Removing.{walk-follows}
use Rattle.layout.proofs.Edited.Taking.{one_deep, block-walk, block-tree, block-alone, look-cut, rows_cut}

-- the rows in which the entry `row` stands as y below a new directory of slot s in its place
abbrev pub lowered : Row → List Row → Row → List Row → List Row → ℕ → Name → List Row
lowered root a row x b s y =
    root ∷ (a ++ (record { depth = row.depth; name = row.name; slot = s } ∷ (record { depth = suc row.depth; name = y; slot = row.slot } ∷ (deepen row.depth (suc row.depth) x ++ b))))

pub uses-lowered : (k : ℕ) (root : Row) (a : List Row) (row : Row) (x b : List Row) (s : ℕ) (y : Name)
    → uses k (lowered root a row x b s y) ≡ cond (eqb s k) 1 0 + uses k (root ∷ (a ++ (row ∷ (x ++ b))))
unfolding uses
uses-lowered k root a row x b s y =
    let low : List Row = deepen row.depth (suc row.depth) x in
    let c = uses_both k a (record { depth = row.depth; name = row.name; slot = s } ∷ (record { depth = suc row.depth; name = y; slot = row.slot } ∷ (low ++ b))) in
    let e = uses_both k low b in
    let f = uses-deepen row.depth (suc row.depth) k x in
    let i = uses_both k a (row ∷ (x ++ b)) in
    let j = uses_both k x b in
    omega (arith, c, e, f, i, j)

module _ (kind : ℕ → ℕ) (n : ℕ) (root : Row) (a : List Row) (row : Row) (x b : List Row) (t : T (rows_ok kind n (root ∷ (a ++ (row ∷ (x ++ b))))))
    (dx : Deeper row.depth x) (nb : NotDeeper row.depth b) where
  -- the path before the entry
  abbrev up : Path
  up = path_after [] (root ∷ a)

  abbrev is_dir : Bool
  is_dir = dir_after kind false (root ∷ a)

  block : T (walk_ok kind n up is_dir (row ∷ (x ++ b)))
  block = walk-second kind n root a (row ∷ (x ++ b)) t

  deep : (j : ℕ) × (row.depth ≡ suc j)
  deep = one_deep up is_dir row.depth row.name (walk-follows kind n up is_dir row (x ++ b) block)

  abbrev d : ℕ
  d = deep.0

  dx' : Deeper (suc d) x
  dx' = subst (λ (k : ℕ). Deeper k x) deep.1 dx

  nb' : NotDeeper (suc d) b
  nb' = subst (λ (k : ℕ). NotDeeper k b) deep.1 nb

  -- the entry's directory, and its path
  abbrev inside : Path
  inside = take d up

  abbrev at : Path
  at = inside ++ (row.name ∷ [])

  at_long : length at ≡ suc d
  at_long = at_length kind n up is_dir row x b d deep.1 dx' nb' block

  inside-long : length inside ≡ d
  inside-long = let e : length at ≡ length inside + 1 = length-append inside (row.name ∷ []) in omega (arith, at_long, e)

  depth_is : row.depth ≡ length at
  depth_is = deep.1 ∙ sym at_long

  same_up : up ≡ path_after [] a
  unfolding path_after
  same_up = ap (λ (p : Path). path_after p a) (root_of kind n root (a ++ (row ∷ (x ++ b))) t).path

  nest-path : path_of (path_after [] a) row ≡ at
  nest-path = ap (λ (p : Path). path_of p row) (sym same_up) ∙ at_path kind n up is_dir row x b d deep.1 dx' nb' block

  name-ok : T (name_ok row.name)
  name-ok = and_left (name_ok row.name) _ (and_right (ltb row.slot n) _ (first_ok kind n up is_dir row (x ++ b) block))

  slot-low : row.slot < n
  slot-low = ltb→lt row.slot n (and_left (ltb row.slot n) _ (first_ok kind n up is_dir row (x ++ b) block))

  -- its place once it is out
  gap : Between kind (root ∷ a) b inside row.name
  gap =
      record {
        within = ap (λ (k : ℕ). take k up) inside-long;
        follows = subst (λ (k : ℕ). T (follows up is_dir k row.name)) (deep.1 ∙ ap suc (sym inside-long)) (walk-follows kind n up is_dir row (x ++ b) block);
        behind = go b refl;
      }
    where
      go : (c : List Row) → b ≡ c → Behind at c
      go [] e = tt
      go (r ∷ c) e =
          let y = first_next kind n up is_dir row x b d deep.1 dx' nb' block r c e in
          rw (y.deep, lt-ltb y.place (length at) (omega (arith, at_long, y.within))) y.greater

  module _ (s : ℕ) (is : kind s ≡ 1) (y : Name) where
    -- the new directory, and the entry's new path
    abbrev fresh : Row
    fresh = record { depth = suc (length inside); name = row.name; slot = s }

    abbrev to : Path
    to = at ++ (y ∷ [])

    abbrev front : List Row
    front = root ∷ (a ++ (fresh ∷ []))

    end : path_after [] front ≡ at
    unfolding path_after
    end = after_both [] (root ∷ a) (fresh ∷ []) ∙ ap (λ (k : ℕ). take k up ++ (row.name ∷ [])) inside-long

    end-dir : dir_after kind false front ≡ true
    unfolding dir_after
    end-dir = dir_both kind false (root ∷ a) (fresh ∷ []) ∙ eq-eqb (kind s) 1 is

    -- the first place in it
    first-place : T (follows at true (suc (length at)) y)
    first-place = rw (le-ltb (length at) (length at) (omega arith), eq-eqb (length at) (length at) refl) tt

    first-gap : Between kind front b at y
    first-gap =
        record {
          within = ap (take (length at)) end ∙ take-length at;
          follows =
              subst (λ (p : Path). T (follows p (dir_after kind false front) (suc (length at)) y)) (sym end)
              (subst (λ (e : Bool). T (follows at e (suc (length at)) y)) (sym end-dir) first-place);
          behind = go b gap.behind;
        }
      where
        go : (c : List Row) → Behind at c → Behind to c
        go [] h = tt
        go (r ∷ c) h = stand-below at to (take-append_seam at (y ∷ [])) false (r ∷ c) h

    -- what lies below, one deeper
    abbrev low : List Row
    low = deepen (length at) (length to) x

    at-walk : T (walk_ok kind n at (eqb (kind row.slot) 1) x)
    at-walk = subst (λ (o : Path). T (walk_ok kind n o (eqb (kind row.slot) 1) x)) nest-path (block-walk kind n root a row x b t dx nb)

    deep-at : Deeper (length at) x
    deep-at = subst (λ (k : ℕ). Deeper k x) depth_is dx

    low-walk : T (walk_ok kind n to (eqb (kind row.slot) 1) low)
    low-walk =
        subst (λ (o : Path). T (walk_ok kind n o (eqb (kind row.slot) 1) low)) (append-nil to)
        (walk-below kind n at to [] (eqb (kind row.slot) 1) x deep-at (subst (λ (o : Path). T (walk_ok kind n o (eqb (kind row.slot) 1) x)) (sym (append-nil at)) at-walk))

    low-deep : Deeper (length to) low
    low-deep = deeper_still (length at) (length to) x deep-at

    -- the entry, below the new directory
    abbrev moved : Row
    moved = record { depth = suc (length at); name = y; slot = row.slot }

    abbrev nested_rows : List Row
    nested_rows = root ∷ (a ++ (fresh ∷ (moved ∷ (low ++ b))))

    to-long : length to ≡ suc row.depth
    to-long = let e : length to ≡ length at + 1 = length-append at (y ∷ []) in omega (arith, e, depth_is)

    plain : nested_rows ≡ lowered root a row x b s y
    plain =
        let e : suc (length inside) ≡ row.depth = ap suc inside-long ∙ sym deep.1 in
        let f : length at ≡ row.depth = sym depth_is in
        λ i. root ∷ (a ++ (record { depth = e i; name = row.name; slot = s } ∷ (record { depth = suc (f i); name = y; slot = row.slot } ∷ (deepen (f i) (to-long i) x ++ b))))

    joined : (c : List Row) → front ++ c ≡ root ∷ (a ++ (fresh ∷ c))
    joined c = ap (λ (r : List Row). root ∷ r) (append_assoc a (fresh ∷ []) c)

    made-rows : s < n → T (rows_ok kind n (front ++ b))
    made-rows h =
        subst (λ (r : List Row). T (rows_ok kind n r)) (sym (joined b))
        (rows_new kind (root ∷ a) b inside row.name gap n s (λ e. let z : ◌≡◌ {A = ℕ} (suc (length a)) 0 = ap length e in omega arith) h name-ok (rows_cut kind n root a row x b t dx nb))

    pub rows-lowered : s < n → T (name_ok y) → T (rows_ok kind n (lowered root a row x b s y))
    rows-lowered h m =
        subst (λ (r : List Row). T (rows_ok kind n r)) (joined (moved ∷ (low ++ b)) ∙ plain)
        (rows-block kind n front b at y first-gap row.slot low low-deep low-walk (λ e. let z : ◌≡◌ {A = ℕ} (suc (length (a ++ (fresh ∷ [])))) 0 = ap length e in omega arith) slot-low m (made-rows h))

    module _ (f : ℕ → Node) where
      abbrev full : Entries
      full = tree_from f [] (root ∷ (a ++ (row ∷ (x ++ b))))

      -- the tree with the entry out and the new directory made
      abbrev made : Entries
      made = put at (f s) (cut at full)

      cut-look : (o : Path) → look (tree_from f [] (root ∷ a) ++ tree_from f up b) o ≡ look (cut at full) o
      cut-look o =
          ap (λ (e : Entries). look e o) (sym (tree_both f [] (root ∷ a) b))
          ∙ (look-cut kind n root a row x b t dx nb f o ∙ ap (λ (p : Path). look (cut p full) o) nest-path)

      at_none : look (cut at full) at ≡ none
      at_none = cut_in at at [] full (ap (behind at) (sym (append-nil at)) ∙ behind-self at [])

      left-tree : (o : Path) → look (tree_from f [] front ++ tree_from f (path_after [] front) b) o ≡ look made o
      unfolding put
      left-tree o =
          ap (λ (e : Entries). look e o) (sym (tree_both f [] front b) ∙ (ap (tree_from f []) (joined b) ∙ tree-new kind (root ∷ a) b inside row.name gap f s))
          ∙ (look-new (tree_from f [] (root ∷ a)) (tree_from f up b) at (f s) o (cut-look at ∙ at_none)
          ∙ look-cons (at, f s) (tree_from f [] (root ∷ a) ++ tree_from f up b) (less at (cut at full)) o
          (cut-look o ∙ ap (λ (e : Entries). look e o) (sym (less_none at (cut at full) at_none))))

      under-it : (e : Entries) × (tree_from f (at ++ []) x ≡ graft at e) × (tree_from f (to ++ []) low ≡ graft to e)
      under-it = tree-below kind n at to f [] x deep-at

      -- the block by the names behind its entry's path
      abbrev hand : Entries
      hand = ([], f row.slot) ∷ under-it.0

      block-old : (at, f row.slot) ∷ tree_from f at x ≡ graft at hand
      unfolding graft
      block-old =
          ap (λ (o : Path). (o, f row.slot) ∷ tree_from f at x) (sym (append-nil at))
          ∙ ap (λ (e : Entries). (at ++ [], f row.slot) ∷ e) (ap (λ (o : Path). tree_from f o x) (sym (append-nil at)) ∙ under-it.1)

      block_new : (to, f row.slot) ∷ tree_from f to low ≡ graft to hand
      unfolding graft
      block_new =
          ap (λ (o : Path). (o, f row.slot) ∷ tree_from f to low) (sym (append-nil to))
          ∙ ap (λ (e : Entries). (to ++ [], f row.slot) ∷ e) (ap (λ (o : Path). tree_from f o low) (sym (append-nil to)) ∙ under-it.2)

      alone : (o r : Path) → behind at o ≡ some r → look ((([], f root.slot) ∷ tree_from f [] a) ++ tree_from f (path_after [] a) b) o ≡ none
      alone o r e = block-alone kind n root a row x b t dx nb f o r (ap (λ (p : Path). behind p o) nest-path ∙ e)

      -- what the model takes in hand
      in-hand : (r : Path) → look (under at full) r ≡ look hand r
      in-hand r =
          under_look at r full
          ∙ (ap (λ (e : Entries). look e (at ++ r))
          (block-tree kind n root a row x b t dx nb f
          ∙ ap (λ (e : Entries). (([], f root.slot) ∷ tree_from f [] a) ++ (e ++ tree_from f (path_after [] a) b)) (ap (λ (p : Path). (p, f row.slot) ∷ tree_from f p x) nest-path ∙ block-old))
          ∙ look_in at hand (([], f root.slot) ∷ tree_from f [] a) (tree_from f (path_after [] a) b) alone (at ++ r) r (behind-self at r))

      new-tree : tree_from f [] nested_rows ≡ tree_from f [] front ++ (graft to hand ++ tree_from f (path_after [] front) b)
      new-tree =
          ap (tree_from f []) (sym (joined (moved ∷ (low ++ b))))
          ∙ (tree-block kind n front b at y first-gap row.slot low low-deep low-walk f ∙ ap (λ (e : Entries). tree_from f [] front ++ (e ++ tree_from f (path_after [] front) b)) block_new)

      -- nothing stands at the entry's new path
      clear : (o r : Path) → behind to o ≡ some r → look made o ≡ none
      clear o r e =
          let i : o ≡ at ++ (y ∷ r) = behind_is to o r e ∙ append_assoc at (y ∷ []) r in
          let l : length o ≡ length at + suc (length r) = ap length i ∙ length-append at (y ∷ r) in
          put_past at o (f s) (cut at full) (λ q. omega (arith, ap length q, l)) ∙ cut_in at o (y ∷ r) full (ap (behind at) i ∙ behind-self at (y ∷ r))

      look-nested : (o : Path) → look (tree_from f [] nested_rows) o ≡ look (graft to (under at full) ++ cut to made) o
      look-nested o = ap (λ (e : Entries). look e o) new-tree ∙ go (behind to o) refl
        where
          empty : (o r : Path) → behind to o ≡ some r → look (tree_from f [] front ++ tree_from f (path_after [] front) b) o ≡ none
          empty o r e = left-tree o ∙ clear o r e

          go : (m : Option Path) → behind to o ≡ m → look (tree_from f [] front ++ (graft to hand ++ tree_from f (path_after [] front) b)) o ≡ look (graft to (under at full) ++ cut to made) o
          go (some r) e = look_in to hand (tree_from f [] front) (tree_from f (path_after [] front) b) empty o r e ∙ (sym (in-hand r) ∙ sym (give_in to o r (under at full) made e))
          go none e = look_out to hand (tree_from f [] front) (tree_from f (path_after [] front) b) empty o e ∙ (left-tree o ∙ sym (give_out to o (under at full) made e))

      -- the same by the path of the entry
      abbrev from : Path
      from = path_of (path_after [] a) row

      pub look-lowered : (o : Path) → look (tree_from f [] (lowered root a row x b s y)) o
          ≡ look (graft (from ++ (y ∷ [])) (under from full) ++ cut (from ++ (y ∷ [])) (put from (f s) (cut from full))) o
      look-lowered o =
          ap (λ (r : List Row). look (tree_from f [] r) o) (sym plain)
          ∙ subst (λ (p : Path). look (tree_from f [] nested_rows) o ≡ look (graft (p ++ (y ∷ [])) (under p full) ++ cut (p ++ (y ∷ [])) (put p (f s) (cut p full))) o) (sym nest-path) (look-nested o)
