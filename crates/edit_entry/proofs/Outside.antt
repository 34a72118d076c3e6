-- A gap outside a block of a walk, an entry with all below it, is a gap in the walk without the block. With a new entry in the gap the
-- rows are a walk, so the new entry may stand before what is behind the block, and behind what is before it. A gap inside the block,
-- or one behind it that lies below its entry, is in a directory whose path begins with the entry's. Nothing stands at the path of a
-- gap, and nothing below it.
-- Assumes nothing.
use mathlib.Core.Bool.{Bool, true, false, false≢true}
use mathlib.Core.List.{List, [], ◌∷◌, ◌++◌, append_assoc}
use mathlib.Core.Option.{none, some}
use mathlib.Core.Path.{◌≡◌, refl, sym, ap, ◌∙◌, subst}
use Prim.Native.Nat.{ℕ, zero, suc, ◌+◌, ◌-◌, ◌≤◌, ◌<◌}
use native.Mathlib.Omega.{arith}
use lib.Dec.{T, eqb, leb}
use lib.ListN.{length, length-append, take, drop, take-append-drop}
use lib.Seq.{take-append-le, drop-append-le, take-append-add, drop-append-add, take-take, take-length, length-take-le}
use borrow.Author.Tests.{leb-true, leb-false}
use Rattle.path.specs.Path.{Name}
use Rattle.path.proofs.Laws.{and_left}
use Rattle.model.specs.Tree.{Path, Node, look, behind}
use Rattle.model.specs.Rules.{name_ok}
use Rattle.model.proofs.Entries.{cut_in}
use Rattle.model.proofs.Sound.Entries.{snoc-equal}
use Rattle.layout.specs.Rows.{Row, path_of, tree_from}
use Rattle.layout.specs.Lawful.{follows, walk_ok, rows_ok}
use Rattle.layout.proofs.Rising.{Follows, aside, below, follows_by, by_follows}
use Rattle.layout.proofs.Roots.{root_of}
use Rattle.layout.proofs.Walks.{rest_ok}
use Rattle.layout.specs.Parts.{path_after, dir_after, Behind, Between, Deeper, NotDeeper}
use Rattle.layout.proofs.Edited.Blocked.{at_path, behind-start, behind-stand}
use Rattle.layout.proofs.Edited.Inserting.{new-length, new-path, rows_new}
use Rattle.layout.proofs.Edited.Parted.{walk_both, walk-second, after_both, SameStart, MayStand}
use Rattle.layout.proofs.Edited.Removing.{walk-follows, below-keeps, begins}
use Rattle.layout.proofs.Edited.Taking.{one_deep, rows_cut, look-cut, path-long, block-walk}
use Rattle.edit_entry.specs.Growth.{new_row}
use Rattle.edit_entry.specs.Movement.{Beside, front, back}

-- the place before record p in the rows without the block: where it parts them, and that it is a gap
pub record Besides (kind : ℕ → ℕ) (root : Row) (a b : List Row) (i e p : ℕ) (q : Path) (y : Name) : Type 0 where
  pub a₂ : List Row
  pub b₂ : List Row
  pub place : Beside root a b i e p a₂ b₂
  pub not_first : a₂ ≡ [] → ⊥
  pub gap : Between kind a₂ b₂ q y

-- ---- what follows a path

-- what stands behind a path in which nothing stands is not below it
not_below : (p : Path) (m : ℕ) (z : Name) → T (follows p false m z) → m ≤ length p
not_below p m z t = go m (follows_by p false m z t)
  where
    go : (k : ℕ) → Follows p false z k → k ≤ length p
    go k (aside j h u) = omega arith
    go k (below e) = absurd (false≢true e)

-- and what is not below it stands behind it in any case
beside_it : (p : Path) (d : Bool) (m : ℕ) (z : Name) → m ≤ length p → T (follows p d m z) → T (follows p false m z)
beside_it p d m z h t = go m h (follows_by p d m z t)
  where
    go : (k : ℕ) → k ≤ length p → Follows p d z k → T (follows p false k z)
    go k l (aside j e u) = by_follows p false (suc j) z (aside j e u)
    go k l (below e) = absurd (omega arith)

-- the same of the first of some entries
not_deeper : (p : Path) (b : List Row) → Behind p b → NotDeeper (length p) b
not_deeper p [] h = tt
not_deeper p (r ∷ b) h = not_below p r.depth r.name h

behind_first : (p : Path) (d : Bool) (m : ℕ) (b : List Row) → m ≤ length p → NotDeeper m b → MayStand p d b → Behind p b
behind_first p d m [] l nb h = tt
behind_first p d m (r ∷ b) l nb h = beside_it p d r.depth r.name (omega (arith, nb)) h

-- an entry has the same path behind two that the first entry has the same path behind
same_later : (p o : Path) (c : List Row) (r : Row) (d : List Row) → SameStart p o (c ++ (r ∷ d)) → path_of (path_after p c) r ≡ path_of (path_after o c) r
unfolding path_after
same_later p o [] r d h = h
same_later p o (s ∷ c) r d h = ap (λ (u : Path). path_of (path_after u c) r) h

-- the path behind an entry and two parts
after-parts : (p : Path) (a : List Row) (r : Row) (x c : List Row) → path_after p (a ++ (r ∷ (x ++ c))) ≡ path_after (path_after (path_of (path_after p a) r) x) c
unfolding path_after
after-parts p a r x c = after_both p a (r ∷ (x ++ c)) ∙ after_both (path_of (path_after p a) r) x c

after_block : (p : Path) (a : List Row) (r : Row) (x : List Row) → path_after p (a ++ (r ∷ x)) ≡ path_after (path_of (path_after p a) r) x
unfolding path_after
after_block p a r x = after_both p a (r ∷ x)

-- ---- entries that lie below another

below_none : (m : ℕ) → Deeper m []
unfolding Deeper
below_none m = tt

below_first : (m k : ℕ) (x : List Row) → Deeper m x → Deeper m (take k x)
unfolding Deeper
below_first m zero x h = tt
below_first m (suc k) [] h = tt
below_first m (suc k) (r ∷ x) h = (h.0, below_first m k x h.1)

-- one of them in a gap
below_next : (m k : ℕ) (x b : List Row) → k < length x → Deeper m x → (p : Path) → Behind p (drop k x ++ b) → m < length p
unfolding Deeper
below_next m k [] b l h p w = absurd (omega arith)
below_next m zero (r ∷ x) b l h p w = omega (arith, h.0, not_below p r.depth r.name w)
below_next m (suc k) (r ∷ x) b l h p w = below_next m k x b (omega arith) h.1 p w

-- ---- walks

module _ (kind : ℕ → ℕ) (n : ℕ) where
  -- the root's path is the one before it
  root-after : (r : Row) (a b : List Row) → T (rows_ok kind n (r ∷ b)) → path_after [] (r ∷ a) ≡ path_after [] a
  unfolding path_after
  root-after r a b t = ap (λ (p : Path). path_after p a) (root_of kind n r b t).path

  -- the second part of a walk from the root
  walk_from : (a b : List Row) → (a ≡ [] → ⊥) → T (rows_ok kind n (a ++ b)) → T (walk_ok kind n (path_after [] a) (dir_after kind false a) b)
  walk_from [] b z t = absurd (z refl)
  walk_from (r ∷ a) b z t = walk-second kind n r a b t

-- ---- a gap

-- the directory q, a new entry y, and a slot for it
module _ (kind : ℕ → ℕ) (n k : ℕ) (low : k < n) (q : Path) (y : Name) (ok : T (name_ok y)) where
  abbrev new : Row
  new = new_row q y k

  abbrev path : Path
  path = q ++ (y ∷ [])

  module _ (a b : List Row) (z : a ≡ [] → ⊥) (t : T (rows_ok kind n (a ++ b))) (g : Between kind a b q y) where
    -- the rows with the new entry
    rows-with : T (rows_ok kind n (a ++ (new ∷ b)))
    rows-with = rows_new kind a b q y g n k z low ok t

    -- the walk behind it
    walk-next : T (walk_ok kind n path (eqb (kind k) 1) b)
    walk-next =
        subst (λ (p : Path). T (walk_ok kind n p (eqb (kind k) 1) b)) (new-path kind a b q y g k)
        (rest_ok kind n (path_after [] a) (dir_after kind false a) new b (walk_from kind n a (new ∷ b) z rows-with))

    -- nothing stands at its path or below it
    pub gap-clear : (f : ℕ → Node) (o r : Path) → behind path o ≡ some r → look (tree_from f [] (a ++ b)) o ≡ none
    gap-clear f o r e = go a z rows-with (new-path kind a b q y g k)
      where
        deep : NotDeeper (suc (length q)) b
        deep = subst (λ (m : ℕ). NotDeeper m b) (new-length kind a b q y g) (not_deeper path b g.behind)

        go : (c : List Row) → (c ≡ [] → ⊥) → T (rows_ok kind n (c ++ (new ∷ b))) → path_of (path_after [] c) new ≡ path → look (tree_from f [] (c ++ b)) o ≡ none
        go [] h w u = absurd (h refl)
        go (s ∷ c) h w u =
            let v : path_of (path_after [] c) new ≡ path = ap (λ (p : Path). path_of p new) (sym (root-after kind n s c (c ++ (new ∷ b)) w)) ∙ u in
            look-cut kind n s c new [] b w (below_none (suc (length q))) deep f o
            ∙ cut_in (path_of (path_after [] c) new) o r (tree_from f [] (s ∷ (c ++ (new ∷ b)))) (ap (λ (p : Path). behind p o) v ∙ e)

  -- ---- beside a block

  module _ (root : Row) (a : List Row) (row : Row) (x b : List Row) (t : T (rows_ok kind n (root ∷ (a ++ (row ∷ (x ++ b))))))
      (dx : Deeper row.depth x) (nb : NotDeeper row.depth b) where
    abbrev first : List Row
    first = root ∷ a

    some_first : (c : List Row) → root ∷ c ≡ [] → ⊥
    some_first c e = omega (arith, ap length e)

    -- in front of it
    front-rows : (c d : List Row) → first ≡ c ++ d → T (rows_ok kind n (c ++ (d ++ (row ∷ (x ++ b)))))
    front-rows c d e =
        subst (λ (l : List Row). T (rows_ok kind n l)) (append_assoc c d (row ∷ (x ++ b))) (subst (λ (l : List Row). T (rows_ok kind n (l ++ (row ∷ (x ++ b))))) e t)

    front-behind : (c : List Row) → first ≡ c ++ [] → (c ≡ [] → ⊥) → Between kind c (row ∷ (x ++ b)) q y → Behind path b
    front-behind c e z g =
        let d = eqb (kind k) 1 in
        let j = one_deep path false row.depth row.name g.behind in
        behind_first path d row.depth b (not_below path row.depth row.name g.behind) nb
        (behind-stand kind n path d row x b j.0 j.1 (subst (λ (m : ℕ). Deeper m x) j.1 dx) (subst (λ (m : ℕ). NotDeeper m b) j.1 nb)
        (walk-next c (row ∷ (x ++ b)) z (front-rows c [] e) g))

    front-gap : (c d : List Row) → first ≡ c ++ d → (c ≡ [] → ⊥) → Between kind c (d ++ (row ∷ (x ++ b))) q y → Between kind c (d ++ b) q y
    front-gap c [] e z g = record { within = g.within; follows = g.follows; behind = front-behind c e z g }
    front-gap c (r ∷ d) e z g = record { within = g.within; follows = g.follows; behind = g.behind }

    -- behind it
    module _ (c d : List Row) (e : b ≡ c ++ d) (h : c ≡ [] → length q < row.depth) (g : Between kind (first ++ (row ∷ (x ++ c))) d q y) where
      joined : (w : List Row) → (first ++ (row ∷ (x ++ c))) ++ w ≡ first ++ (row ∷ (x ++ (c ++ w)))
      joined w = append_assoc first (row ∷ (x ++ c)) w ∙ ap (λ (l : List Row). first ++ (row ∷ l)) (append_assoc x c w)

      -- the rows with the new entry, as a block and what stands behind it
      all : T (rows_ok kind n (first ++ (row ∷ (x ++ (c ++ (new ∷ d))))))
      all =
          subst (λ (l : List Row). T (rows_ok kind n l)) (joined (new ∷ d))
          (rows-with (first ++ (row ∷ (x ++ c))) d (some_first (a ++ (row ∷ (x ++ c))))
          (subst (λ (l : List Row). T (rows_ok kind n l)) (sym (joined d)) (subst (λ (l : List Row). T (rows_ok kind n (first ++ (row ∷ (x ++ l))))) e t)) g)

      next : NotDeeper row.depth (c ++ (new ∷ d))
      next = go c e h
        where
          go : (c : List Row) → b ≡ c ++ d → (c ≡ [] → length q < row.depth) → NotDeeper row.depth (c ++ (new ∷ d))
          go [] e h = omega (arith, h refl)
          go (r ∷ c) e h = subst (NotDeeper row.depth) e nb

      left : T (rows_ok kind n ((first ++ c) ++ (new ∷ d)))
      left = subst (λ (l : List Row). T (rows_ok kind n l)) (sym (append_assoc first c (new ∷ d))) (rows_cut kind n root a row x (c ++ (new ∷ d)) all dx next)

      abbrev up : Path
      up = path_after [] first

      -- the path of the new entry is the same behind the block and behind what stands before it
      back-within : take (length q) (path_after [] (first ++ c)) ≡ q
      back-within =
          let f = dir_after kind false first in
          let w = walk_from kind n first (row ∷ (x ++ (c ++ (new ∷ d)))) (some_first a) all in
          let j = one_deep up f row.depth row.name (walk-follows kind n up f row (x ++ (c ++ (new ∷ d))) w) in
          let dx' = subst (λ (m : ℕ). Deeper m x) j.1 dx in
          let next' = subst (λ (m : ℕ). NotDeeper m (c ++ (new ∷ d))) j.1 next in
          let s = behind-start kind n up f row x (c ++ (new ∷ d)) j.0 j.1 dx' next' w in
          let o = at_path kind n up f row x (c ++ (new ∷ d)) j.0 j.1 dx' next' w in
          snoc-equal (take (length q) (path_after [] (first ++ c))) q y y
          (ap (λ (p : Path). path_of p new) (after_both [] first c)
          ∙ same_later up (path_after (take j.0 up ++ (row.name ∷ [])) x) c new d s
          ∙ ap (λ (p : Path). path_of (path_after (path_after p x) c) new) (sym o)
          ∙ ap (λ (p : Path). path_of p new) (sym (after-parts [] first row x c))
          ∙ new-path kind (first ++ (row ∷ (x ++ c))) d q y g k)

      back-gap : Between kind (first ++ c) d q y
      back-gap =
          record {
            within = back-within;
            follows = walk-follows kind n (path_after [] (first ++ c)) (dir_after kind false (first ++ c)) new d (walk_from kind n (first ++ c) (new ∷ d) (some_first (a ++ c)) left);
            behind = g.behind;
          }

    -- ---- inside it

    abbrev whole : List Row
    whole = first ++ (row ∷ (x ++ b))

    abbrev entry : Path
    entry = path_of (path_after [] a) row

    -- a path that begins like one of the block's and is as long as the entry's begins with the entry's
    below-entry : (m : ℕ) → take (length q) (path_after [] (first ++ (row ∷ take m x))) ≡ q → row.depth ≤ length q → take (length entry) q ≡ entry
    below-entry m e l =
        let end = path_after entry (take m x) in
        let u : path_after [] (first ++ (row ∷ take m x)) ≡ end =
        after_block [] first row (take m x) ∙ ap (λ (p : Path). path_after (path_of p row) (take m x)) (root-after kind n root a (a ++ (row ∷ (x ++ b))) t) in
        let o = path-long kind n root a row x b t dx nb in
        let w = block-walk kind n root a row x b t dx nb in
        let v = and_left (walk_ok kind n entry (eqb (kind row.slot) 1) (take m x)) _ (subst T (ap (walk_ok kind n entry (eqb (kind row.slot) 1)) (sym (take-append-drop m x)) ∙ walk_both kind n entry (eqb (kind row.slot) 1) (take m x) (drop m x)) w) in
        ap (take (length entry)) (sym (ap (take (length q)) (sym u) ∙ e))
        ∙ take-take (length entry) (length q) end (omega (arith, o, l))
        ∙ ap (λ (i : ℕ). take i end) o
        ∙ below-keeps kind n row.depth entry (eqb (kind row.slot) 1) (take m x) (below_first row.depth m x dx) v
        ∙ ap (λ (i : ℕ). take i entry) (sym o)
        ∙ take-length entry

    module _ (i e p : ℕ) (from : i ≡ suc (length a)) (to : e ≡ suc (i + length x)) (start : 0 < p) (last : p ≤ length whole)
        (g : Between kind (take p whole) (drop p whole) q y) (out : i < p → p ≤ e → behind entry q ≡ none) where
      take-inside : (m : ℕ) → p ≡ length first + suc m → m ≤ length x → take p whole ≡ first ++ (row ∷ take m x)
      take-inside m f l =
          ap (λ (j : ℕ). take j whole) f ∙ take-append-add first (row ∷ (x ++ b)) (suc m) ∙ ap (λ (r : List Row). first ++ (row ∷ r)) (take-append-le m x b l)

      drop-inside : (m : ℕ) → p ≡ length first + suc m → m ≤ length x → drop p whole ≡ drop m x ++ b
      drop-inside m f l = ap (λ (j : ℕ). drop j whole) f ∙ drop-append-add first (row ∷ (x ++ b)) (suc m) ∙ drop-append-le m x b l

      -- the new entry does not lie below the block's
      shallow : i < p → p ≤ e → length q < row.depth
      shallow h l = go (leb row.depth (length q)) refl
        where
          m : ℕ
          m = p - suc i

          go : (o : Bool) → leb row.depth (length q) ≡ o → length q < row.depth
          go false f = leb-false row.depth (length q) f
          go true f =
              let u : take p whole ≡ first ++ (row ∷ take m x) = take-inside m (omega (arith, from)) (omega (arith, to)) in
              absurd (begins entry q (below-entry m (ap (λ (r : List Row). take (length q) (path_after [] r)) (sym u) ∙ g.within) (leb-true row.depth (length q) f)) (out h l))

      in-front : p ≤ i → Besides kind root a b i e p q y
      in-front l =
          let c = take p first in
          let d = drop p first in
          let f : first ≡ c ++ d = sym (take-append-drop p first) in
          let o : p ≡ length c = sym (length-take-le p first (omega (arith, from))) in
          let z : c ≡ [] → ⊥ = λ w. omega (arith, ap length w, o) in
          let u = take-append-le p first (row ∷ (x ++ b)) (omega (arith, from)) in
          let v = drop-append-le p first (row ∷ (x ++ b)) (omega (arith, from)) in
          record { a₂ = c; b₂ = d ++ b; place = front c d f o refl refl; not_first = z; gap = front-gap c d f z (subst (λ (r : List Row). Between kind r (d ++ (row ∷ (x ++ b))) q y) u (subst (λ (r : List Row). Between kind (take p whole) r q y) v g)) }

      in-back : e ≤ p → Besides kind root a b i e p q y
      in-back l =
          let m = p - e in
          let c = take m b in
          let d = drop m b in
          let long : length whole ≡ e + length b = omega (arith, from, to, length-append a (row ∷ (x ++ b)), length-append x b) in
          let o : length c ≡ m = length-take-le m b (omega (arith, last, long)) in
          let f : p ≡ length first + suc (length x + m) = omega (arith, from, to) in
          let u : take p whole ≡ first ++ (row ∷ (x ++ c)) = ap (λ (j : ℕ). take j whole) f ∙ take-append-add first (row ∷ (x ++ b)) (suc (length x + m)) ∙ ap (λ (r : List Row). first ++ (row ∷ r)) (take-append-add x b m) in
          let v : drop p whole ≡ d = ap (λ (j : ℕ). drop j whole) f ∙ drop-append-add first (row ∷ (x ++ b)) (suc (length x + m)) ∙ drop-append-add x b m in
          let h : c ≡ [] → length q < row.depth = λ w. shallow (omega (arith, to)) (omega (arith, ap length w, o)) in
          record { a₂ = first ++ c; b₂ = d; place = back c d (sym (take-append-drop m b)) (omega (arith, o)) refl refl; not_first = some_first (a ++ c); gap = back-gap c d (sym (take-append-drop m b)) h (subst (λ (r : List Row). Between kind r d q y) u (subst (λ (r : List Row). Between kind (take p whole) r q y) v g)) }

      -- no gap is inside
      not-inside : i < p → p < e → ⊥
      not-inside h l =
          let m = p - suc i in
          let w : Behind path (drop m x ++ b) = subst (Behind path) (drop-inside m (omega (arith, from)) (omega (arith, to))) g.behind in
          let u = below_next row.depth m x b (omega (arith, to)) dx path w in
          omega (arith, u, shallow h (omega arith), new-length kind (take p whole) (drop p whole) q y g)

      pub beside : Besides kind root a b i e p q y
      beside = go (leb p i) refl (leb e p) refl
        where
          go : (u : Bool) → leb p i ≡ u → (v : Bool) → leb e p ≡ v → Besides kind root a b i e p q y
          go true f v h = in-front (leb-true p i f)
          go false f true h = in-back (leb-true e p h)
          go false f false h = absurd (not-inside (leb-false p i f) (leb-false e p h))
