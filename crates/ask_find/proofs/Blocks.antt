-- For callers of `block_end`, on a lawful store: the records up to the end are those that lie below record i, and the first behind
-- them does not. All lie below the root, since no other entry stands as high.
-- Assumes nothing.
use mathlib.Core.Bool.{Bool, true, false}
use mathlib.Core.List.{List, [], ◌∷◌, ◌++◌}
use mathlib.Core.Path.{◌≡◌, refl, sym, ap, ◌∙◌, subst}
use Prim.Native.Nat.{ℕ, suc, ◌+◌, ◌-◌, ◌≤◌, ◌<◌}
use native.Mathlib.Numerals.{add-one}
use native.Mathlib.Omega.{arith}
use lib.Dec.{T, leb}
use lib.ListN.{length, take, drop, get_or, length-drop, take-append-drop}
use lib.Seq.{drop-drop, get_or-take}
use borrow.Author.Tests.{leb-true, leb-false}
use Rattle.text.specs.Utf8.{Bytes}
use Rattle.path.specs.Path.{Name}
use Rattle.model.specs.Tree.{Path}
use Rattle.layout.specs.Fields.{depth_of, nlen_of}
use Rattle.layout.specs.Rows.{Row, name_total, rows, path_of}
use Rattle.layout.specs.Store.{Store, count, live, rows_of, kind_at}
use Rattle.layout.specs.Lawful.{walk_ok, Lawful}
use Rattle.layout.proofs.Named.{rows_drop}
use Rattle.layout.proofs.Rising.{Follows, aside, below}
use Rattle.layout.proofs.Used.{live-length}
use Rattle.layout.specs.Parts.{path_after, dir_after, Deeper, NotDeeper}
use Rattle.layout.proofs.Edited.Removing.{walk-rises}
use Rattle.ask_find.specs.Spans.{pick_n, span}
use Rattle.ask_find.specs.Spots.{block_end}
use Rattle.ask_find.specs.Paths.{row_at, path_at}
use Rattle.ask_find.proofs.Spans.{span-le}
use Rattle.ask_find.proofs.Records.{rows_long, walk-behind, parts_at, path_next, root-depth, root-path}

-- ---- rows

-- the first that are deeper, and the next
span-parts : (d : ℕ) (ws : List ℕ) (bs : Bytes) → Deeper d (take (span d ws) (rows ws bs)) × NotDeeper d (drop (span d ws) (rows ws bs))
unfolding span rows Deeper
span-parts d [] bs = (tt, tt)
span-parts d (w ∷ ws) bs = go (leb (depth_of w) d) refl (span-parts d ws (drop (nlen_of w) bs))
  where
    rest : List Row
    rest = rows ws (drop (nlen_of w) bs)

    go : (b : Bool) → leb (depth_of w) d ≡ b → Deeper d (take (span d ws) rest) × NotDeeper d (drop (span d ws) rest)
        → Deeper d (take (pick_n b 0 (suc (span d ws))) (rows (w ∷ ws) bs)) × NotDeeper d (drop (pick_n b 0 (suc (span d ws))) (rows (w ∷ ws) bs))
    go true e ih = (tt, leb-true (depth_of w) d e)
    go false e ih = ((leb-false (depth_of w) d e, ih.0), ih.1)

-- what follows another has a name
above_root : (p : Path) (d : Bool) (x : Name) (k : ℕ) → Follows p d x k → 0 < k
above_root p d x k (aside j h t) = omega arith
above_root p d x k (below e) = omega arith

-- ---- records

-- the entries between the root and record i
abbrev pub front : Store → ℕ → List Row
front st i = take (i - 1) (drop 1 (rows_of st))

-- those below record i, up to record e
abbrev pub block : Store → ℕ → ℕ → List Row
block st i e = take (e - suc i) (drop (suc i) (rows_of st))

-- the entries around the block of record i, which ends before record e
pub record Block (st : Store) (i e : ℕ) : Type 0 where
  pub first : take i (rows_of st) ≡ row_at st 0 ∷ front st i
  pub parts : rows_of st ≡ row_at st 0 ∷ (front st i ++ (row_at st i ∷ (block st i e ++ drop e (rows_of st))))
  pub path : path_of (path_after [] (front st i)) (row_at st i) ≡ path_at st i
  pub deeper : Deeper (row_at st i).depth (block st i e)
  pub beyond : NotDeeper (row_at st i).depth (drop e (rows_of st))

module _ (st : Store) (l : Lawful st) where
  module _ (i : ℕ) (h : i < count st) where
    abbrev d : ℕ
    d = depth_of (get_or st.records i 0)

    abbrev s : ℕ
    s = span d (drop (i + 1) (live st))

    pub block-after : i < block_end st i
    block-after = omega arith

    pub block_last : block_end st i ≤ count st
    block_last = omega (arith, h, span-le d (drop (i + 1) (live st)), length-drop (i + 1) (live st), live-length st l)

    parts-of : Deeper d (take s (drop (suc i) (rows_of st))) × NotDeeper d (drop s (drop (suc i) (rows_of st)))
    parts-of =
        subst (λ (rs : List Row). Deeper d (take s rs) × NotDeeper d (drop s rs)) (rows_drop (live st) st.bytes (i + 1) ∙ ap (λ (k : ℕ). drop k (rows_of st)) (add-one i))
        (span-parts d (drop (i + 1) (live st)) (drop (name_total (take (i + 1) (live st))) st.bytes))

    behind_is : drop s (drop (suc i) (rows_of st)) ≡ drop (block_end st i) (rows_of st)
    behind_is = drop-drop s (suc i) (rows_of st) ∙ ap (λ (k : ℕ). drop (k + s) (rows_of st)) (sym (add-one i))

    size_is : s ≡ block_end st i - suc i
    size_is = omega arith

    pub rest_is : drop (suc i) (rows_of st) ≡ block st i (block_end st i) ++ drop (block_end st i) (rows_of st)
    rest_is = sym (take-append-drop s (drop (suc i) (rows_of st))) ∙ (λ j. take (size_is j) (drop (suc i) (rows_of st)) ++ behind_is j)

    pub block-beyond : NotDeeper d (drop (block_end st i) (rows_of st))
    block-beyond = subst (NotDeeper d) behind_is parts-of.1

    module _ (a : 0 < i) where
      first-is : take i (rows_of st) ≡ row_at st 0 ∷ front st i
      first-is =
          let e : i ≡ suc (i - 1) = omega arith in
          ap (λ (k : ℕ). take k (rows_of st)) e ∙ ap (take (suc (i - 1))) (parts_at st l 0 (omega (arith, h)))

      path_is : path_of (path_after [] (front st i)) (row_at st i) ≡ path_at st i
      unfolding path_after
      path_is =
          sym (path_next st l i h
          ∙ ap (λ (rs : List Row). path_of (path_after [] rs) (row_at st i)) first-is
          ∙ ap (λ (p : Path). path_of (path_after p (front st i)) (row_at st i)) (root-path st l (omega (arith, h))))

      pub block-parts : Block st i (block_end st i)
      block-parts =
          record {
            first = first-is;
            parts = parts_at st l i h ∙ (λ j. first-is j ++ (row_at st i ∷ rest_is j));
            path = path_is;
            deeper = subst (λ (k : ℕ). Deeper d (take k (drop (suc i) (rows_of st)))) size_is parts-of.0;
            beyond = block-beyond;
          }

  -- all lie below the root
  pub root-block : 0 < count st → block_end st 0 ≡ count st
  root-block h = go (drop (block_end st 0) (rows_of st)) refl
    where
      k : ℕ
      k = span (depth_of (get_or st.records 0 0)) (drop 1 (live st))

      next : block_end st 0 ≡ suc k
      next = omega arith

      go : (rs : List Row) → drop (block_end st 0) (rows_of st) ≡ rs → block_end st 0 ≡ count st
      go [] e = omega (arith, ap length e, length-drop (block_end st 0) (rows_of st), rows_long st l, block_last 0 h)
      go (r ∷ rs) e =
          let low : r.depth ≤ depth_of (get_or st.records 0 0) = subst (NotDeeper (depth_of (get_or st.records 0 0))) e (block-beyond 0 h) in
          let p = path_at st k in
          let b = dir_after (kind_at st) false (take (suc k) (rows_of st)) in
          let w = subst (λ (us : List Row). T (walk_ok (kind_at st) (length st.heads) p b us)) (ap (λ (m : ℕ). drop m (rows_of st)) (sym next) ∙ e) (walk-behind st l k) in
          let high = above_root p b r.name r.depth (walk-rises (kind_at st) (length st.heads) p b r rs w) in
          absurd (omega (arith, low, high, root-depth st l h))

-- what `block_end` answers of the records that there are
pub block-live : (st : Store) {ws : List ℕ} {i e : ℕ} → ws ≡ live st → i < count st → e ≡ i + 1 + span (depth_of (get_or ws i 0)) (drop (i + 1) ws)
    → e ≡ block_end st i
block-live st {i = i} r h z =
    z ∙ ap (λ us. i + 1 + span (depth_of (get_or us i 0)) (drop (i + 1) us)) r ∙ ap (λ w. i + 1 + span (depth_of w) (drop (i + 1) (live st))) (get_or-take (count st) st.records i 0 h)
