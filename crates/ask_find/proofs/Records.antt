-- The records of a lawful store: the entries are those before record i, its own and those behind it, which are a walk behind its
-- path. So the path of a record has as many names as the record says, a look finds its slot there, and whatever a look finds is the
-- entry of a record.
-- Assumes nothing.
use mathlib.Core.Bool.{false}
use mathlib.Core.List.{List, [], ◌∷◌, ◌++◌}
use mathlib.Core.Logic.{inl, inr}
use mathlib.Core.Option.{some}
use mathlib.Core.Path.{◌≡◌, sym, ap, ◌∙◌, subst}
use Prim.Native.Nat.{ℕ, zero, suc, ◌+◌, ◌-◌, ◌≤◌, ◌<◌}
use native.Mathlib.Numerals.{add-one}
use native.Mathlib.Omega.{arith}
use lib.Dec.{T, eqb}
use lib.ListN.{length, take, drop, get_or, take-append-drop}
use lib.Seq.{drop-drop, take-add, take-take}
use Rattle.path.proofs.Laws.{and_left}
use Rattle.model.specs.Tree.{Path, Node, file, look}
use Rattle.layout.specs.Fields.{depth_of}
use Rattle.layout.specs.Rows.{Row, name_total, rows, path_by, path_of, tree_from}
use Rattle.layout.specs.Store.{Store, count, live, rows_of, kind_at, node_at, state}
use Rattle.layout.specs.Lawful.{walk_ok, root_ok, rows_ok, Lawful}
use Rattle.layout.specs.Alike.{HasSlot}
use Rattle.layout.proofs.Named.{length-rows, rows_drop}
use Rattle.layout.proofs.Rising.{Rises, follows_by, next_length}
use Rattle.layout.proofs.Walks.{At, look_at, at_slot, at_rises}
use Rattle.layout.proofs.Roots.{all_slots, all-look}
use Rattle.layout.proofs.Used.{live-length}
use Rattle.layout.specs.Parts.{path_after, dir_after}
use Rattle.layout.proofs.Edited.Parted.{walk-second, after_both, dir_both}
use Rattle.layout.proofs.Edited.Inserting.{root_is}
use Rattle.layout.proofs.Edited.Removing.{walk-follows}
use Rattle.layout.proofs.Edited.Blocked.{at_seam}
use Rattle.ask_find.specs.Paths.{slot_at, row_at, path_at}
use Rattle.ask_find.proofs.Reading.{from_at}

-- ---- rows

module _ (kind : ℕ → ℕ) (n : ℕ) where
  -- what stands behind entry i is a walk
  walk_from : (rs : List Row) → T (rows_ok kind n rs) → (i : ℕ) → T (walk_ok kind n (path_after [] (take (suc i) rs)) (dir_after kind false (take (suc i) rs)) (drop (suc i) rs))
  unfolding walk_ok
  walk_from [] t i = tt
  walk_from (r ∷ rs) t i = walk-second kind n r (take i rs) (drop i rs) (subst (λ (s : List Row). T (rows_ok kind n (r ∷ s))) (sym (take-append-drop i rs)) t)

-- the place of an entry
pub record Index (p : Path) (rs : List Row) (q : Path) (r : Row) : Type 0 where
  pub place : ℕ
  pub within : place < length rs
  pub path : path_after p (take (suc place) rs) ≡ q
  pub row : (rest : List Row) × (drop place rs ≡ r ∷ rest)

index_of : (p : Path) (rs : List Row) (q : Path) (r : Row) → At p rs q r → Index p rs q r
unfolding path_after
index_of p [] q r a = absurd a
index_of p (s ∷ rs) q r (inl e) = record { place = 0; within = omega arith; path = e.0; row = (rs, ap (λ (x : Row). x ∷ rs) e.1) }
index_of p (s ∷ rs) q r (inr a) =
    let i = index_of (path_of p s) rs q r a in
    record { place = suc i.place; within = omega (arith, i.within); path = i.path; row = i.row }

first_of : (a b : Row) (u v : List Row) → a ∷ u ≡ b ∷ v → a ≡ b
first_of a b u v e = cc

-- ---- records

module _ (st : Store) (l : Lawful st) where
  abbrev kinds : ℕ → ℕ
  kinds = kind_at st

  abbrev slots : ℕ
  slots = length st.heads

  pub rows_long : length (rows_of st) ≡ count st
  rows_long = length-rows (live st) st.bytes ∙ live-length st l

  -- the names of the first are read from the records
  pub total-live : (i : ℕ) → i ≤ count st → name_total (take i (live st)) ≡ name_total (take i st.records)
  total-live i h = ap name_total (take-take i (count st) st.records h)

  -- the walk behind record i
  pub walk-behind : (i : ℕ) → T (walk_ok kinds slots (path_at st i) (dir_after kinds false (take (suc i) (rows_of st))) (drop (suc i) (rows_of st)))
  walk-behind i = walk_from kinds slots (rows_of st) l.entries i

  module _ (i : ℕ) (h : i < count st) where
    pub rest_at : drop i (rows_of st) ≡ row_at st i ∷ drop (suc i) (rows_of st)
    unfolding rows
    rest_at =
        let e = sym (rows_drop (live st) st.bytes i) ∙ ap (λ (ws : List ℕ). rows ws (drop (name_total (take i (live st))) st.bytes)) (from_at st.records (count st) i (omega (arith, l.exact.records, l.counted)) h) in
        let o : suc i ≡ i + 1 = omega arith in
        let f = ap (λ (k : ℕ). drop k (rows_of st)) o ∙ sym (drop-drop 1 i (rows_of st)) ∙ ap (drop 1) e in
        e ∙ ap (λ (rs : List Row). row_at st i ∷ rs) (sym f)

    pub parts_at : rows_of st ≡ take i (rows_of st) ++ (row_at st i ∷ drop (suc i) (rows_of st))
    parts_at = sym (take-append-drop i (rows_of st)) ∙ ap (λ (rs : List Row). take i (rows_of st) ++ rs) rest_at

    upto : take (suc i) (rows_of st) ≡ take i (rows_of st) ++ (row_at st i ∷ [])
    upto = ap (λ (k : ℕ). take k (rows_of st)) (sym (add-one i)) ∙ take-add i 1 (rows_of st) ∙ ap (λ (rs : List Row). take i (rows_of st) ++ take 1 rs) rest_at

    pub path_next : path_at st i ≡ path_of (path_after [] (take i (rows_of st))) (row_at st i)
    unfolding path_after
    path_next = ap (path_after []) upto ∙ after_both [] (take i (rows_of st)) (row_at st i ∷ [])

    pub dir-next : dir_after kinds false (take (suc i) (rows_of st)) ≡ eqb (kinds (slot_at st i)) 1
    unfolding dir_after
    dir-next = ap (dir_after kinds false) upto ∙ dir_both kinds false (take i (rows_of st)) (row_at st i ∷ [])

    -- ---- the path of a record

    pub path-at : At [] (rows_of st) (path_at st i) (row_at st i)
    path-at =
        subst (λ (q : Path). At [] (rows_of st) q (row_at st i)) (sym path_next)
        (subst (λ (rs : List Row). At [] rs (path_of (path_after [] (take i (rows_of st))) (row_at st i)) (row_at st i)) (sym parts_at)
        (at_seam [] (take i (rows_of st)) (row_at st i) (drop (suc i) (rows_of st))))

    pub slot-low : slot_at st i < slots
    slot-low = at_slot slots [] (rows_of st) (all_slots kinds slots (rows_of st) l.entries) (path_at st i) (row_at st i) path-at

    look-with : (f : ℕ → Node) → look (tree_from f [] (rows_of st)) (path_at st i) ≡ some (f (slot_at st i))
    look-with f = all-look kinds slots f (rows_of st) l.entries (path_at st i) (row_at st i) path-at

    pub path-look : look (state st).tree (path_at st i) ≡ some (node_at st (slot_at st i))
    path-look = look-with (node_at st)

    pub path-slot : HasSlot st (path_at st i) (slot_at st i)
    path-slot = look-with file

  -- the root is the first record
  pub root-depth : 0 < count st → depth_of (get_or st.records 0 0) ≡ 0
  unfolding rows_ok
  root-depth h = (root_is kinds slots (row_at st 0) (and_left (root_ok kinds slots (row_at st 0)) _ (subst (λ (rs : List Row). T (rows_ok kinds slots rs)) (parts_at 0 h) l.entries))).0

  pub root-path : 0 < count st → path_of [] (row_at st 0) ≡ []
  root-path h = ap (λ (k : ℕ). path_by k [] (row_at st 0).name) (root-depth h)

  -- it has as many names as the record says
  pub path-depth : (i : ℕ) → i < count st → length (path_at st i) ≡ depth_of (get_or st.records i 0)
  unfolding path_after
  path-depth zero h = ap length (path_next zero h ∙ root-path h) ∙ sym (root-depth h)
  path-depth (suc i) h =
      let p = path_at st i in
      let d = dir_after kinds false (take (suc i) (rows_of st)) in
      let r = row_at st (suc i) in
      ap length (path_next (suc i) h)
      ∙ next_length p d r.name r.depth
      (follows_by p d r.depth r.name
      (walk-follows kinds slots p d r (drop (suc (suc i)) (rows_of st)) (subst (λ (rs : List Row). T (walk_ok kinds slots p d rs)) (rest_at (suc i) h) (walk-behind i))))

  -- it is before that of a later record
  pub path-rises : (i j : ℕ) → i < j → j < count st → Rises (path_at st i) (path_at st j)
  path-rises i j a h =
      let p = path_at st i in
      let d = dir_after kinds false (take (suc i) (rows_of st)) in
      let m = j - suc i in
      let e : j ≡ suc i + m = omega arith in
      let c = take m (drop (suc i) (rows_of st)) in
      let r = row_at st j in
      let b = drop (suc j) (rows_of st) in
      let s : drop (suc i) (rows_of st) ≡ c ++ (r ∷ b) =
      sym (take-append-drop m (drop (suc i) (rows_of st))) ∙ ap (λ (rs : List Row). c ++ rs) (drop-drop m (suc i) (rows_of st) ∙ ap (λ (k : ℕ). drop k (rows_of st)) (sym e) ∙ rest_at j h) in
      let f : path_after [] (take j (rows_of st)) ≡ path_after p c =
      ap (λ (k : ℕ). path_after [] (take k (rows_of st))) e ∙ ap (path_after []) (take-add (suc i) m (rows_of st)) ∙ after_both [] (take (suc i) (rows_of st)) c in
      subst (Rises p) (sym (path_next j h ∙ ap (λ (o : Path). path_of o r) f))
      (at_rises kinds slots p d (c ++ (r ∷ b)) (subst (λ (rs : List Row). T (walk_ok kinds slots p d rs)) s (walk-behind i)) (path_of (path_after p c) r) r (at_seam p c r b))

  -- what a look finds is the entry of a record
  pub record Holder (q : Path) (m : Node) : Type 0 where
    pub index : ℕ
    pub within : index < count st
    pub path : path_at st index ≡ q
    pub node : node_at st (slot_at st index) ≡ m

  pub look-path : (q : Path) (m : Node) → look (state st).tree q ≡ some m → Holder q m
  look-path q m e =
      let y = look_at (node_at st) [] (rows_of st) q m e in
      let i = index_of [] (rows_of st) q y.0 y.1 in
      let g : i.place < count st = omega (arith, i.within, rows_long) in
      let z = first_of (row_at st i.place) y.0 (drop (suc i.place) (rows_of st)) i.row.0 (sym (rest_at i.place g) ∙ i.row.1) in
      record { index = i.place; within = g; path = i.path; node = ap (λ (r : Row). node_at st r.slot) z ∙ y.2 }
