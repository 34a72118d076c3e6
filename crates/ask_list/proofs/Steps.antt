-- The listing of the directory at record i is what the records behind it show, up to the first that is not deeper; record by record.
-- Assumes nothing.
use mathlib.Core.Bool.{Bool, true, false, cond}
use mathlib.Core.List.{List, [], ◌∷◌, ◌++◌}
use mathlib.Core.Option.{some}
use mathlib.Core.Path.{◌≡◌, refl, sym, ap, ◌∙◌, subst}
use Prim.Native.Nat.{ℕ, zero, suc, ◌+◌, ◌≤◌, ◌<◌}
use native.Mathlib.Numerals.{add-one}
use native.Mathlib.Omega.{arith}
use lib.Dec.{T, leb, eqb}
use lib.ListN.{length, take, drop, get_or, drop_of_length-le}
use borrow.Author.Tests.{eqb-true, le-leb, lt-leb, eq-eqb, ne_eqb}
use Rattle.model.specs.Tree.{Path, dir, file, link, keep_if, in_order, under}
use Rattle.model.specs.Prog.{Stat, a_dir, aFile, a_link, stat_of, children, listing}
use Rattle.model.specs.Calls.States.{world_of}
use Rattle.model.specs.Operations.Shows.{names_text}
use Rattle.layout.specs.Fields.{depth_of}
use Rattle.layout.specs.Rows.{Row, path_of, tree_from}
use Rattle.layout.specs.Store.{Store, count, rows_of, meta_at, bytes_at, kind_at, node_at, state}
use Rattle.layout.specs.Lawful.{walk_ok, rows_ok, Lawful}
use Rattle.layout.proofs.Entered.{has_file}
use Rattle.layout.proofs.Roots.{all_slots}
use Rattle.layout.proofs.Walks.{SlotsIn}
use Rattle.layout.specs.Parts.{path_after, dir_after}
use Rattle.ask_find.specs.Paths.{slot_at, row_at, path_at}
use Rattle.ask_find.proofs.Records.{rows_long, walk-behind, rest_at, parts_at, path_next, path-depth}
use Rattle.ask_list.specs.Listed.{listing_at, entries_in, shown, row_names, listed_from}
use Rattle.ask_list.proofs.Children.{children_at}
use Rattle.ask_list.proofs.Ordered.{in_order_lem}

-- ---- slots of some of the entries

drop-slots : (n k : ℕ) (rs : List Row) → SlotsIn n rs → SlotsIn n (drop k rs)
drop-slots n zero rs h = h
drop-slots n (suc k) [] h = tt
drop-slots n (suc k) (r ∷ rs) h = drop-slots n k rs h.1

entries-slots : (n d : ℕ) (rs : List Row) → SlotsIn n rs → SlotsIn n (entries_in d rs)
unfolding entries_in
entries-slots n d [] h = tt
entries-slots n d (r ∷ rs) h = one (leb r.depth d) (eqb r.depth (suc d)) (entries-slots n d rs h.1)
  where
    one : (a b : Bool) → SlotsIn n (entries_in d rs) → SlotsIn n (cond a [] (keep_if b r (entries_in d rs)))
    one true b ih = tt
    one false true ih = (h.0, ih)
    one false false ih = ih

module _ (st : Store) (l : Lawful st) where
  -- ---- the whole

  pub listing-at : (i : ℕ) → i < count st → listing_at st i ≡ listed_from st (depth_of (get_or st.records i 0)) (i + 1)
  unfolding listing
  listing-at i h =
      let n = length st.heads in
      let world = world_of (state st) in
      let q = path_at st i in
      let o = path_of (path_after [] (take i (rows_of st))) (row_at st i) in
      let b = drop (suc i) (rows_of st) in
      let d = dir_after (kind_at st) false (take (suc i) (rows_of st)) in
      let w : T (walk_ok (kind_at st) n q d b) = walk-behind st l i in
      let e : o ≡ q = sym (path_next st l i h) in
      let c = children_at (kind_at st) n (node_at st) world (take i (rows_of st)) (row_at st i) b d
      (subst (λ (rs : List Row). T (rows_ok (kind_at st) n rs)) (parts_at st l i h) l.entries)
      (subst (λ (p : Path). T (walk_ok (kind_at st) n p d b)) (sym e) w) in
      let g : children world (under q (state st).tree) ≡ shown world (node_at st) (entries_in (length q) b) =
      ap (λ (rs : List Row). children world (under q (tree_from (node_at st) [] rs))) (parts_at st l i h)
      ∙ subst (λ (p : Path). children world (under p (tree_from (node_at st) [] (take i (rows_of st) ++ (row_at st i ∷ b)))) ≡ shown world (node_at st) (entries_in (length p) b)) e c in
      ap in_order g
      ∙ (in_order_lem (kind_at st) n world (node_at st) q d b w
      ∙ (λ j. shown world (node_at st) (entries_in (path-depth st l i h j) (drop (sym (add-one i) j) (rows_of st)))))

  -- ---- metadata

  -- every slot has some to show
  pub stat-known : (k : ℕ) → k < length st.heads → (s : Stat) × (stat_of (world_of (state st)) (node_at st k) ≡ some s)
  unfolding stat_of
  stat-known k h = one (eqb (kind_at st k) 1)
    where
      two : (b : Bool) → eqb (kind_at st k) 2 ≡ b → (s : Stat) × (stat_of (world_of (state st)) (cond b (file k) (link (meta_at st k) (bytes_at st k))) ≡ some s)
      two true e = (record { kind = aFile; size = length (bytes_at st k); meta = meta_at st k }, rw (has_file st l k h (eqb-true (kind_at st k) 2 e)))
      two false e = (record { kind = a_link; size = 0; meta = meta_at st k }, refl)

      one : (b : Bool) → (s : Stat) × (stat_of (world_of (state st)) (cond b (dir (meta_at st k)) (cond (eqb (kind_at st k) 2) (file k) (link (meta_at st k) (bytes_at st k)))) ≡ some s)
      one true = (record { kind = a_dir; size = 0; meta = meta_at st k }, refl)
      one false = two (eqb (kind_at st k) 2) refl

  -- ---- a record

  module _ (j : ℕ) (h : j < count st) where
    abbrev word : ℕ
    word = get_or st.records j 0

    -- the records from it on
    rest : drop j (rows_of st) ≡ row_at st j ∷ drop (j + 1) (rows_of st)
    rest = rest_at st l j h ∙ ap (λ (k : ℕ). row_at st j ∷ drop k (rows_of st)) (sym (add-one j))

    module _ (d : ℕ) where
      -- one that is not deeper than the directory ends the listing
      pub listed-out : depth_of word ≤ d → listed_from st d j ≡ []
      unfolding entries_in shown
      listed-out k = rw (rest, le-leb (depth_of word) d k)

      -- one that is deeper than an entry is passed
      pub listed-past : d < depth_of word → (depth_of word ≡ suc d → ⊥) → listed_from st d j ≡ listed_from st d (j + 1)
      unfolding entries_in
      listed-past k m = rw (rest, lt-leb (depth_of word) d k, ne_eqb (depth_of word) (suc d) m)

      -- an entry is shown by its name and what its slot has to show
      pub listed-on : depth_of word ≡ suc d → (s : Stat) → stat_of (world_of (state st)) (node_at st (slot_at st j)) ≡ some s
          → listed_from st d j ≡ ((row_at st j).name, s) ∷ listed_from st d (j + 1)
      unfolding entries_in shown
      listed-on k s e = rw (rest, lt-leb (depth_of word) d (omega (arith, k)), eq-eqb (depth_of word) (suc d) k, e)

  -- ---- the text

  shown-names : (rs : List Row) → SlotsIn (length st.heads) rs → names_text (shown (world_of (state st)) (node_at st) rs) ≡ row_names rs
  unfolding shown names_text row_names
  shown-names [] h = refl
  shown-names (r ∷ rs) h =
      let e : stat_of (world_of (state st)) (node_at st r.slot) ≡ some (stat-known r.slot h.0).0 = (stat-known r.slot h.0).1 in
      rw (e, shown-names rs h.1)

  shown-long : (rs : List Row) → SlotsIn (length st.heads) rs → length (shown (world_of (state st)) (node_at st) rs) ≡ length rs
  unfolding shown
  shown-long [] h = refl
  shown-long (r ∷ rs) h =
      let e : stat_of (world_of (state st)) (node_at st r.slot) ≡ some (stat-known r.slot h.0).0 = (stat-known r.slot h.0).1 in
      rw e (ap suc (shown-long rs h.1))

  pub count_at : (i : ℕ) → i < count st → length (listing_at st i) ≡ length (entries_in (depth_of (get_or st.records i 0)) (drop (i + 1) (rows_of st)))
  count_at i h =
      let n = length st.heads in
      let rs = drop (i + 1) (rows_of st) in
      ap length (listing-at i h)
      ∙ shown-long (entries_in (depth_of (get_or st.records i 0)) rs) (entries-slots n (depth_of (get_or st.records i 0)) rs (drop-slots n (i + 1) (rows_of st) (all_slots (kind_at st) n (rows_of st) l.entries)))

  pub text_at : (i : ℕ) → i < count st → names_text (listing_at st i) ≡ row_names (entries_in (depth_of (get_or st.records i 0)) (drop (i + 1) (rows_of st)))
  text_at i h =
      let n = length st.heads in
      let rs = drop (i + 1) (rows_of st) in
      ap names_text (listing-at i h)
      ∙ shown-names (entries_in (depth_of (get_or st.records i 0)) rs) (entries-slots n (depth_of (get_or st.records i 0)) rs (drop-slots n (i + 1) (rows_of st) (all_slots (kind_at st) n (rows_of st) l.entries)))

  pub listed-end : (j d : ℕ) → count st ≤ j → listed_from st d j ≡ []
  unfolding entries_in shown
  listed-end j d h = rw (drop_of_length-le (rows_of st) {i = j} (omega (arith, h, rows_long st l)))
