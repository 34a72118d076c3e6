-- The entries and bytes that a state read back uses are those that the store's words count: each row is an entry, each slot of a
-- link has one row, and the bytes of a slot are as many as its word says. So the tests of 15 and 16 may be made on the words.
-- Assumes nothing.
use mathlib.Core.Bool.{Bool, true, false, cond}
use mathlib.Core.List.{List, [], ◌∷◌}
use mathlib.Core.Path.{◌≡◌, refl, sym, ap, ◌∙◌}
use Prim.Native.Nat.{ℕ, zero, suc, ◌+◌, ◌*◌, ◌≤◌, ◌<◌}
use native.Mathlib.Omega.{arith}
use lib.Dec.{T, eqb}
use lib.ListN.{length, take, get_or}
use lib.Seq.{length-take-le}
use Rattle.path.specs.Path.{Name}
use Rattle.model.specs.Tree.{Path, Node, keep_if, name_length, target_length, names_and_targets, contents_length}
use Rattle.model.specs.Calls.States.{bytes_used, entries_used}
use Rattle.model.proofs.Demand.Spacing.{last_name_lem}
use Rattle.layout.specs.Fields.{len_of}
use Rattle.layout.specs.Rows.{Row, name_total, path_by, path_of, tree_from}
use Rattle.layout.specs.Slots.{total}
use Rattle.layout.specs.Store.{Store, count, live, rows_of, bytes_at, kind_at, node_at, files_from, state}
use Rattle.layout.specs.Lawful.{walk_ok, rows_ok, uses, slot_ok, Lawful}
use Rattle.layout.proofs.Named.{length-rows, name_sum, name-sum}
use Rattle.layout.proofs.Rising.{Follows, aside, below}
use Rattle.layout.proofs.Walks.{stands-ok, first_ok, rest_ok}
use Rattle.layout.proofs.Roots.{root_of, all_slots}
use Rattle.layout.proofs.Tables.{file_at}
use Rattle.layout.proofs.Slotted.{SlotOf, free, directory, named, removed, target, slot-of, dir_at, file_at_lem, link_at, bytes-length}
use Rattle.layout.proofs.Sums.{sum_from, sum_same, sum_both, sum_rows_lem, sum_rows}

-- ---- entries

tree-length : (f : ℕ → Node) (p : Path) (rs : List Row) → length (tree_from f p rs) ≡ length rs
unfolding tree_from
tree-length f p [] = refl
tree-length f p (r ∷ rs) = ap suc (tree-length f (path_of p r) rs)

pub live-length : (st : Store) → Lawful st → length (live st) ≡ count st
live-length st l = length-take-le (count st) st.records (omega (arith, l.exact.records, l.counted))

pub entries-used : (st : Store) → Lawful st → entries_used (state st) ≡ count st
entries-used st l = tree-length (node_at st) [] (rows_of st) ∙ length-rows (live st) st.bytes ∙ live-length st l

-- ---- names

name_next : (p : Path) (d : Bool) (x : Name) (k : ℕ) → Follows p d x k → name_length (path_by k p x) ≡ length x
unfolding name_length
name_next p d x k (aside j h t) = last_name_lem (take j p) x []
name_next p d x k (below e) = last_name_lem (take (length p) p) x []

-- ---- targets and contents

module _ (kind : ℕ → ℕ) (n : ℕ) (f : ℕ → Node) where
  walk-names : (p : Path) (d : Bool) (rs : List Row) → T (walk_ok kind n p d rs) → names_and_targets (tree_from f p rs) ≡ name_sum rs + sum_rows (λ k. target_length (f k)) rs
  unfolding names_and_targets tree_from name_sum sum_rows
  walk-names p d [] t = refl
  walk-names p d (r ∷ rs) t =
      omega (
        arith,
        name_next p d r.name r.depth (stands-ok kind n p d r (first_ok kind n p d r rs t)),
        walk-names (path_of p r) (eqb (kind r.slot) 1) rs (rest_ok kind n p d r rs t),
      )

  all-names : (rs : List Row) → T (rows_ok kind n rs) → names_and_targets (tree_from f [] rs) ≡ name_sum rs + sum_rows (λ k. target_length (f k)) rs
  unfolding rows_ok names_and_targets tree_from name_sum sum_rows name_length
  all-names [] t = refl
  all-names (r ∷ rs) t =
      let o = root_of kind n r rs t in
      rw o.path (omega (arith, walk-names [] true rs o.rest, o.nameless))

-- a file's part of the contents
abbrev file_bytes : Store → ℕ → ℕ
file_bytes st k = cond (eqb (kind_at st k) 2) (length (bytes_at st k)) 0

contents-sum : (st : Store) (n k : ℕ) → contents_length (files_from st n k) ≡ sum_from (file_bytes st) n k
unfolding contents_length files_from sum_from
contents-sum st zero k = refl
contents-sum st (suc n) k = go (eqb (kind_at st k) 2) (contents-sum st n (suc k))
  where
    go : (b : Bool) → contents_length (files_from st n (suc k)) ≡ sum_from (file_bytes st) n (suc k)
        → contents_length (keep_if b (k, file_at st k) (files_from st n (suc k))) ≡ cond b (length (bytes_at st k)) 0 + sum_from (file_bytes st) n (suc k)
    go true ih = ap (λ (m : ℕ). length (bytes_at st k) + m) ih
    go false ih = omega (arith, ih)

-- the words' sum as a sum over the slots
sum-shift : (g : ℕ → ℕ) (n k : ℕ) → sum_from g n (suc k) ≡ sum_from (λ i. g (suc i)) n k
unfolding sum_from
sum-shift g zero k = refl
sum-shift g (suc n) k = ap (λ (m : ℕ). g (suc k) + m) (sum-shift g n (suc k))

pub total-sum : (hs : List ℕ) → total hs ≡ sum_from (λ k. len_of (get_or hs k 0)) (length hs) 0
unfolding total sum_from
total-sum [] = refl
total-sum (h ∷ hs) = ap (λ (m : ℕ). len_of h + m) (total-sum hs ∙ sym (sum-shift (λ k. len_of (get_or (h ∷ hs) k 0)) (length hs) 0))

-- one slot: its target as often as rows have it, and its file
slot-bytes : (st : Store) (k : ℕ) → SlotOf st k → length (bytes_at st k) ≡ len_of (get_or st.heads k 0)
    → uses k (rows_of st) * target_length (node_at st k) + file_bytes st k ≡ len_of (get_or st.heads k 0)
unfolding target_length
slot-bytes st k (free e h u x) l =
    rw (u, e) (omega (arith, ap len_of h))
slot-bytes st k (directory e h u x) l = rw (dir_at st k e, u, e) (omega arith)
slot-bytes st k (named e u) l = rw (file_at_lem st k e, u, e) (omega arith)
slot-bytes st k (removed e u x) l = rw (file_at_lem st k e, u, e) (omega arith)
slot-bytes st k (target e t u x) l = rw (link_at st k e, u, e) (omega arith)

-- of any store whose entries and slots are as the rules say, and whose bytes are there
pub bytes_counted : (st : Store) → name_total (live st) ≤ length st.bytes → total st.heads ≤ length st.bytes
    → T (rows_ok (kind_at st) (length st.heads) (rows_of st)) → ((k : ℕ) → k < length st.heads → T (slot_ok st k))
    → bytes_used (state st) ≡ name_total (live st) + total st.heads
bytes_counted st names slots entries each =
    let n = length st.heads in
    let g : ℕ → ℕ = λ k. target_length (node_at st k) in
    let rs = rows_of st in
    omega (
      arith,
      all-names (kind_at st) n (node_at st) rs entries,
      name-sum (live st) st.bytes names,
      contents-sum st n 0,
      sum_rows_lem g n rs (all_slots (kind_at st) n rs entries),
      sum_both (λ i. uses i rs * g i) (file_bytes st) n 0,
      total-sum st.heads,
      sum_same (λ i. uses i rs * g i + file_bytes st i) (λ k. len_of (get_or st.heads k 0)) n 0
          (λ i a b. slot-bytes st i (slot-of st i (each i (omega arith))) (bytes-length st i slots (omega arith))),
    )

pub bytes-used : (st : Store) → Lawful st → bytes_used (state st) ≡ name_total (live st) + total st.heads
bytes-used st l =
    bytes_counted st (omega (arith, l.space, l.exact.bytes)) (omega (arith, l.space, l.exact.bytes)) l.entries l.slots
