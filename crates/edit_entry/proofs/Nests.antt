-- A store in which an entry stands below a new directory in its old place obeys the rules, and spells the state with the entry taken out,
-- the directory made and the entry put down in it.
-- Assumes nothing.
use mathlib.Core.Bool.{false}
use mathlib.Core.List.{List, [], ◌∷◌, ◌++◌}
use mathlib.Core.Option.{some}
use mathlib.Core.Path.{◌≡◌, refl, sym, ap, ◌∙◌}
use Prim.Native.Nat.{ℕ}
use native.Mathlib.Omega.{arith}
use lib.Dec.{T}
use lib.ListN.{length}
use Rattle.path.specs.Path.{Name}
use Rattle.model.specs.Tree.{Path, Time, File, dir, Open, look, file_of, open_of, put, cut, under, graft}
use Rattle.model.specs.Prog.{make, take, give, apply}
use Rattle.model.specs.Calls.States.{State, world_of, nested}
use Rattle.model.specs.Rules.{name_ok}
use Rattle.model.proofs.Entries.{apart-give, apart_under, apart-cut, apart-put}
use Rattle.layout.specs.Fields.{kind_of, mode_of}
use Rattle.layout.specs.Rows.{Row, path_of, tree_from}
use Rattle.layout.specs.Store.{Store, kind_at, node_at, state}
use Rattle.layout.specs.Lawful.{rows_ok, slot_by, Lawful}
use Rattle.layout.specs.Alike.{Spells}
use Rattle.layout.specs.Parts.{path_after, Deeper, NotDeeper}
use Rattle.layout.proofs.Slotted.{dir_at}
use Rattle.layout.proofs.Tables.{file_at, file-found, file_there}
use Rattle.layout.proofs.Edited.Parted.{tree-slots}
use Rattle.layout.proofs.Edited.Nesting.{lowered, rows-lowered, look-lowered}
use Rattle.layout.proofs.Edited.Shapes.{lawful-shape}
use Rattle.layout.proofs.Edited.Telling.{same_alike}
use Rattle.edit_entry.specs.Growth.{new_meta}
use Rattle.edit_entry.proofs.Adding.{Added, other_head, other_bytes, other_meta, new-head, new-meta, same_node, rows_still, added-lawful}
use Rattle.edit_entry.proofs.Counted.{same_most, same_room, same_mask, same_here, same_opens}

module _ (st st' : Store) (root : Row) (a : List Row) (row : Row) (x b : List Row) (y : Name) (s h : ℕ) (t : Time) (l : Lawful st)
    (g : Added st st' (root ∷ (a ++ (row ∷ (x ++ b)))) (lowered root a row x b s y) s (length y) h [] t) (dx : Deeper row.depth x) (nb : NotDeeper row.depth b)
    (m : T (name_ok y)) (is_dir : kind_of h ≡ 1) (o : T (slot_by (kind_of h) h 1 false [])) where
  abbrev old : List Row
  old = root ∷ (a ++ (row ∷ (x ++ b)))

  abbrev n : ℕ
  n = length st.heads

  abbrev was : State
  was = state st

  abbrev from : Path
  from = path_of (path_after [] a) row

  rows : T (rows_ok (kind_at st') n old)
  rows = rows_still l g

  new-kind : kind_at st' s ≡ 1
  new-kind = ap kind_of (new-head l g) ∙ is_dir

  after : Lawful st'
  after = added-lawful l g (rows-lowered (kind_at st') n root a row x b rows dx nb s new-kind y g.low m) o

  same_tree : tree_from (node_at st') [] old ≡ was.tree
  same_tree =
      tree-slots (node_at st') (node_at st) [] old (same_node l g) ∙ ap (tree_from (node_at st) []) (sym g.old)

  new-node : node_at st' s ≡ dir (new_meta (mode_of h) t)
  new-node = dir_at st' s new-kind ∙ ap dir (new-meta l g)

  abbrev to : Path
  to = from ++ (y ∷ [])

  look_is : (p : Path) → look (state st').tree p ≡ look (graft to (under from was.tree) ++ cut to (put from (dir (new_meta (mode_of h) t)) (cut from was.tree))) p
  look_is p =
      ap (λ (r : List Row). look (tree_from (node_at st') [] r) p) g.new
      ∙ (look-lowered (kind_at st') n root a row x b rows dx nb s new-kind y (node_at st') p
      ∙ (λ i. look (graft to (under from (same_tree i)) ++ cut to (put from (new-node i) (cut from (same_tree i)))) p))

  same-file : (i : ℕ) (f : File) → file_of (state st').files i ≡ some f → file_of was.files i ≡ some f
  same-file i f k =
      let y₀ = file-found st' (length st'.heads) 0 i f k in
      let e : i ≡ s → ⊥ = λ d. let z : kind_at st' i ≡ 1 = ap (kind_at st') d ∙ new-kind in omega (arith, z, y₀.kind) in
      let w : file_at st' i ≡ file_at st i = rw (other_meta l g i e, other_bytes l g i e) refl in
      file_there st n 0 i (omega arith) (omega (arith, g.counted.slots)) (sym (ap kind_of (other_head l g i e)) ∙ y₀.kind)
      ∙ ap some (sym w ∙ sym y₀.file)

  pub nested-spells : Spells st' (nested from y (new_meta (mode_of h) t) was)
  unfolding apply
  nested-spells =
      record {
        lawful = after;
        alike =
            same_alike (state st') was (apply (give to) (apply (make from (new_meta (mode_of h) t)) (apply (take from) (world_of was)))) (lawful-shape st' after)
            look_is
            (λ i. ap (λ (q : List Open). open_of q i) (same_opens g.counted))
            (λ i f _ k. same-file i f k)
            (same_here g.counted)
            (same_mask g.counted)
            (apart-give to (under from was.tree) (put from (dir (new_meta (mode_of h) t)) (cut from was.tree)) (apart_under from was.tree (lawful-shape st l).paths)
            (apart-put from (dir (new_meta (mode_of h) t)) (cut from was.tree) (apart-cut from was.tree (lawful-shape st l).paths)))
            (same_most g.counted)
            (same_room g.counted);
      }
