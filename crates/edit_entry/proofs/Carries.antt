-- A store in which an entry has been moved obeys the rules and spells the state with the entry taken out and put down: slots, files
-- and numbers are as they were.
-- Assumes nothing.
use mathlib.Core.List.{List, [], ◌∷◌, ◌++◌}
use mathlib.Core.Option.{none, some}
use mathlib.Core.Path.{◌≡◌, refl, sym, ap, ◌∙◌, subst}
use Prim.Native.Nat.{ℕ, ◌*◌, ◌<◌}
use native.Mathlib.Omega.{arith}
use lib.Dec.{T}
use lib.ListN.{length, get_or}
use Rattle.text.specs.Utf8.{Bytes}
use Rattle.path.specs.Path.{Name}
use Rattle.model.specs.Tree.{Path, File, Entries, Open, look, file_of, open_of, behind, cut, under, graft}
use Rattle.model.specs.Prog.{take, give, apply}
use Rattle.model.specs.Calls.States.{State, world_of, moved}
use Rattle.model.specs.Rules.{name_ok}
use Rattle.model.proofs.Entries.{apart-cut, apart_under, apart-give}
use Rattle.layout.specs.Fields.{kind_of}
use Rattle.layout.specs.Rows.{Row, path_of, tree_from}
use Rattle.layout.specs.Store.{Store, most, room, slots_for, rows_of, meta_at, bytes_at, kind_at, node_at, state}
use Rattle.layout.specs.Lawful.{rows_ok, uses, slot_ok, Lawful}
use Rattle.layout.specs.Alike.{Spells}
use Rattle.layout.proofs.Roots.{all_slots}
use Rattle.layout.proofs.Tables.{file-found, file_there}
use Rattle.layout.proofs.Walks.{SlotsIn}
use Rattle.layout.specs.Parts.{path_after, Between, Deeper, NotDeeper}
use Rattle.layout.proofs.Edited.Carrying.{rows-carried, uses-carried, look-carried}
use Rattle.layout.proofs.Edited.Numbers.{held_kept, opens_kept}
use Rattle.layout.proofs.Edited.Parted.{rows-slots, tree-slots}
use Rattle.layout.proofs.Edited.Shapes.{lawful-shape}
use Rattle.layout.proofs.Edited.Telling.{same_alike}
use Rattle.edit_entry.specs.Carriage.{Carried}
use Rattle.edit_entry.proofs.Adding.{node_same, slot_same}

module _ (st st' : Store) (root : Row) (a : List Row) (row : Row) (x b a₂ b₂ : List Row) (q : Path) (y : Name) (l : Lawful st)
    (g : Carried st st' root a row x b a₂ b₂ q y) (dx : Deeper row.depth x) (nb : NotDeeper row.depth b) (p : Between (kind_at st) a₂ b₂ q y)
    (m : T (name_ok y)) (z : a₂ ≡ [] → ⊥) where
  abbrev n : ℕ
  n = length st.heads

  rows : T (rows_ok (kind_at st) n (root ∷ (a ++ (row ∷ (x ++ b)))))
  rows = subst (λ (r : List Row). T (rows_ok (kind_at st) n r)) g.old l.entries

  -- ---- nothing but the entries has changed

  same_kind : (k : ℕ) → kind_at st k ≡ kind_at st' k
  same_kind k = ap (λ (h : List ℕ). kind_of (get_or h k 0)) (sym g.heads)

  same_bytes : (k : ℕ) → bytes_at st' k ≡ bytes_at st k
  same_bytes k = ap (λ (c : List Bytes). get_or c k []) g.texts

  same_meta : (k : ℕ) → meta_at st' k ≡ meta_at st k
  same_meta k = rw (g.heads, g.times) refl

  same_node : (k : ℕ) → node_at st' k ≡ node_at st k
  same_node k = node_same k (sym (same_kind k)) (same_meta k) (same_bytes k)

  same-file : (i : ℕ) (f : File) → file_of (state st').files i ≡ some f → file_of (state st).files i ≡ some f
  same-file i f e =
      let h = file-found st' (length st'.heads) 0 i f e in
      file_there st n 0 i (omega arith) (omega (arith, ap length g.heads)) (same_kind i ∙ h.kind)
      ∙ ap some (rw (← same_meta i, ← same_bytes i) (sym h.file))

  slots-ok : (k : ℕ) → k < n → T (slot_ok st' k)
  slots-ok k h =
      let u : uses k (rows_of st') ≡ uses k (rows_of st) = ap (uses k) g.new ∙ (uses-carried (kind_at st) n root a row x b rows dx nb a₂ b₂ g.parts q y p k ∙ ap (uses k) (sym g.old)) in
      subst T (sym (slot_same (sym (same_kind k)) (ap (λ (hs : List ℕ). get_or hs k 0) g.heads) u (held_kept st st' g.words 32 0 k) (same_bytes k))) (l.slots k h)

  slot-low : row.slot < n
  slot-low = go a (all_slots (kind_at st) n (root ∷ (a ++ (row ∷ (x ++ b)))) rows).1
    where
      go : (c : List Row) → SlotsIn n (c ++ (row ∷ (x ++ b))) → row.slot < n
      go [] h = h.0
      go (r ∷ c) h = go c h.1

  pub carried-lawful : Lawful st'
  carried-lawful =
      let old = l.exact in
      record {
        exact =
            record {
              words = ap length g.words ∙ old.words;
              records = g.records ∙ (old.records ∙ sym same_most);
              heads = ap length g.heads ∙ (old.heads ∙ ap (λ (w : List ℕ). get_or w 101 0) (sym g.words));
              times = ap length g.times ∙ (old.times ∙ ap (λ (k : ℕ). 4 * slots_for k) (sym same_most));
              paths = ap length g.paths ∙ old.paths;
              bytes = g.bytes ∙ (old.bytes ∙ sym same_room);
            };
        entry_limit = rw same_most l.entry_limit;
        byte_limit = rw same_room l.byte_limit;
        counted = rw g.words l.counted;
        slotted = rw g.words l.slotted;
        space = rw (same_room, g.heads) g.fits;
        entries =
            subst (λ (k : ℕ). T (rows_ok (kind_at st') k (rows_of st'))) (sym (ap length g.heads))
            (subst (λ (r : List Row). T (rows_ok (kind_at st') n r)) (sym g.new)
            (subst T (rows-slots (kind_at st) (kind_at st') n _ (λ k _. same_kind k)) (rows-carried (kind_at st) n root a row x b rows dx nb a₂ b₂ g.parts q y p z slot-low m)));
        slots = λ k h. slots-ok k (subst (λ (i : ℕ). k < i) (ap length g.heads) h);
        numbers = λ i h. rw (g.words, g.paths, g.heads) (l.numbers i h);
        here = rw (g.words, g.paths) l.here;
        umask = rw g.words l.umask;
      }
    where
      same_most : most st' ≡ most st
      same_most = ap (λ (w : List ℕ). get_or w 0 0) g.words

      same_room : room st' ≡ room st
      same_room = ap (λ (w : List ℕ). get_or w 1 0) g.words

  -- ---- the state

  abbrev from : Path
  from = path_of (path_after [] a) row

  abbrev to : Path
  to = q ++ (y ∷ [])

  abbrev was : State
  was = state st

  look_same : ((o r : Path) → behind to o ≡ some r → look (cut from was.tree) o ≡ none) → (o : Path)
      → look (state st').tree o ≡ look (graft to (under from was.tree) ++ cut to (cut from was.tree)) o
  look_same clear o =
      ap (λ (r : List Row). look (tree_from (node_at st') [] r) o) g.new
      ∙ (ap (λ (e : Entries). look e o) (tree-slots (node_at st') (node_at st) [] _ (λ k _. same_node k))
      ∙ (look-carried (kind_at st) n root a row x b rows dx nb a₂ b₂ g.parts q y p (node_at st) (λ i r e. ap (λ (s : List Row). look (cut from (tree_from (node_at st) [] s)) i) (sym g.old) ∙ clear i r e) o
      ∙ ap (λ (s : List Row). look (graft to (under from (tree_from (node_at st) [] s)) ++ cut to (cut from (tree_from (node_at st) [] s))) o) (sym g.old)))

  pub carried-spells : ((o r : Path) → behind to o ≡ some r → look (cut from was.tree) o ≡ none) → Spells st' (moved from to was)
  unfolding apply
  carried-spells clear =
      record {
        lawful = carried-lawful;
        alike =
            same_alike (state st') was (apply (give to) (apply (take from) (world_of was))) (lawful-shape st' carried-lawful)
            (look_same clear)
            (λ i. ap (λ (o : List Open). open_of o i) (opens_kept st st' g.words g.paths))
            (λ i f _ e. same-file i f e)
            (rw (g.words, g.paths) refl)
            (rw g.words refl)
            (apart-give to (under from was.tree) (cut from was.tree) (apart_under from was.tree (lawful-shape st l).paths) (apart-cut from was.tree (lawful-shape st l).paths))
            (rw g.words refl)
            (rw g.words refl);
      }
