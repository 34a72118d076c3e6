-- A store with one entry more spells the state with one entry more: a directory, a link, or a file under a number of its own.
-- Assumes nothing.
use mathlib.Core.Bool.{Bool, false, cond, ◌||◌}
use mathlib.Core.List.{List, [], ◌∷◌, ◌++◌}
use mathlib.Core.Logic.{◌⊎◌, inl, inr}
use mathlib.Core.Option.{Option, none, some}
use mathlib.Core.Path.{◌≡◌, refl, sym, ap, ◌∙◌, subst}
use Prim.Native.Nat.{ℕ}
use native.Mathlib.Decide.{ℕ_discrete}
use native.Mathlib.Omega.{arith}
use lib.Dec.{T, eqb}
use lib.ListN.{length}
use borrow.Author.Tests.{eq-eqb, ne_eqb}
use Rattle.text.specs.Utf8.{Bytes}
use Rattle.model.specs.Tree.{Path, Time, File, Node, dir, file, link, Entries, Open, or_else, look, file_of, open_of, put, less, new_id}
use Rattle.model.specs.Prog.{World, make, create, symlink, apply}
use Rattle.model.specs.Calls.States.{State, world_of, is_named, is_held, edited}
use Rattle.model.specs.Rules.{Once, new_path}
use Rattle.model.proofs.Demand.Contents.{or_elim, named_at, held_by}
use Rattle.model.proofs.Entries.{clash, some_inj, path-dec, look-here, look_past, less_none, apart-put}
use Rattle.model.proofs.Demand.Over.{file-inj}
use Rattle.model.specs.Shaped.{HasFile, Shaped}
use Rattle.model.proofs.Sound.Files.{new-free}
use Rattle.layout.specs.Fields.{kind_of, mode_of}
use Rattle.layout.specs.Rows.{Row, tree_from}
use Rattle.layout.specs.Store.{Store, kind_at, node_at, state}
use Rattle.layout.specs.Lawful.{rows_ok, slot_by, Lawful}
use Rattle.layout.specs.Alike.{Spells}
use Rattle.layout.proofs.Slotted.{dir_at, file_at_lem, link_at}
use Rattle.layout.proofs.Tables.{file_at, file-found, file_there}
use Rattle.layout.specs.Parts.{path_after}
use Rattle.layout.proofs.Edited.Inserting.{look-new}
use Rattle.layout.proofs.Edited.Parted.{Has, has_first, tree_both, tree-slots, uses_both}
use Rattle.layout.proofs.Edited.Shapes.{lawful-shape}
use Rattle.layout.proofs.Edited.Telling.{renode, reopen, matches-alike, same_alike}
use Rattle.edit_entry.specs.Growth.{new_meta, Grown}
use Rattle.edit_entry.proofs.Counted.{same_most, same_room, same_mask, same_opens, same_here}
use Rattle.edit_entry.proofs.Growing.{other_head, other_bytes, other_meta, new-head, new-bytes, new-meta, same_node, grown-lawful}

module _ {st st' : Store} {a b : List Row} {row : Row} {h : ℕ} {c : Bytes} {t : Time} (l : Lawful st) (g : Grown st st' a b row h c t)
    (at : Path) (tr : (f : ℕ → Node) → tree_from f [] (a ++ (row ∷ b)) ≡ tree_from f [] a ++ ((at, f row.slot) ∷ tree_from f (path_after [] a) b))
    (rs : T (rows_ok (kind_at st') (length st.heads) (a ++ (row ∷ b)))) (o : T (slot_by (kind_of h) h 1 false c)) (v : look (state st).tree at ≡ none) where
  abbrev s : ℕ
  s = row.slot

  abbrev was : State
  was = state st

  after : Lawful st'
  after = grown-lawful l g rs o

  shape : Shaped (state st')
  shape = lawful-shape st' after

  -- ---- the tree

  has_second : (k : ℕ) → Has b k → Has (a ++ b) k
  has_second k u = omega (arith, uses_both k a b)

  old-tree : was.tree ≡ tree_from (node_at st) [] a ++ tree_from (node_at st) (path_after [] a) b
  old-tree = ap (tree_from (node_at st) []) g.old ∙ tree_both (node_at st) [] a b

  new-tree : (state st').tree ≡ tree_from (node_at st) [] a ++ ((at, node_at st' s) ∷ tree_from (node_at st) (path_after [] a) b)
  new-tree =
      ap (tree_from (node_at st') []) g.new
      ∙ (tr (node_at st')
      ∙ (ap (λ (e : Entries). e ++ ((at, node_at st' s) ∷ tree_from (node_at st') (path_after [] a) b)) (tree-slots (node_at st') (node_at st) [] a (λ k u. same_node l g k (has_first a b k u)))
      ∙ ap (λ (e : Entries). tree_from (node_at st) [] a ++ ((at, node_at st' s) ∷ e)) (tree-slots (node_at st') (node_at st) (path_after [] a) b (λ k u. same_node l g k (has_second k u)))))

  look_is : (n : Node) → node_at st' s ≡ n → (r : Path) → look (state st').tree r ≡ look (put at n was.tree) r
  unfolding put
  look_is n e r =
      ap (λ (y : Entries). look y r) new-tree
      ∙ (look-new (tree_from (node_at st) [] a) (tree_from (node_at st) (path_after [] a) b) at (node_at st' s) r (ap (λ (y : Entries). look y at) (sym old-tree) ∙ v)
      ∙ (ap (λ (y : Entries). look ((at, node_at st' s) ∷ y) r) (sym old-tree ∙ sym (less_none at was.tree v)) ∙ ap (λ (y : Node). look ((at, y) ∷ less at was.tree) r) e))

  -- ---- files and numbers

  same-file : (i : ℕ) → (i ≡ s → ⊥) → file_at st' i ≡ file_at st i
  same-file i e = rw (other_meta l g i e, other_bytes l g i e) refl

  old-file : (i : ℕ) (f : File) → (i ≡ s → ⊥) → file_of (state st').files i ≡ some f → file_of was.files i ≡ some f
  old-file i f e k =
      let y = file-found st' (length st'.heads) 0 i f k in
      file_there st (length st.heads) 0 i (omega arith) (omega (arith, g.counted.slots)) (sym (ap kind_of (other_head l g i e)) ∙ y.kind)
      ∙ ap some (sym (same-file i e) ∙ sym y.file)

  same_open : (n : ℕ) → open_of (state st').opens n ≡ open_of was.opens n
  same_open n = ap (λ (y : List Open). open_of y n) (same_opens g.counted)

  new-kind : kind_at st' s ≡ kind_of h
  new-kind = ap kind_of (new-head l g)

  -- ---- a directory or a link

  -- a slot that is no file
  no_file : (kind_of h ≡ 2 → ⊥) → (i : ℕ) (f : File) → file_of (state st').files i ≡ some f → file_of was.files i ≡ some f
  no_file w i f k =
      old-file i f
      (λ e. w (sym new-kind ∙ (ap (kind_at st') (sym e) ∙ (file-found st' (length st'.heads) 0 i f k).kind)))
      k

  once : (n : Node) → Once new_path (put at n was.tree)
  once n = apart-put at n was.tree (lawful-shape st l).paths

  pub grown-dir : kind_of h ≡ 1 → Spells st' (edited (make at (new_meta (mode_of h) t)) was)
  unfolding apply
  grown-dir e =
      record {
        lawful = after;
        alike =
            same_alike (state st') was (apply (make at (new_meta (mode_of h) t)) (world_of was)) shape
            (look_is (dir (new_meta (mode_of h) t)) (dir_at st' s (new-kind ∙ e) ∙ ap dir (new-meta l g)))
            same_open
            (λ i f _ k. no_file (λ d. omega (arith, d, e)) i f k)
            (same_here g.counted)
            (same_mask g.counted)
            (once (dir (new_meta (mode_of h) t)))
            (same_most g.counted)
            (same_room g.counted);
      }

  pub grown-link : kind_of h ≡ 3 → Spells st' (edited (symlink at (new_meta (mode_of h) t) c) was)
  unfolding apply
  grown-link e =
      record {
        lawful = after;
        alike =
            same_alike (state st') was (apply (symlink at (new_meta (mode_of h) t) c) (world_of was)) shape
            (look_is (link (new_meta (mode_of h) t) c) (link_at st' s (new-kind ∙ e) ∙ rw (new-meta l g, new-bytes l g) refl))
            same_open
            (λ i f _ k. no_file (λ d. omega (arith, d, e)) i f k)
            (same_here g.counted)
            (same_mask g.counted)
            (once (link (new_meta (mode_of h) t) c))
            (same_most g.counted)
            (same_room g.counted);
      }

  -- ---- a file

  -- the model's number of the new file
  abbrev fresh : ℕ
  fresh = new_id was.files

  abbrev made : File
  made = record { meta = new_meta (mode_of h) t; bytes = c }

  -- its slot is the store's number
  abbrev renumber : ℕ → ℕ
  renumber i = cond (eqb i fresh) s i

  renew : (i : ℕ) → i ≡ fresh → renumber i ≡ s
  renew i e = ap (λ (y : Bool). cond y s i) (eq-eqb i fresh e)

  restay : (i : ℕ) → (i ≡ fresh → ⊥) → renumber i ≡ i
  restay i e = ap (λ (y : Bool). cond y s i) (ne_eqb i fresh e)

  -- a file that was there has another number
  not_fresh : (i : ℕ) → HasFile was.files i → i ≡ fresh → ⊥
  not_fresh i f e = clash (file_of was.files i) f.0 (ap (file_of was.files) e ∙ new-free was.files) f.1

  not_slot : (i : ℕ) → HasFile was.files i → i ≡ s → ⊥
  not_slot i f e =
      let y = file-found st (length st.heads) 0 i f.0 f.1 in
      let d : kind_at st i ≡ 0 = ap (kind_at st) e ∙ ap kind_of g.free in
      omega (arith, y.kind, d)

  -- what an entry or a number of the old state has
  node_stays : (r : Path) (n : Option Node) → look was.tree r ≡ n → n ≡ renode renumber n
  node_stays r none e = refl
  node_stays r (some (dir k)) e = refl
  node_stays r (some (link k d)) e = refl
  node_stays r (some (file i)) e = ap (λ (y : ℕ). some (file y)) (sym (restay i (not_fresh i ((lawful-shape st l).nodes r i e))))

  open_stays : (n : ℕ) (d : Option Open) → open_of was.opens n ≡ d → d ≡ reopen renumber d
  open_stays n none e = refl
  open_stays n (some d) e =
      ap (λ (y : ℕ). some (record { num = d.num; id = y; pos = d.pos; kept = d.kept })) (sym (restay d.id (not_fresh d.id ((lawful-shape st l).stands n d e))))

  abbrev then : World
  then = apply (create at made) (world_of was)

  file-look : kind_of h ≡ 2 → (r : Path) → look (state st').tree r ≡ renode renumber (look (put at (file fresh) was.tree) r)
  unfolding put
  file-look e r = look_is (file s) (file_at_lem st' s (new-kind ∙ e)) r ∙ go (path-dec at r)
    where
      go : Dec (at ≡ r) → look ((at, file s) ∷ less at was.tree) r ≡ renode renumber (look ((at, file fresh) ∷ less at was.tree) r)
      go (yes y) =
          look-here (at, file s) (less at was.tree) r y
          ∙ (ap (λ (i : ℕ). some (file i)) (sym (renew fresh refl)) ∙ ap (renode renumber) (sym (look-here (at, file fresh) (less at was.tree) r y)))
      go (no y) =
          look_past (at, file s) (less at was.tree) r y
          ∙ (ap (λ (w : Entries). look w r) (less_none at was.tree v)
          ∙ (node_stays r (look was.tree r) refl
          ∙ (ap (λ (w : Entries). renode renumber (look w r)) (sym (less_none at was.tree v)) ∙ ap (renode renumber) (sym (look_past (at, file fresh) (less at was.tree) r y)))))

  -- a file that lives, other than the new one, was there
  lived : (i : ℕ) → (i ≡ fresh → ⊥) → T (is_named (put at (file fresh) was.tree) i || is_held was.opens i) → HasFile was.files i
  unfolding put
  lived i d y = go (or_elim (is_named (put at (file fresh) was.tree) i) (is_held was.opens i) y)
    where
      go : T (is_named (put at (file fresh) was.tree) i) ⊎ T (is_held was.opens i) → HasFile was.files i
      go (inr w) =
          let k = held_by was.opens (lawful-shape st l).numbers i w in
          subst (HasFile was.files) k.3 ((lawful-shape st l).stands k.0 k.1 k.2)
      go (inl w) =
          let k = named_at (put at (file fresh) was.tree) (once (file fresh)) i w in
          at_old k.0 k.1 (path-dec at k.0)
        where
          at_old : (r : Path) → look (put at (file fresh) was.tree) r ≡ some (file i) → Dec (at ≡ r) → HasFile was.files i
          at_old r e (yes f) = absurd (d (sym (file-inj (some_inj (sym (look-here (at, file fresh) (less at was.tree) r f) ∙ e)))))
          at_old r e (no f) =
              (lawful-shape st l).nodes r i
              (ap (λ (w : Entries). look w r) (sym (less_none at was.tree v)) ∙ (sym (look_past (at, file fresh) (less at was.tree) r f) ∙ e))

  file-kept : kind_of h ≡ 2 → (i : ℕ) (f : File) → T (is_named (put at (file fresh) was.tree) i || is_held was.opens i)
      → file_of (state st').files (renumber i) ≡ some f → file_of ((fresh, made) ∷ was.files) i ≡ some f
  unfolding file_of
  file-kept e i f y k = go (ℕ_discrete i fresh)
    where
      go : Dec (i ≡ fresh) → or_else (eqb fresh i) made (file_of was.files i) ≡ some f
      go (yes d) =
          let w = file-found st' (length st'.heads) 0 s f (ap (file_of (state st').files) (sym (renew i d)) ∙ k) in
          ap (λ (r : Bool). or_else r made (file_of was.files i)) (eq-eqb fresh i (sym d))
          ∙ ap some (rw (← new-meta l g, ← new-bytes l g) (sym w.file))
      go (no d) =
          ap (λ (r : Bool). or_else r made (file_of was.files i)) (ne_eqb fresh i (λ w. d (sym w)))
          ∙ old-file i f (not_slot i (lived i d y)) (ap (file_of (state st').files) (sym (restay i d)) ∙ k)

  one_number : (i j : ℕ) → T (is_named (put at (file fresh) was.tree) i || is_held was.opens i) → T (is_named (put at (file fresh) was.tree) j || is_held was.opens j)
      → renumber i ≡ renumber j → i ≡ j
  one_number i j y w e = go (ℕ_discrete i fresh) (ℕ_discrete j fresh)
    where
      go : Dec (i ≡ fresh) → Dec (j ≡ fresh) → i ≡ j
      go (yes d) (yes f) = d ∙ sym f
      go (yes d) (no f) = absurd (not_slot j (lived j f w) (sym (restay j f) ∙ (sym e ∙ renew i d)))
      go (no d) (yes f) = absurd (not_slot i (lived i d y) (sym (restay i d) ∙ (e ∙ renew j f)))
      go (no d) (no f) = sym (restay i d) ∙ (e ∙ restay j f)

  pub grown-file : kind_of h ≡ 2 → Spells st' (edited (create at made) was)
  unfolding apply
  grown-file e =
      record {
        lawful = after;
        alike =
            matches-alike renumber (state st') was (apply (create at made) (world_of was)) shape
            (record {
              entries = file-look e;
              opens = λ n. same_open n ∙ open_stays n (open_of was.opens n) refl;
              files = file-kept e;
              one = one_number;
              current = same_here g.counted;
              umask = same_mask g.counted;
              paths = once (file fresh);
            })
            (same_most g.counted)
            (same_room g.counted);
      }
