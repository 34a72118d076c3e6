-- A store whose slots are as they were, but for the metadata and the bytes of one: it obeys the rules, since these ask of a slot
-- its kind, and of what is changed only a directory's length and a link's target, which no change touches; and the one entry, or the
-- one file, that has the slot is changed, since no other row has it.
-- Assumes nothing.
use mathlib.Core.Bool.{Bool, ◌&&◌, ◌||◌, not}
use mathlib.Core.List.{List, [], ◌∷◌}
use mathlib.Core.Logic.{inl, inr}
use mathlib.Core.Option.{some}
use mathlib.Core.Path.{◌≡◌, refl, sym, ap, ◌∙◌, subst}
use Prim.Native.Nat.{ℕ, zero, suc, ◌+◌, ◌-◌, ◌≤◌, ◌<◌}
use native.Mathlib.Decide.{ℕ_discrete}
use native.Mathlib.Omega.{arith}
use lib.Dec.{T, eqb, leb}
use lib.IntN.{ℤ}
use lib.ListN.{length, get_or}
use Rattle.text.specs.Utf8.{Bytes}
use Rattle.model.specs.Tree.{Path, File, Node, dir, file, link, Open, look, file_of, open_of, put, Change, change_meta, change_file, set_file}
use Rattle.model.specs.Prog.{World, change, with_tree, with_files, change_at, change_by, apply}
use Rattle.model.specs.Calls.States.{world_of, state_of, edited}
use Rattle.model.specs.Rules.{target_ok}
use Rattle.model.proofs.Entries.{path-dec, look-here, look_past, put-here, put_past, apart-put}
use Rattle.model.proofs.Demand.Over.{file-inj}
use Rattle.model.proofs.Demand.OverEdits.{set_here, set_past}
use Rattle.layout.specs.Fields.{len_of, kind_of}
use Rattle.layout.specs.Rows.{Row, name_total, path_of, tree_from}
use Rattle.layout.specs.Slots.{total}
use Rattle.layout.specs.Store.{Store, room, holder, kept_length, live, rows_of, meta_at, bytes_at, kind_at, node_by, node_at, state}
use Rattle.layout.specs.Lawful.{rows_ok, uses, held_from, slot_by, slot_ok, kept_ok, Lawful}
use Rattle.layout.specs.Alike.{Spells}
use Rattle.layout.proofs.Walks.{At, look_at, at_uses, at_once}
use Rattle.layout.proofs.Roots.{all-look}
use Rattle.layout.proofs.Tables.{file_at, file-found, open_at, open_there}
use Rattle.layout.proofs.Slotted.{SlotOf, free, directory, named, removed, target, dir_at, file_at_lem, link_at}
use Rattle.layout.proofs.Entered.{slot, has_file, stood}
use Rattle.layout.proofs.Edited.Numbers.{held_kept, opens_kept}
use Rattle.layout.proofs.Edited.Telling.{same_alike}
use Rattle.layout.proofs.Edited.Shapes.{lawful-shape}
use Rattle.edit_slot.specs.Changes.{Changes}

-- ---- one slot's rules

slot_kept : (kind h h' n : ℕ) (held : Bool) (s s' : Bytes) → (kind ≡ 0 → ⊥) → ((kind ≡ 2 → ⊥) → (len_of h' ≡ len_of h) × (s' ≡ s))
    → T (slot_by kind h n held s) → T (slot_by kind h' n held s')
slot_kept zero h h' n held s s' a b t = absurd (a refl)
slot_kept (suc zero) h h' n held s s' a b t =
    subst (λ (m : ℕ). T (eqb m 0 && (eqb n 1 && not held))) (sym (b (λ e. omega arith)).0) t
slot_kept (suc (suc zero)) h h' n held s s' a b t = t
slot_kept (suc (suc (suc zero))) h h' n held s s' a b t =
    subst (λ (x : Bytes). T (target_ok x && (eqb n 1 && not held))) (sym (b (λ e. omega arith)).1) t
slot_kept (suc (suc (suc (suc k)))) h h' n held s s' a b t = absurd t

-- ---- the entries of a walk that hold the same

look-alike : (f g : ℕ → Node) (p : Path) (rs : List Row) (q : Path) → ((r : Row) → At p rs q r → f r.slot ≡ g r.slot)
    → look (tree_from f p rs) q ≡ look (tree_from g p rs) q
unfolding tree_from
look-alike f g p [] q h = refl
look-alike f g p (s ∷ rs) q h = go (path-dec (path_of p s) q) (look-alike f g (path_of p s) rs q)
  where
    go : Dec (path_of p s ≡ q) → (((r : Row) → At (path_of p s) rs q r → f r.slot ≡ g r.slot) → look (tree_from f (path_of p s) rs) q ≡ look (tree_from g (path_of p s) rs) q)
        → look ((path_of p s, f s.slot) ∷ tree_from f (path_of p s) rs) q ≡ look ((path_of p s, g s.slot) ∷ tree_from g (path_of p s) rs) q
    go (yes y) ih =
        look-here (path_of p s, f s.slot) (tree_from f (path_of p s) rs) q y ∙ ap some (h s (inl (y, refl)))
        ∙ sym (look-here (path_of p s, g s.slot) (tree_from g (path_of p s) rs) q y)
    go (no y) ih =
        look_past (path_of p s, f s.slot) (tree_from f (path_of p s) rs) q y ∙ ih (λ r a. h r (inr a))
        ∙ sym (look_past (path_of p s, g s.slot) (tree_from g (path_of p s) rs) q y)

-- the slices with other words, times and bytes of the slots
abbrev pub slotted : Store → List ℕ → List ℤ → Bytes → Store
slotted st hs ts bs = record { words = st.words; records = st.records; heads = hs; times = ts; paths = st.paths; bytes = bs }

module _ (c : Change) (st : Store) (hs : List ℕ) (ts : List ℤ) (bs : Bytes) (k : ℕ) where
  abbrev u : Store
  u = slotted st hs ts bs

  -- what is as it was, and what is not
  pub record Altered : Type 0 where
    pub heads : length hs ≡ length st.heads
    pub times : length ts ≡ length st.times
    pub bytes : length bs ≡ length st.bytes
    pub rows : rows_of u ≡ rows_of st
    pub space : name_total (live st) + total hs ≤ room st
    pub word : (i : ℕ) → (i ≡ k → ⊥) → get_or hs i 0 ≡ get_or st.heads i 0
    pub others : (i : ℕ) → (i ≡ k → ⊥) → file_at u i ≡ file_at st i
    pub kind : kind_at u k ≡ kind_at st k
    pub self : file_at u k ≡ change_file c (file_at st k)
    pub plain : (kind_at st k ≡ 2 → ⊥) → (len_of (get_or hs k 0) ≡ len_of (get_or st.heads k 0)) × (bytes_at u k ≡ bytes_at st k)

  module _ (l : Lawful st) (hk : k < length st.heads) (x : Altered) where
    kinds : (i : ℕ) → kind_at u i ≡ kind_at st i
    kinds i = go (ℕ_discrete i k)
      where
        go : Dec (i ≡ k) → kind_at u i ≡ kind_at st i
        go (yes e) = ap (kind_at u) e ∙ x.kind ∙ ap (kind_at st) (sym e)
        go (no e) = ap kind_of (x.word i e)

    -- ---- the rules

    self-ok : (kind_at st k ≡ 0 → ⊥) → T (slot_ok u k)
    self-ok used =
        let a : T (slot_by (kind_at st k) (get_or hs k 0) (uses k (rows_of st)) (held_from st 32 0 k) (bytes_at u k)) =
        slot_kept (kind_at st k) (get_or st.heads k 0) (get_or hs k 0) (uses k (rows_of st)) (held_from st 32 0 k) (bytes_at st k) (bytes_at u k) used x.plain (l.slots k hk) in
        let e : slot_ok u k ≡ slot_by (kind_at st k) (get_or hs k 0) (uses k (rows_of st)) (held_from st 32 0 k) (bytes_at u k) =
        λ j. slot_by (x.kind j) (get_or hs k 0) (uses k (x.rows j)) (held_kept st u refl 32 0 k j) (bytes_at u k) in
        subst T (sym e) a

    other-ok : (i : ℕ) → i < length st.heads → (i ≡ k → ⊥) → T (slot_ok u i)
    other-ok i h n =
        let e : slot_ok u i ≡ slot_ok st i = λ j. slot_by (kinds i j) (x.word i n j) (uses i (x.rows j)) (held_kept st u refl 32 0 i j) (x.others i n j).bytes in
        subst T (sym e) (l.slots i h)

    lawful : (kind_at st k ≡ 0 → ⊥) → Lawful u
    lawful used =
        record {
          exact = record { words = l.exact.words; records = l.exact.records; heads = x.heads ∙ l.exact.heads; times = x.times ∙ l.exact.times; paths = l.exact.paths; bytes = x.bytes ∙ l.exact.bytes };
          entry_limit = l.entry_limit;
          byte_limit = l.byte_limit;
          counted = l.counted;
          slotted = l.slotted;
          space = x.space;
          entries =
              (let e : rows_ok (kind_at u) (length hs) (rows_of u) ≡ rows_ok (kind_at st) (length st.heads) (rows_of st) = λ j. rows_ok (λ i. kinds i j) (x.heads j) (x.rows j) in
              subst T (sym e) l.entries);
          slots = λ i h. two i (subst (λ (n : ℕ). i < n) x.heads h) (ℕ_discrete i k);
          numbers = λ n h. subst (λ (m : ℕ). T (eqb (holder st n) 0 || (leb (holder st n) m && kept_ok st (suc n) (kept_length st n)))) (sym x.heads) (l.numbers n h);
          here = l.here;
          umask = l.umask;
        }
      where
        two : (i : ℕ) → i < length st.heads → Dec (i ≡ k) → T (slot_ok u i)
        two i h (yes e) = subst (λ (j : ℕ). T (slot_ok u j)) (sym e) (self-ok used)
        two i h (no e) = other-ok i h e

    -- ---- a file

    node-other : (i : ℕ) → (i ≡ k → ⊥) → node_at u i ≡ node_at st i
    node-other i n = λ j. node_by (kinds i j) i (x.others i n j).meta (x.others i n j).bytes

    -- the entries, where what a row holds is shown to be the same
    looks : (q : Path) → ((r : Row) → At [] (rows_of st) q r → node_at u r.slot ≡ node_at st r.slot) → look (state u).tree q ≡ look (state st).tree q
    looks q h = ap (λ (rs : List Row). look (tree_from (node_at u) [] rs) q) x.rows ∙ look-alike (node_at u) (node_at st) [] (rows_of st) q h

    file-here : (i : ℕ) (f : File) → file_of (state u).files i ≡ some f → (f ≡ file_at u i) × (i < length st.heads) × (kind_at st i ≡ 2)
    file-here i f e =
        let h = file-found u (length hs) 0 i f e in
        (h.file, omega (arith, x.heads), sym (kinds i) ∙ h.kind)

    set-files : (i : ℕ) (f : File) → file_of (state u).files i ≡ some f → file_of (set_file k c (state st).files) i ≡ some f
    set-files i f e = two (ℕ_discrete i k)
      where
        h : (f ≡ file_at u i) × (i < length st.heads) × (kind_at st i ≡ 2)
        h = file-here i f e

        two : Dec (i ≡ k) → file_of (set_file k c (state st).files) i ≡ some f
        two (yes d) =
            ap (file_of (set_file k c (state st).files)) d
            ∙ set_here k c (state st).files (file_at st k) (has_file st l k hk (ap (kind_at st) (sym d) ∙ h.2))
            ∙ ap some (sym x.self ∙ ap (file_at u) (sym d) ∙ sym h.0)
        two (no d) =
            set_past k i c (state st).files (λ z. d (sym z)) ∙ has_file st l i h.1 h.2 ∙ ap some (sym (x.others i d) ∙ sym h.0)

    file-same : kind_at st k ≡ 2 → (i : ℕ) → node_at u i ≡ node_at st i
    file-same e i = go (ℕ_discrete i k)
      where
        go : Dec (i ≡ k) → node_at u i ≡ node_at st i
        go (yes d) = ap (node_at u) d ∙ file_at_lem u k (x.kind ∙ e) ∙ sym (file_at_lem st k e) ∙ ap (node_at st) (sym d)
        go (no d) = node-other i d

    by-file : kind_at st k ≡ 2 → Spells u (state_of (state st) (with_files (world_of (state st)) (set_file k c (state st).files)))
    by-file e =
        let h = lawful (λ z. omega arith) in
        record {
          lawful = h;
          alike =
              same_alike (state u) (state st) (with_files (world_of (state st)) (set_file k c (state st).files)) (lawful-shape u h)
              (λ q. looks q (λ r _. file-same e r.slot))
              (λ n. ap (λ (os : List Open). open_of os n) (opens_kept st u refl refl))
              (λ i f _ z. set-files i f z)
              refl refl (lawful-shape st l).paths refl refl;
        }

    -- ---- a directory or a link

    module _ (p : Path) (r : Row) (a : At [] (rows_of st) p r) (s : r.slot ≡ k) where
      put-looks : uses k (rows_of st) ≤ 1 → (q : Path) → look (state u).tree q ≡ look (put p (node_at u k) (state st).tree) q
      put-looks once q = go (path-dec p q)
        where
          go : Dec (p ≡ q) → look (state u).tree q ≡ look (put p (node_at u k) (state st).tree) q
          go (yes e) =
              ap (look (state u).tree) (sym e) ∙ ap (λ (rs : List Row). look (tree_from (node_at u) [] rs) p) x.rows
              ∙ all-look (kind_at st) (length st.heads) (node_at u) (rows_of st) l.entries p r a ∙ ap (λ (i : ℕ). some (node_at u i)) s
              ∙ sym (put-here p (node_at u k) (state st).tree) ∙ ap (look (put p (node_at u k) (state st).tree)) e
          go (no e) =
              looks q (λ o b. node-other o.slot (λ d. e (at_once [] (rows_of st) k once p q r o a b s d)))
              ∙ sym (put_past p q (node_at u k) (state st).tree e)

      by-put : (kind_at st k ≡ 0 → ⊥) → (kind_at st k ≡ 2 → ⊥) → uses k (rows_of st) ≡ 1 → (n : Node) → node_at u k ≡ n
          → Spells u (state_of (state st) (with_tree (world_of (state st)) (put p n (state st).tree)))
      by-put z e once n g =
          let h = lawful z in
          record {
            lawful = h;
            alike =
                same_alike (state u) (state st) (with_tree (world_of (state st)) (put p n (state st).tree)) (lawful-shape u h)
                (λ q. put-looks (omega arith) q ∙ ap (λ (m : Node). look (put p m (state st).tree) q) g)
                (λ i. ap (λ (os : List Open). open_of os i) (opens_kept st u refl refl))
                (λ i f _ w. let y = file-here i f w in has_file st l i y.1 y.2 ∙ ap some (sym (x.others i (λ d. e (ap (kind_at st) (sym d) ∙ y.2))) ∙ sym y.0))
                refl refl (apart-put p n (state st).tree (lawful-shape st l).paths) refl refl;
          }

      found : look (state st).tree p ≡ some (node_at st k)
      found = all-look (kind_at st) (length st.heads) (node_at st) (rows_of st) l.entries p r a ∙ ap (λ (i : ℕ). some (node_at st i)) s

      -- the edit of what is found
      edit-at : (n : Node) → node_at st k ≡ n → Spells u (state_of (state st) (change_at (world_of (state st)) p c (some n))) → Spells u (edited (change p c) (state st))
      unfolding apply
      edit-at n e h = subst (λ (w : World). Spells u (state_of (state st) w)) (ap (change_at (world_of (state st)) p c) (sym (found ∙ ap some e))) h

      by-slot : SlotOf st k → Spells u (edited (change p c) (state st))
      by-slot (free e h y w) = absurd (omega (arith, subst (λ (i : ℕ). 1 ≤ uses i (rows_of st)) s (at_uses [] (rows_of st) p r a)))
      by-slot (directory e h y w) =
          edit-at (dir (meta_at st k)) (dir_at st k e)
          (by-put (λ z. omega arith) (λ z. omega arith) y (dir (change_meta c (meta_at st k))) (dir_at u k (x.kind ∙ e) ∙ ap (λ (f : File). dir f.meta) x.self))
      by-slot (named e y) = edit-at (file k) (file_at_lem st k e) (by-file e)
      by-slot (removed e y w) = absurd (omega (arith, subst (λ (i : ℕ). 1 ≤ uses i (rows_of st)) s (at_uses [] (rows_of st) p r a)))
      by-slot (target e t y w) =
          edit-at (link (meta_at st k) (bytes_at st k)) (link_at st k e)
          (by-put (λ z. omega arith) (λ z. omega arith) y (link (change_meta c (meta_at st k)) (bytes_at st k))
          (link_at u k (x.kind ∙ e) ∙ (λ j. link (x.self j).meta ((x.plain (λ z. omega arith)).1 j))))

    pub altered-changes : Changes c st u k
    unfolding apply
    altered-changes =
        record {
          by_name = λ p h.
              let a = look_at file [] (rows_of st) p (file k) h in
              by-slot p a.0 a.1 (file-inj a.2) (slot st l k hk);
          by_number = λ n h e.
              let s = stood st l n h (λ z. omega arith) in
              let d : holder st n - 1 ≡ k = omega arith in
              let o : open_of (state st).opens n ≡ some (open_at st n) = open_there st 32 0 n (omega arith) (omega arith) (λ z. omega arith) in
              subst (λ (w : World). Spells u (state_of (state st) w))
              (sym (ap (change_by (world_of (state st)) c) o ∙ ap (λ (i : ℕ). with_files (world_of (state st)) (set_file i c (state st).files)) d))
              (by-file (ap (kind_at st) (sym d) ∙ s.kind));
          rows = x.rows;
          kinds = kinds;
        }
