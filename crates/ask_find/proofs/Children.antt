-- What `child` and `root` say, by what `find_child` answers: the records of a lawful store have one path each, so an entry that is
-- found at another record than the hidden one is in the tree without it, and one that is found there is not.
-- Assumes nothing.
use mathlib.Core.Bool.{Bool, true, false, true≢false, not, cond}
use Rattle.std.proofs.lemmas.Bool.{not-false}
use Rattle.std.specs.Option.{option_eq}
use Rattle.std.specs.Prelude as option
use Rattle.std.specs.Prelude.{Ok, Err}
use mathlib.Core.List.{List, [], ◌∷◌, ◌++◌, append-nil}
use mathlib.Core.Option.{Option, none, some}
use mathlib.Core.Path.{◌≡◌, refl, sym, ap, ◌∙◌, subst}
use Prim.Native.Nat.{ℕ, suc, ◌+◌, ◌≤◌, ◌<◌}
use native.Mathlib.Numerals.{add-one}
use native.Mathlib.Omega.{arith}
use lib.Dec.{eqb, leb}
use lib.ListN.{length, take, drop, get_or, length-append}
use lib.Seq.{take-suc, get_or-take, take-append-le, take-append_seam}
use borrow.Author.Tests.{eqb-true, eq-eqb, leb-true, leb-false}
use Rattle.text.specs.Utf8.{Bytes}
use Rattle.path.specs.Path.{Name}
use Rattle.model.specs.Tree.{Path, Node, dir, file, link, Entries, look, behind, cut}
use Rattle.model.specs.Prog.{Kind, a_dir, kind_number, node_kind, kind?, on_some, answer}
use Rattle.model.specs.Calls.States.{world_of}
use Rattle.model.proofs.Entries.{some_inj, behind-self, behind_is, cut_in, cut_out}
use Rattle.layout.specs.Fields.{depth_of, nlen_of}
use Rattle.layout.specs.Rows.{name_total, tree_from, rows}
use Rattle.layout.specs.Store.{Store, count, rows_of, live, meta_at, bytes_at, kind_at, node_at, state}
use Rattle.layout.specs.Lawful.{Lawful}
use Rattle.layout.specs.Parts.{path_after}
use Rattle.layout.specs.Parts as parts
use Rattle.layout.proofs.Named.{total-append, total-split}
use Rattle.layout.proofs.Used.{live-length}
use Rattle.layout.proofs.Rising.{rise-apart}
use Rattle.layout.proofs.Edited.Removing.{begins}
use Rattle.ask_find.specs.declared.Spot.{Spot}
use Rattle.ask_find.specs.declared.Gap.{Gap}
use Rattle.ask_find.specs.Finds.{Place, spot, find_in}
use Rattle.ask_find.specs.Paths.{slot_at, path_at}
use Rattle.ask_find.specs.Spots.{At, Directory, Held, hidden_at, Hides, nothing, entry, Seen, between, instead, Looks, Rooted}
use Rattle.ask_find.proofs.Places.{found-slot, missing-gap}
use Rattle.ask_find.proofs.Records.{total-live, path_next, path-look, path-rises, path-depth, root-path}
use Rattle.ask_find.proofs.Instead.{gap-instead}

-- ---- paths

-- a path that another begins with, but not all its names up to the last, is all of it
last_name_lem : (q p r : Path) (x : Name) → behind q p ≡ none → behind q (p ++ (x ∷ [])) ≡ some r → q ≡ p ++ (x ∷ [])
last_name_lem q p r x n e = go r (behind_is q (p ++ (x ∷ [])) r e)
  where
    go : (r : Path) → p ++ (x ∷ []) ≡ q ++ r → q ≡ p ++ (x ∷ [])
    go [] u = sym (u ∙ append-nil q)
    go (y ∷ r) u =
        let k : length q ≤ length p = omega (arith, ap length u, length-append p (x ∷ []), length-append q (y ∷ r)) in
        absurd (begins q p (sym (take-append-le (length q) p (x ∷ []) k) ∙ ap (take (length q)) u ∙ take-append_seam q (y ∷ r)) n)

-- what is not in a tree is not in a part of it
none_cut : (q p : Path) (t : Entries) → look t p ≡ none → look (cut q t) p ≡ none
none_cut q p t e = go (behind q p) refl
  where
    go : (o : Option Path) → behind q p ≡ o → look (cut q t) p ≡ none
    go none h = cut_out q p t h ∙ e
    go (some r) h = cut_in q p r t h

-- ---- kinds

-- the kind of a node, by the kind of its slot
dir_by : (st : Store) (k : ℕ) → node_kind (node_at st k) ≡ a_dir → kind_at st k ≡ 1
unfolding node_kind
dir_by st k e = go (eqb (kind_at st k) 1) (eqb (kind_at st k) 2) refl e
  where
    go : (b c : Bool) → eqb (kind_at st k) 1 ≡ b → node_kind (cond b (dir (meta_at st k)) (cond c (file k) (link (meta_at st k) (bytes_at st k)))) ≡ a_dir → kind_at st k ≡ 1
    go true c z y = eqb-true (kind_at st k) 1 z
    go false true z y = absurd (let w : ◌≡◌ {A = ℕ} 0 1 = sym (ap kind_number y) in omega arith)
    go false false z y = absurd (let w : ◌≡◌ {A = ℕ} 0 2 = sym (ap kind_number y) in omega arith)

module _ (st : Store) (l : Lawful st) where
  -- what is answered of a record's path is the kind of its slot
  told : (i : ℕ) → i < count st → answer (kind? (path_at st i)) (world_of (state st)) ≡ some (node_kind (node_at st (slot_at st i)))
  unfolding answer
  told i h = ap (λ (o : Option Node). on_some {B = Kind} o (λ n. some (node_kind n))) (path-look st l i h)

  pub dir-told : (i : ℕ) → i < count st → kind_at st (slot_at st i) ≡ 1 → Directory st (path_at st i)
  unfolding node_kind
  dir-told i h e = told i h ∙ ap (λ (b : Bool). some (node_kind (cond b (dir (meta_at st (slot_at st i))) (cond (eqb (kind_at st (slot_at st i)) 2) (file (slot_at st i)) (link (meta_at st (slot_at st i)) (bytes_at st (slot_at st i))))))) (eq-eqb (kind_at st (slot_at st i)) 1 e)

  dir-kind : (i : ℕ) → i < count st → Directory st (path_at st i) → kind_at st (slot_at st i) ≡ 1
  dir-kind i h d = dir_by st (slot_at st i) (some_inj (sym (told i h) ∙ d))

  -- ---- hidden records

  -- two records have two paths
  pub path_one : (i j : ℕ) → i < count st → j < count st → path_at st i ≡ path_at st j → i ≡ j
  path_one i j a b e = go (leb i j) refl (leb j i) refl
    where
      go : (u : Bool) → leb i j ≡ u → (v : Bool) → leb j i ≡ v → i ≡ j
      go true x true y = omega (arith, leb-true i j x, leb-true j i y)
      go false x v y = absurd (rise-apart (path_at st j) (path_at st i) (path-rises st l j i (leb-false i j x) a) (sym e))
      go true x false y = absurd (rise-apart (path_at st i) (path_at st j) (path-rises st l i j (leb-false j i y) b) e)

  module _ (h : ℕ) (t : Entries) where
    seen_same : (p : Path) → Hides st h p t → look t p ≡ look (state st).tree p
    seen_same p (nothing a e) = ap (λ (u : Entries). look u p) e
    seen_same p (entry q a f n e) = ap (λ (u : Entries). look u p) e ∙ cut_out q p (state st).tree n

    pub seen : (p : Path) (s : Spot) → At st s p → Hides st h p t → Seen st h t p s
    seen p s a d = record { at = a; hides = d; same = seen_same p d }

    module _ (p : Path) (x : Name) where
      -- an entry of the directory that is not hidden
      hides-next : (j : ℕ) → j < count st → path_at st j ≡ p ++ (x ∷ []) → (j ≡ h → ⊥) → Hides st h p t → Hides st h (p ++ (x ∷ [])) t
      hides-next j g z d (nothing a e) = nothing a e
      hides-next j g z d (entry q a f n e) = entry q a f (go (behind q (p ++ (x ∷ []))) refl) e
        where
          go : (o : Option Path) → behind q (p ++ (x ∷ [])) ≡ o → behind q (p ++ (x ∷ [])) ≡ none
          go none u = u
          go (some r) u = absurd (d (path_one j h g a (z ∙ sym (last_name_lem q p r x n u) ∙ sym f)))

      -- one that is
      hidden-gone : h < count st → path_at st h ≡ p ++ (x ∷ []) → Hides st h p t → look t (p ++ (x ∷ [])) ≡ none
      hidden-gone b z (nothing a e) = absurd (omega (arith, a, b))
      hidden-gone b z (entry q a f n e) =
          ap (λ (u : Entries). look u (p ++ (x ∷ []))) e ∙ cut_in q (p ++ (x ∷ [])) [] (state st).tree (ap (behind q) (sym z ∙ f ∙ sym (append-nil q)) ∙ behind-self q [])

      none-gone : look (state st).tree (p ++ (x ∷ [])) ≡ none → Hides st h p t → look t (p ++ (x ∷ [])) ≡ none
      none-gone z (nothing a e) = ap (λ (u : Entries). look u (p ++ (x ∷ []))) e ∙ z
      none-gone z (entry q a f n e) = ap (λ (u : Entries). look u (p ++ (x ∷ []))) e ∙ none_cut q (p ++ (x ∷ [])) (state st).tree z

  -- ---- the directory at a spot

  module _ (s : Spot) (p : Path) (a : At st s p) where
    -- the names up to it are within the bytes
    pub offset-low : s.off ≤ 1048576
    offset-low = omega (arith, total-live st l s.at (omega (arith, a.within)), total-split (live st) s.at, a.offset, l.space, l.byte_limit.1)

    pub offset-next : s.off + nlen_of (get_or st.records s.at 0) ≡ name_total (take (s.at + 1) st.records)
    unfolding name_total
    offset-next =
        let i = s.at in
        let h : i < length st.records = omega (arith, a.within, l.counted, l.exact.records) in
        let e = ap name_total (ap (λ (k : ℕ). take k st.records) (add-one i) ∙ take-suc st.records i 0 h) ∙ total-append (take i st.records) (get_or st.records i 0 ∷ []) in
        omega (arith, e, a.offset)

    module _ (h : ℕ) (t : Entries) (d : Hides st h p t) (k : Directory st p) (x : Name) (n : ℕ) (e : n ≡ name_total (take (s.at + 1) st.records)) where
      is-dir : kind_at st (slot_at st s.at) ≡ 1
      is-dir = dir-kind s.at a.within (subst (Directory st) (sym a.path) k)

      abbrev asked : Place
      asked = find_in (depth_of (get_or st.records s.at 0)) x (drop (s.at + 1) (rows_of st)) (s.at + 1) n

      named : path_at st s.at ++ (x ∷ []) ≡ p ++ (x ∷ [])
      named = ap (λ (o : Path). o ++ (x ∷ [])) a.path

      pub child-found : (j o : ℕ) → (j < count st → j ≡ h → ⊥) → Ok (spot j o) ≡ asked → Looks st h t p x (Ok (spot j o))
      child-found j o c z =
          let f = found-slot st l s.at a.within is-dir x n e j o z in
          let y = f.path ∙ named in
          seen h t (p ++ (x ∷ [])) (record { at = j; off = o }) (record { within = f.within; offset = f.offset ∙ total-live st l j (omega (arith, f.within)); path = y }) (hides-next h t p x j f.within y (c f.within) d)

      pub child-hidden : (j o g : ℕ) → j ≡ h → Ok (spot j o) ≡ asked → g ≡ depth_of (get_or st.records s.at 0) + 1 → Looks st h t p x (Err (record { at = j; off = o; depth = g }))
      child-hidden j o g c z i =
          let f = found-slot st l s.at a.within is-dir x n e j o z in
          let y : path_at st h ≡ p ++ (x ∷ []) = ap (path_at st) (sym c) ∙ f.path ∙ named in
          let b : h < count st = omega (arith, f.within, c) in (
            hidden-gone h t p x b y d,
            record {
              first = omega (arith, f.after);
              last = omega (arith, f.within);
              offset = f.offset ∙ total-live st l j (omega (arith, f.within));
              deep = i ∙ add-one (depth_of (get_or st.records s.at 0)) ∙ ap suc (sym (path-depth st l s.at a.within) ∙ ap length a.path);
              room = instead b c y (gap-instead st l h b p x y);
            },
          )

      pub child-missing : (j o g : ℕ) → Err (spot j o) ≡ asked → g ≡ depth_of (get_or st.records s.at 0) + 1 → Looks st h t p x (Err (record { at = j; off = o; depth = g }))
      child-missing j o g z i =
          let m = missing-gap st l s.at a.within is-dir x n e j o z in (
            none-gone h t p x (ap (look (state st).tree) (sym named) ∙ m.missing) d,
            record {
              first = omega (arith, m.after);
              last = m.within;
              offset = m.offset ∙ total-live st l j m.within;
              deep = i ∙ m.deep ∙ ap (λ (o : Path). suc (length o)) a.path;
              room = between (subst (λ (o : Path). parts.Between (kind_at st) (take j (rows_of st)) (drop j (rows_of st)) o x) a.path m.gap);
            },
          )

  -- ---- the root

  pub root-found : 0 < count st → Rooted st (Ok (spot 0 0))
  unfolding path_after name_total
  root-found g = λ h t d. seen h t [] (record { at = 0; off = 0 }) (record { within = g; offset = refl; path = path_next st l 0 g ∙ root-path st l g }) d

  pub root-missing : (g : Gap) → count st ≡ 0 → Rooted st (Err g)
  unfolding look tree_from rows
  root-missing g z = (ap (λ (n : ℕ). look (tree_from (node_at st) [] (rows (take n st.records) st.bytes)) []) z, z)

-- a record that is not the one that is given is none that counts as not there
pub not_hidden : (st : Store) → Lawful st → (o : option.Option ℕ) (j : ℕ) → not (option_eq eqb (option.Some j) o) ≡ true → j < count st → j ≡ hidden_at o → ⊥
not_hidden st l option.None j n h e = omega (arith, e, h, l.counted, l.entry_limit.1)
not_hidden st l (option.Some k) j n h e = true≢false (sym n ∙ ap not (eq-eqb j k e))

-- and one that is, is
pub is_hidden : (o : option.Option ℕ) (j : ℕ) → not (option_eq eqb (option.Some j) o) ≡ false → j ≡ hidden_at o
is_hidden option.None j n = absurd (true≢false n)
is_hidden (option.Some k) j n = eqb-true j k (not-false (eqb j k) n)

-- ---- by the slices

-- what `find_child` asks of them
pub record Ready (ws : List ℕ) (bs : Bytes) (s : Spot) : Type 0 where
  pub within : s.at < length ws
  pub next : s.off + nlen_of (get_or ws s.at 0) ≡ name_total (take (s.at + 1) ws)
  pub room : name_total ws ≤ length bs
  pub low : s.off ≤ 1048576
  pub few : length ws ≤ 4096

-- the word of an entry's record, and its offset, by the records that there are
pub word-live : (st : Store) (i : ℕ) → i < count st → get_or (live st) i 0 ≡ get_or st.records i 0
word-live st i h = get_or-take (count st) st.records i 0 h

pub offset-live : (st : Store) → Lawful st → (i : ℕ) → i < count st → name_total (take (i + 1) (live st)) ≡ name_total (take (i + 1) st.records)
offset-live st l i h = total-live st l (i + 1) (omega arith)

pub ready : (ws : List ℕ) (bs : Bytes) (s : Spot) → Held ws bs s → Ready ws bs s
ready ws bs s h =
    let st = h.store in
    let l = h.lawful in
    let n = live-length st l in
    let i : s.at < count st = h.at.within in
    record {
      within = omega (arith, ap length h.records);
      next = subst (λ (us : List ℕ). s.off + nlen_of (get_or us s.at 0) ≡ name_total (take (s.at + 1) us)) h.records
          (ap (λ (w : ℕ). s.off + nlen_of w) (word-live st s.at i) ∙ offset-next st l s h.path h.at ∙ sym (offset-live st l s.at i));
      room = omega (arith, l.space, l.exact.bytes, ap length h.bytes, ap name_total h.records);
      low = offset-low st l s h.path h.at;
      few = omega (arith, ap length h.records, l.counted, l.entry_limit.1);
    }

-- what the records say as far as the entries go, of a store that has all of them
module _ (ws : List ℕ) (bs : Bytes) (n : ℕ) (st : Store) (e : st.records ≡ ws) (f : st.bytes ≡ bs) (c : count st ≡ n) where
  pub asked_whole : (s : Spot) (x : Name) (m : ℕ) → find_in (depth_of (get_or ws s.at 0)) x (drop (s.at + 1) (rows (take n ws) bs)) (s.at + 1) m
      ≡ find_in (depth_of (get_or st.records s.at 0)) x (drop (s.at + 1) (rows_of st)) (s.at + 1) m
  asked_whole s x m = λ j. find_in (depth_of (get_or (sym e j) s.at 0)) x (drop (s.at + 1) (rows (take (sym c j) (sym e j)) (sym f j))) (s.at + 1) m

  pub next_whole : (s : Spot) (m : ℕ) → m ≡ name_total (take (s.at + 1) ws) → m ≡ name_total (take (s.at + 1) st.records)
  next_whole s m z = z ∙ ap (λ (us : List ℕ). name_total (take (s.at + 1) us)) (sym e)

  pub depth_whole : (s : Spot) (g : ℕ) → g ≡ depth_of (get_or ws s.at 0) + 1 → g ≡ depth_of (get_or st.records s.at 0) + 1
  depth_whole s g z = z ∙ ap (λ (us : List ℕ). depth_of (get_or us s.at 0) + 1) (sym e)

-- what it answers, of a store that has the slices
module _ (ws : List ℕ) (bs : Bytes) (st : Store) (e : live st ≡ ws) (f : st.bytes ≡ bs) (s : Spot) (h : s.at < count st) where
  depth-live : depth_of (get_or ws s.at 0) ≡ depth_of (get_or st.records s.at 0)
  depth-live = ap (λ (us : List ℕ). depth_of (get_or us s.at 0)) (sym e) ∙ ap depth_of (word-live st s.at h)

  pub asked_is : (x : Name) (m : ℕ) → find_in (depth_of (get_or ws s.at 0)) x (drop (s.at + 1) (rows ws bs)) (s.at + 1) m
      ≡ find_in (depth_of (get_or st.records s.at 0)) x (drop (s.at + 1) (rows_of st)) (s.at + 1) m
  asked_is x m = λ j. find_in (depth-live j) x (drop (s.at + 1) (rows (sym e j) (sym f j))) (s.at + 1) m

  pub next_is : Lawful st → (m : ℕ) → m ≡ name_total (take (s.at + 1) ws) → m ≡ name_total (take (s.at + 1) st.records)
  next_is l m z = z ∙ ap (λ (us : List ℕ). name_total (take (s.at + 1) us)) (sym e) ∙ offset-live st l s.at h

  pub depth_is : (g : ℕ) → g ≡ depth_of (get_or ws s.at 0) + 1 → g ≡ depth_of (get_or st.records s.at 0) + 1
  depth_is g z = z ∙ ap (λ (d : ℕ). d + 1) depth-live
