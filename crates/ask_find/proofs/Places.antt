-- For callers of `find_child`, on a lawful store: where it is found, the record has the path and the slot of the entry; where it is
-- missing no entry has the path, and a new entry may stand there.
-- Assumes nothing.
use mathlib.Core.Bool.{Bool, true, false}
use Rattle.std.specs.Prelude.{Ok, Err}
use mathlib.Core.List.{List, [], ◌∷◌, ◌++◌}
use mathlib.Core.Option.{none, some}
use mathlib.Core.Path.{◌≡◌, sym, ap, ◌∙◌, subst}
use Prim.Native.Nat.{ℕ, suc, ◌+◌, ◌≤◌, ◌<◌}
use native.Mathlib.Numerals.{add-one}
use native.Mathlib.Omega.{arith}
use lib.Dec.{T}
use lib.ListN.{length, take, drop, get_or, length-drop, take-append-drop}
use lib.Seq.{drop-drop, take-add, length-take-le}
use borrow.Author.Tests.{eq-eqb}
use Rattle.path.specs.Path.{Name}
use Rattle.model.specs.Tree.{Path, look}
use Rattle.layout.specs.Fields.{depth_of}
use Rattle.layout.specs.Rows.{Row, name_total, tree_from}
use Rattle.layout.specs.Store.{Store, count, live, rows_of, kind_at, node_at, state}
use Rattle.layout.specs.Lawful.{follows, walk_ok, rows_ok, Lawful}
use Rattle.layout.specs.Alike.{HasSlot}
use Rattle.layout.proofs.Named.{name_sum, name-offset}
use Rattle.layout.specs.Parts.{path_after, dir_after, Behind, Between}
use Rattle.layout.proofs.Edited.Parted.{after_both, dir_both}
use Rattle.layout.proofs.Edited.Gaps.{gap_none}
use Rattle.ask_find.specs.Finds.{Place, spot, find_in}
use Rattle.ask_find.specs.Paths.{slot_at, path_at}
use Rattle.ask_find.proofs.Finding.{MissingAt, Says, fits_first, scans}
use Rattle.ask_find.proofs.Records.{rows_long, total-live, walk-behind, dir-next, slot-low, path-look, path-slot, path-depth}

-- record j has the entry x of the directory at record i, and o is the offset of its name
pub record FoundSlot (st : Store) (i : ℕ) (x : Name) (j o : ℕ) : Type 0 where
  pub after : i < j
  pub within : j < count st
  pub offset : o ≡ name_total (take j (live st))
  pub path : path_at st j ≡ path_at st i ++ (x ∷ [])
  pub slot : HasSlot st (path_at st i ++ (x ∷ [])) (slot_at st j)
  pub node : look (state st).tree (path_at st i ++ (x ∷ [])) ≡ some (node_at st (slot_at st j))

-- the directory at record i has no entry x; one may stand before record j, and o is the offset of its name
pub record MissingGap (st : Store) (i : ℕ) (x : Name) (j o : ℕ) : Type 0 where
  pub after : i < j
  pub within : j ≤ count st
  pub offset : o ≡ name_total (take j (live st))
  pub deep : depth_of (get_or st.records i 0) + 1 ≡ suc (length (path_at st i))
  pub gap : Between (kind_at st) (take j (rows_of st)) (drop j (rows_of st)) (path_at st i) x
  pub missing : look (state st).tree (path_at st i ++ (x ∷ [])) ≡ none

-- the directory at record i, and what `find_child` is asked
module _ (st : Store) (l : Lawful st) (i : ℕ) (h : i < count st) (d : kind_at st (slot_at st i) ≡ 1) (x : Name) (o : ℕ) (e : o ≡ name_total (take (i + 1) st.records)) where
  abbrev q : Path
  q = path_at st i

  abbrev behind : List Row
  behind = drop (suc i) (rows_of st)

  is-dir : dir_after (kind_at st) false (take (suc i) (rows_of st)) ≡ true
  is-dir = dir-next st l i h ∙ eq-eqb (kind_at st (slot_at st i)) 1 d

  abbrev asked : Place
  asked = find_in (depth_of (get_or st.records i 0)) x (drop (i + 1) (rows_of st)) (i + 1) o

  says : (w : Place) → w ≡ asked → Says (kind_at st) q x q true behind (suc i) o w
  says w z =
      let s = scans (kind_at st) (length st.heads) q x q true behind (suc i) o (fits_first q x) (subst (λ (b : Bool). T (walk_ok (kind_at st) (length st.heads) q b behind)) is-dir (walk-behind st l i)) in
      let y : find_in (length q) x behind (suc i) o ≡ w =
      ap (λ (k : ℕ). find_in k x behind (suc i) o) (path-depth st l i h) ∙ ap (λ (k : ℕ). find_in (depth_of (get_or st.records i 0)) x (drop k (rows_of st)) k o) (sym (add-one i)) ∙ sym z in
      subst (λ (v : Place). Says (kind_at st) q x q true behind (suc i) o v) y s

  -- the offset, by the names that were passed
  offset_of : (j b a : ℕ) → j ≡ suc i + a → b ≡ o + name_sum (take a behind) → b ≡ name_total (take j (live st))
  offset_of j b a z y =
      let first : name_total (take (suc i) (live st)) ≡ o = total-live st l (suc i) (omega (arith, h)) ∙ ap (λ (k : ℕ). name_total (take k st.records)) (sym (add-one i)) ∙ sym e in
      let rest = name-offset (suc i) a (live st) st.bytes (omega (arith, l.space, l.exact.bytes)) in
      rw z (omega (arith, y, first, rest))

  behind-long : suc i + length behind ≡ count st
  behind-long = omega (arith, h, length-drop (suc i) (rows_of st), rows_long st l)

  pub found-slot : (j b : ℕ) → Ok (spot j b) ≡ asked → FoundSlot st i x j b
  found-slot j b z =
      let f = says (Ok (spot j b)) z in
      let g : j < count st = omega (arith, f.at, f.within, behind-long) in
      let k : suc j ≡ suc i + suc f.index = omega (arith, f.at) in
      let p : path_at st j ≡ q ++ (x ∷ []) =
      ap (λ (m : ℕ). path_after [] (take m (rows_of st))) k ∙ ap (path_after []) (take-add (suc i) (suc f.index) (rows_of st)) ∙ after_both [] (take (suc i) (rows_of st)) (take (suc f.index) behind) ∙ f.path in
      record {
        after = omega (arith, f.at);
        within = g;
        offset = offset_of j b f.index f.at f.offset;
        path = p;
        slot = subst (λ (u : Path). HasSlot st u (slot_at st j)) p (path-slot st l j g);
        node = subst (λ (u : Path). look (state st).tree u ≡ some (node_at st (slot_at st j))) p (path-look st l j g);
      }

  gap_at : (j b : ℕ) → MissingAt (kind_at st) q x q true behind (suc i) o j b → Between (kind_at st) (take j (rows_of st)) (drop j (rows_of st)) q x
  gap_at j b m =
      let a = take m.index behind in
      let t : take j (rows_of st) ≡ take (suc i) (rows_of st) ++ a = ap (λ (k : ℕ). take k (rows_of st)) m.at ∙ take-add (suc i) m.index (rows_of st) in
      let p : path_after q a ≡ path_after [] (take j (rows_of st)) = sym (ap (path_after []) t ∙ after_both [] (take (suc i) (rows_of st)) a) in
      let v : dir_after (kind_at st) true a ≡ dir_after (kind_at st) false (take j (rows_of st)) =
      sym (ap (dir_after (kind_at st) false) t ∙ dir_both (kind_at st) false (take (suc i) (rows_of st)) a ∙ ap (λ (b : Bool). dir_after (kind_at st) b a) is-dir) in
      record {
        within = subst (λ (u : Path). take (length q) u ≡ q) p m.fits.within;
        follows = subst (λ (b : Bool). T (follows (path_after [] (take j (rows_of st))) b (suc (length q)) x)) v (subst (λ (u : Path). T (follows u (dir_after (kind_at st) true a) (suc (length q)) x)) p m.fits.follows);
        behind = subst (Behind (q ++ (x ∷ []))) (drop-drop m.index (suc i) (rows_of st) ∙ ap (λ (k : ℕ). drop k (rows_of st)) (sym m.at)) m.behind;
      }

  none_at : (j : ℕ) → i < j → j ≤ count st → Between (kind_at st) (take j (rows_of st)) (drop j (rows_of st)) q x → look (state st).tree (q ++ (x ∷ [])) ≡ none
  none_at j a b g =
      let n = length st.heads in
      ap (λ (rs : List Row). look (tree_from (node_at st) [] rs) (q ++ (x ∷ []))) (sym (take-append-drop j (rows_of st)))
      ∙ gap_none (kind_at st) n (take j (rows_of st)) (drop j (rows_of st)) q x g (node_at st) (subst (λ (rs : List Row). T (rows_ok (kind_at st) n rs)) (sym (take-append-drop j (rows_of st))) l.entries) (slot_at st i) (slot-low st l i h)
      (λ z. omega (arith, a, ap length z, length-take-le j (rows_of st) (omega (arith, b, rows_long st l))))

  pub missing-gap : (j b : ℕ) → Err (spot j b) ≡ asked → MissingGap st i x j b
  missing-gap j b z =
      let m = says (Err (spot j b)) z in
      let a : i < j = omega (arith, m.at) in
      let c : j ≤ count st = omega (arith, m.at, m.within, behind-long) in
      record {
        after = a;
        within = c;
        offset = offset_of j b m.index m.at m.offset;
        deep = omega (arith, path-depth st l i h);
        gap = gap_at j b m;
        missing = none_at j a c (gap_at j b m);
      }
