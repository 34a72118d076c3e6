-- The listing of the directory at a spot, record by record: what is passed lies deeper, so the path of the next entry begins with the
-- directory's.
-- Assumes nothing.
use mathlib.Core.Bool.{false}
use mathlib.Core.List.{List, [], ◌∷◌, ◌++◌}
use mathlib.Core.Option.{Option}
use mathlib.Core.Path.{◌≡◌, refl, sym, ap, ◌∙◌, subst}
use Prim.Native.Nat.{ℕ, suc, ◌+◌, ◌-◌, ◌<◌}
use native.Mathlib.Numerals.{add-one}
use native.Mathlib.Omega.{arith}
use lib.Dec.{T}
use lib.ListN.{length, take, drop, get_or, length-append}
use lib.Seq.{take-suc, take-append_seam}
use Rattle.path.specs.Path.{Name}
use Rattle.model.specs.Tree.{Path, Node, look}
use Rattle.model.specs.Prog.{Stat, stat_of, on_some, answer}
use Rattle.model.specs.Calls.States.{world_of}
use Rattle.layout.specs.Fields.{depth_of, nlen_of}
use Rattle.layout.specs.Rows.{Row, name_total, path_by}
use Rattle.layout.specs.Store.{Store, count, rows_of, kind_at, state}
use Rattle.layout.specs.Lawful.{follows, walk_ok, Lawful}
use Rattle.layout.specs.Parts.{dir_after}
use Rattle.layout.proofs.Named.{total-append}
use Rattle.layout.proofs.Edited.Removing.{walk-follows, next_keeps}
use Rattle.ask_find.specs.declared.Spot.{Spot}
use Rattle.ask_find.specs.Paths.{slot_at, row_at, path_at}
use Rattle.ask_find.specs.Spots.{At}
use Rattle.ask_find.proofs.Records.{walk-behind, rest_at, path_next, path-look, path-depth, slot-low}
use Rattle.ask_list.specs.Listed.{listing_of, listed_from, Leads}
use Rattle.ask_list.proofs.Steps.{listing-at, stat-known, listed-on}

-- a name more
pub total_next : (ws : List ℕ) (j : ℕ) → j < length ws → name_total (take j ws) + nlen_of (get_or ws j 0) ≡ name_total (take (j + 1) ws)
unfolding name_total
total_next ws j h =
    let e = ap name_total (ap (λ (k : ℕ). take k ws) (add-one j) ∙ take-suc ws j 0 h) ∙ total-append (take j ws) (get_or ws j 0 ∷ []) in
    omega (arith, e)

module _ (st : Store) (l : Lawful st) where
  -- ---- the directory at a spot

  pub listing-spot : (s : Spot) (p : Path) → At st s p → listing_of st p ≡ listed_from st (depth_of (get_or st.records s.at 0)) (s.at + 1)
  listing-spot s p a = ap (listing_of st) (sym a.path) ∙ listing-at st l s.at a.within

  pub spot-depth : (s : Spot) (p : Path) → At st s p → depth_of (get_or st.records s.at 0) ≡ length p
  spot-depth s p a = sym (path-depth st l s.at a.within) ∙ ap length a.path

  -- ---- a record behind another

  module _ (k : ℕ) (h : suc k < count st) where
    abbrev row : Row
    row = row_at st (suc k)

    after : T (follows (path_at st k) (dir_after (kind_at st) false (take (suc k) (rows_of st))) row.depth row.name)
    after =
        walk-follows (kind_at st) (length st.heads) (path_at st k) (dir_after (kind_at st) false (take (suc k) (rows_of st))) row (drop (suc (suc k)) (rows_of st))
        (subst (λ (rs : List Row). T (walk_ok (kind_at st) (length st.heads) (path_at st k) (dir_after (kind_at st) false (take (suc k) (rows_of st))) rs)) (rest_at st l (suc k) h) (walk-behind st l k))

    -- one that lies deeper keeps the names above
    pub keeps : (m : ℕ) → m < depth_of (get_or st.records (suc k) 0) → take m (path_at st (suc k)) ≡ take m (path_at st k)
    keeps m b =
        ap (take m) (path_next st l (suc k) h)
        ∙ next_keeps (kind_at st) (length st.heads) m (path_at st k) (dir_after (kind_at st) false (take (suc k) (rows_of st))) row row.depth refl b after

    -- an entry has the directory's path and its name
    pub entry-path : (m : ℕ) → depth_of (get_or st.records (suc k) 0) ≡ suc m → path_at st (suc k) ≡ take m (path_at st k) ++ (row.name ∷ [])
    entry-path m e = path_next st l (suc k) h ∙ ap (λ (d : ℕ). path_by d (path_at st k) row.name) e

    -- it is the first that is shown
    pub leads : (p : Path) (o : ℕ) → take (length p) (path_at st k) ≡ p → depth_of (get_or st.records (suc k) 0) ≡ suc (length p) → o ≡ name_total (take (suc k) st.records)
        → (u : List (Name × Stat)) → u ≡ listed_from st (length p) (suc k) → Leads st p (record { at = suc k; off = o }) u
    unfolding answer
    leads p o t e f u z =
        let s = stat-known st l (slot_at st (suc k)) (slot-low st l (suc k) h) in
        let y : path_at st (suc k) ≡ p ++ (row.name ∷ []) = entry-path (length p) e ∙ ap (λ (q : Path). q ++ (row.name ∷ [])) t in
        record {
          name = row.name;
          stat = s.0;
          list = z ∙ listed-on st l (suc k) h (length p) e s.0 s.1;
          at = record { within = h; offset = f; path = y };
          told = ap (λ (q : Path). on_some {B = Stat} (look (state st).tree q) (stat_of (world_of (state st)))) (sym y)
              ∙ ap (λ (m : Option Node). on_some {B = Stat} m (stat_of (world_of (state st)))) (path-look st l (suc k) h) ∙ s.1;
        }

  -- the same before record j
  pub keeps_at : (j : ℕ) → 0 < j → j < count st → (m : ℕ) → m < depth_of (get_or st.records j 0) → take m (path_at st (j + 1 - 1)) ≡ take m (path_at st (j - 1))
  keeps_at j b h m d =
      let y : j ≡ suc (j - 1) = omega (arith, b) in
      let z : j + 1 - 1 ≡ suc (j - 1) = omega (arith, b) in
      ap (λ (i : ℕ). take m (path_at st i)) z ∙ keeps (j - 1) (omega (arith, h, y)) m (omega (arith, d, ap (λ (i : ℕ). depth_of (get_or st.records i 0)) y))

  pub leads_at : (j : ℕ) → 0 < j → j < count st → (p : Path) (o : ℕ) → take (length p) (path_at st (j - 1)) ≡ p → depth_of (get_or st.records j 0) ≡ suc (length p)
      → o ≡ name_total (take j st.records) → (u : List (Name × Stat)) → u ≡ listed_from st (length p) j → Leads st p (record { at = j; off = o }) u
  leads_at j b h p o t e f u z =
      let y : j ≡ suc (j - 1) = omega (arith, b) in
      subst (λ (i : ℕ). Leads st p (record { at = i; off = o }) u) (sym y)
      (leads (j - 1) (omega (arith, h, y)) p o t (ap (λ (i : ℕ). depth_of (get_or st.records i 0)) (sym y) ∙ e) (f ∙ ap (λ (i : ℕ). name_total (take i st.records)) y) u
      (z ∙ ap (listed_from st (length p)) y))

  -- ---- the directory of an entry

  module _ (s : Spot) (p : Path) (x : Name) (a : At st s (p ++ (x ∷ []))) where
    pub entry-depth : depth_of (get_or st.records s.at 0) ≡ suc (length p)
    entry-depth = spot-depth s (p ++ (x ∷ [])) a ∙ omega (arith, length-append p (x ∷ []))

    pub entry-up : take (length p) (path_at st s.at) ≡ p
    entry-up = ap (take (length p)) a.path ∙ take-append_seam p (x ∷ [])
