-- Where an entry may be moved: to a place of a missing entry where it counts as out itself, in a directory that is not the entry and
-- does not lie below it. A place between other entries lies in front of the entry's records or behind them, and nothing stands at its
-- path. The entry's own old place is left as it stands before them, and what stands at its path goes with the entry. The bytes of the
-- new name are within the limit where the state that is left fits, since a move adds the one name and takes off the other.
-- Assumes nothing.
use mathlib.Core.List.{List, [], ◌∷◌, ◌++◌, append-nil}
use mathlib.Core.Option.{Option, none, some}
use mathlib.Core.Path.{◌≡◌, refl, sym, ap, ◌∙◌, subst}
use Prim.Native.Nat.{ℕ, suc, ◌+◌, ◌-◌, ◌≤◌, ◌<◌}
use native.Mathlib.Omega.{arith}
use lib.Dec.{T}
use lib.ListN.{length, take, drop, length-drop, take-append-drop}
use lib.Seq.{length-take-le}
use Rattle.path.specs.Path.{Name}
use Rattle.model.specs.Tree.{Path, Entries, look, behind, cut, name_length}
use Rattle.model.specs.Prog as prog
use Rattle.model.specs.Calls.States.{State, moved}
use Rattle.model.specs.Rules.{name_ok}
use Rattle.model.proofs.Entries.{clash, behind-self, cut_in, cut_out}
use Rattle.model.proofs.Demand.Spacing.{last_name_lem}
use Rattle.model.proofs.Space.After.{after-move}
use Rattle.layout.specs.Rows.{Row, name_total, path_of, tree_from}
use Rattle.layout.specs.Slots.{total}
use Rattle.layout.specs.Store.{Store, room, count, live, rows_of, kind_at, node_at, state}
use Rattle.layout.specs.Lawful.{rows_ok, Lawful}
use Rattle.layout.specs.Alike.{Spells}
use Rattle.layout.specs.Parts.{path_after, Between}
use Rattle.layout.proofs.Used.{bytes-used}
use Rattle.ask_find.specs.declared.Spot.{Spot}
use Rattle.ask_find.specs.declared.Gap.{Gap}
use Rattle.ask_find.specs.Paths.{slot_at, row_at, path_at}
use Rattle.ask_find.specs.Spots.{block_end, Room, between, instead}
use Rattle.ask_find.proofs.Blocks.{front, block, Block, block-after, block_last, block-parts}
use Rattle.ask_find.proofs.Records.{rows_long, slot-low, path-look}
use Rattle.ask_used.proofs.Weighing.{name-long, weight_is}
use Rattle.edit_room.specs.Extents.{trim}
use Rattle.edit_entry.specs.Movement.{Movable, front as ahead}
use Rattle.edit_entry.proofs.Outside.{Besides, beside, gap-clear}
use Rattle.store.specs.Shows.{Shows, Stands}
use Rattle.store_edit.specs.Moves.{MayMove}
use Rattle.store_edit.proofs.Blocks.{below_root}
use Rattle.store_edit.proofs.Fitting.{fits-back, was_spaced}

-- what a look does not find, it does not find in a part
none_cut : (p o : Path) (t : Entries) → look t o ≡ none → look (cut p t) o ≡ none
none_cut p o t e = go (behind p o) refl
  where
    go : (b : Option Path) → behind p o ≡ b → look (cut p t) o ≡ none
    go none h = cut_out p o t h ∙ e
    go (some r) h = cut_in p o r t h

-- the entry of record i, whose records end before e, may become the entry y of the directory q, before record k
pub record Way (st : Store) (i e k depth : ℕ) (q : Path) (y : Name) : Type 0 where
  pub may : Movable st i e k depth y
  pub from : path_of (path_after [] may.a) may.row ≡ path_at st i
  pub into : may.q ≡ q

module _ (st : Store) (l : Lawful st) (i : ℕ) (h : i < count st) (q : Path) (y : Name) (ok : T (name_ok y)) (k : ℕ) (first : 0 < k) (last : k ≤ count st)
    (room_at : Room st i q y k) where
  abbrev kinds : ℕ → ℕ
  kinds = kind_at st

  abbrev slots : ℕ
  slots = length st.heads

  -- nothing stands at the path of a gap
  nothing : Between kinds (take k (rows_of st)) (drop k (rows_of st)) q y → (u r : Path) → behind (q ++ (y ∷ [])) u ≡ some r → look (state st).tree u ≡ none
  nothing g u r w =
      let b = take-append-drop k (rows_of st) in
      ap (λ (rs : List Row). look (tree_from (node_at st) [] rs) u) (sym b)
      ∙ gap-clear kinds slots (slot_at st i) (slot-low st l i h) q y ok (take k (rows_of st)) (drop k (rows_of st))
      (λ f. omega (arith, first, ap length f, length-take-le k (rows_of st) (omega (arith, last, rows_long st l))))
      (subst (λ (rs : List Row). T (rows_ok kinds slots rs)) (sym b) l.entries) g (node_at st) u r w

  -- nothing stands at the new path or below it once the entry is out
  pub way-clear : (u r : Path) → behind (q ++ (y ∷ [])) u ≡ some r → look (cut (path_at st i) (state st).tree) u ≡ none
  way-clear u r w = go room_at
    where
      go : Room st i q y k → look (cut (path_at st i) (state st).tree) u ≡ none
      go (between g) = none_cut (path_at st i) u (state st).tree (nothing g u r w)
      go (instead b c d g) = cut_in (path_at st i) u r (state st).tree (ap (λ (p : Path). behind p u) d ∙ w)

  module _ (a : 0 < i) (e : ℕ) (z : e ≡ block_end st i) (out : i < k → k ≤ e → behind (path_at st i) q ≡ none) where
    abbrev before : List Row
    before = row_at st 0 ∷ front st i

    parts : Block st i e
    parts = subst (Block st i) (sym z) (block-parts st l i h a)

    from : i ≡ suc (length (front st i))
    from = omega (arith, length-take-le (i - 1) (drop 1 (rows_of st)) (omega (arith, h, length-drop 1 (rows_of st), rows_long st l)))

    to : e ≡ suc (i + length (block st i e))
    to =
        omega (arith, z, block-after st l i h, length-take-le (e - suc i) (drop (suc i) (rows_of st)) (omega (arith, z, block_last st l i h, length-drop (suc i) (rows_of st), rows_long st l)))

    besides : Besides kinds (row_at st 0) (front st i) (drop e (rows_of st)) i e k q y
    besides = go room_at
      where
        go : Room st i q y k → Besides kinds (row_at st 0) (front st i) (drop e (rows_of st)) i e k q y
        go (between g) =
            beside kinds slots (slot_at st i) (slot-low st l i h) q y ok (row_at st 0) (front st i) (row_at st i) (block st i e) (drop e (rows_of st))
            (subst (λ (rs : List Row). T (rows_ok kinds slots rs)) parts.parts l.entries) parts.deeper parts.beyond i e k from to first (omega (arith, last, rows_long st l, ap length parts.parts))
            (subst (λ (rs : List Row). Between kinds (take k rs) (drop k rs) q y) parts.parts g) (λ u v. ap (λ (p : Path). behind p q) parts.path ∙ out u v)
        go (instead b c d g) =
            record {
              a₂ = before;
              b₂ = drop e (rows_of st);
              place = ahead before [] (sym (append-nil before)) (c ∙ from) refl refl;
              not_first = λ f. omega (arith, ap length f);
              gap = subst (λ (rs : List Row). Between kinds rs (drop e (rows_of st)) q y) parts.first (subst (λ (m : ℕ). Between kinds (take i (rows_of st)) (drop m (rows_of st)) q y) (sym z) g);
            }

    pub way : (depth : ℕ) → depth ≡ suc (length q) → name_total (live st) + length y + total st.heads ≤ room st + length (row_at st i).name → Way st i e k depth q y
    way depth deep fits =
        record {
          may =
              record {
                root = row_at st 0;
                a = front st i;
                row = row_at st i;
                x = block st i e;
                b = drop e (rows_of st);
                a₂ = besides.a₂;
                b₂ = besides.b₂;
                q = q;
                rows = parts.parts;
                from = from;
                to = to;
                deeper = parts.deeper;
                behind_it = parts.beyond;
                place = besides.place;
                not_first = besides.not_first;
                deep = deep;
                gap = besides.gap;
                name = ok;
                fits = fits;
                clear = λ u r w. ap (λ (p : Path). look (cut p (state st).tree) u) parts.path ∙ way-clear u r w;
              };
          from = parts.path;
          into = refl;
        }

-- ---- in a store that shows a state

-- the name of an entry, by its path
pub snoc-length : (p : Path) (x : Name) → name_length (p ++ (x ∷ [])) ≡ length x
unfolding name_length
snoc-length p x = last_name_lem p x []

-- a path that another is not behind is not the root's
not_above : (p d : Path) → behind p d ≡ none → p ≡ [] → ⊥
unfolding behind
not_above p d n e = clash (behind p d) d n (ap (λ (q : Path). behind q d) e)

module _ {st : Store} {s : State} (sh : Shows st s) {spot : Spot} {p d : Path} {gap : Gap} {y : Name} (a : Stands st spot p) (m : MayMove spot gap y st s p d) (ok : T (name_ok y)) {e : ℕ}
    (z : e ≡ block_end (trim st) spot.at) where
  abbrev l : Lawful (trim st)
  l = sh.roomy.lawful

  abbrev i : ℕ
  i = spot.at

  abbrev new : Path
  new = d ++ (y ∷ [])

  abbrev was : State
  was = state (trim st)

  bare : (r : Path) → look (cut p was.tree) (new ++ r) ≡ none
  bare r =
      ap (λ (q : Path). look (cut q was.tree) (new ++ r)) (sym a.path)
      ∙ way-clear (trim st) l i a.within d y ok gap.at m.vacant.first m.vacant.last m.vacant.room (new ++ r) r (behind-self new r)

  fits : name_total (live (trim st)) + length y + total (trim st).heads ≤ room st + length (row_at (trim st) i).name
  fits =
      let f = fits-back sh (prog.take p ∷ prog.give new ∷ []) m.fits in
      let u = after-move was (was_spaced sh) p new _ (ap (look was.tree) (sym a.path) ∙ path-look (trim st) l i a.within) bare in
      let n = (weight_is (trim st) l spot p a _ _ _ refl refl refl).name in
      omega (arith, f.1, u.bytes, bytes-used (trim st) l, n, name-long (trim st) l spot p a, snoc-length d y)

  pub move-way : Way (trim st) i e gap.at gap.depth d y
  move-way =
      way (trim st) l i a.within d y ok gap.at m.vacant.first m.vacant.last m.vacant.room
      (below_root (trim st) l spot p a (not_above p d m.outside)) e z (λ u v. ap (λ (q : Path). behind q d) a.path ∙ m.outside) gap.depth m.vacant.deep fits

-- what is left, by the paths that the entry had and has
pub way-spells : {st v : Store} {i e k depth : ℕ} {q : Path} {y : Name} (w : Way st i e k depth q y) (p : Path) → path_at st i ≡ p
    → Spells v (moved (path_of (path_after [] w.may.a) w.may.row) (w.may.q ++ (y ∷ [])) (state st)) → Spells v (moved p (q ++ (y ∷ [])) (state st))
way-spells {st = st} {v = v} {y = y} w p e h =
    subst (λ (x : Type 0). x) (λ j. Spells v (moved ((w.from ∙ e) j) (w.into j ++ (y ∷ [])) (state st))) h
