-- An edit of the words of the slots so far, with the others put back behind them, is an edit of the whole store: what it spells of the
-- state that is read back it shows of every state that the store showed, since edits keep states alike.
-- Assumes nothing.
use mathlib.Core.List.{List, [], ◌++◌}
use mathlib.Core.Path.{◌≡◌, refl, sym, ap, ◌∙◌, subst}
use Prim.Native.Nat.{ℕ, suc}
use native.Mathlib.Omega.{arith}
use lib.ListN.{length, take, drop, take-append-drop}
use lib.Seq.{take-append_seam}
use Rattle.model.specs.Tree.{Path}
use Rattle.model.specs.Prog.{Edit}
use Rattle.model.specs.Calls.States.{State}
use Rattle.model.specs.Alike.{Alike}
use Rattle.model.proofs.Alike.Chain.{edited_by, carried, carried-shape}
use Rattle.layout.specs.Rows.{Row, name_total}
use Rattle.layout.specs.Store.{Store, lent, count, extent, rows_of, state}
use Rattle.layout.specs.Lawful.{Lawful}
use Rattle.layout.specs.Alike.{Spells}
use Rattle.layout.specs.Parts.{path_after}
use Rattle.layout.proofs.Edited.Shapes.{lawful-shape}
use Rattle.edit_room.specs.Extents.{trim, Roomy, Resized, Released}
use Rattle.edit_room.proofs.Parting.{part-back}
use Rattle.ask_find.specs.declared.Spot.{Spot}
use Rattle.ask_find.specs.Spots.{At}
use Rattle.store.specs.Shows.{Shows, Stands}

-- the store of which it is said
abbrev pub shown : {st : Store} {s : State} → Shows st s → Store
shown {st} h = st

-- with the words of the slots so far alone
abbrev pub trimmed : {st : Store} {s : State} → Shows st s → Store
trimmed {st} h = trim st

-- v with the words of the slots that st has behind those so far
abbrev pub whole : Store → Store → Store
whole st v = lent v.words v.records (v.heads ++ drop (extent st) st.heads) v.times v.paths v.bytes

pub trim_whole : (st v : Store) → Lawful v → trim (whole st v) ≡ v
trim_whole st v l = λ i. record { words = v.words; records = v.records; heads = cut i; times = v.times; paths = v.paths; bytes = v.bytes }
  where
    cut : take (extent v) (v.heads ++ drop (extent st) st.heads) ≡ v.heads
    cut = ap (λ (k : ℕ). take k (v.heads ++ drop (extent st) st.heads)) (sym l.exact.heads) ∙ take-append_seam v.heads (drop (extent st) st.heads)

-- the words of the slots as they were
pub whole_heads : (st : Store) → (trim st).heads ++ drop (extent st) st.heads ≡ st.heads
whole_heads st = take-append-drop (extent st) st.heads

module _ (es : List Edit) {st u : Store} {s : State} (h : Shows st s) (r : Roomy u) (k : Alike (state (trim u)) (edited_by es (state (trim st)))) where
  pub shows_by : Shows u (edited_by es s)
  shows_by =
      let a = lawful-shape (trim u) r.lawful in
      let b = lawful-shape (trim st) h.roomy.lawful in
      record {
        roomy = r;
        shaped = carried-shape es (state (trim u)) (state (trim st)) s a b h.shaped h.alike k;
        alike = carried es (state (trim u)) (state (trim st)) s a b h.shaped h.alike k;
      }

-- of the words of the slots so far
module _ (es : List Edit) {st v : Store} {s : State} (h : Shows st s) (k : Spells v (edited_by es (state (trim st))))
    (n : length v.heads ≡ length (trim st).heads) (m : length v.records ≡ length st.records) where
  pub shows_whole : Shows (whole st v) (edited_by es s)
  shows_whole =
      shows_by es h
      (part-back st.words st.records st.heads v.words v.records v.heads st.times v.times st.paths st.bytes v.paths v.bytes (extent st) h.roomy refl n m k.lawful)
      (subst (λ (x : Store). Alike (state x) (edited_by es (state (trim st)))) (sym (trim_whole st v k.lawful)) k.alike)

-- of other slices: the words of the slots are as they were
module _ (es : List Edit) {st v : Store} {s : State} (h : Shows st s) (k : Spells v (edited_by es (state (trim st)))) (e : v.heads ≡ (trim st).heads)
    (m : length v.records ≡ length st.records) where
  pub shows_same : Shows (lent v.words v.records st.heads v.times v.paths v.bytes) (edited_by es s)
  shows_same =
      subst (λ (hs : List ℕ). Shows (lent v.words v.records hs v.times v.paths v.bytes) (edited_by es s))
      (ap (λ (xs : List ℕ). xs ++ drop (extent st) st.heads) e ∙ whole_heads st) (shows_whole es h k (ap length e) m)

-- ---- spots

-- where the records and the entries are as they were, every spot stands
pub spots_same : (st : Store) {v : Store} → Lawful v → rows_of v ≡ rows_of (trim st) → count v ≡ count st → v.records ≡ st.records → (spot : Spot) (p : Path) → Stands st spot p
    → Stands (whole st v) spot p
spots_same st {v} l r c w spot p a =
    subst (λ (x : Store). At x spot p) (sym (trim_whole st v l))
    (record { within = omega (arith, a.within, c); offset = a.offset ∙ ap (λ (ws : List ℕ). name_total (take spot.at ws)) (sym w); path = ap (λ (rs : List Row). path_after [] (take (suc spot.at) rs)) r ∙ a.path })

-- ---- slots reserved and given up

-- another number of slots shows the same states
pub shows-resized : {st u : Store} {s : State} → Shows st s → Resized st u → Shows u s
shows-resized {s = s} h r = record { roomy = r.roomy; shaped = h.shaped; alike = subst (λ (x : State). Alike x s) (sym r.same) h.alike }

-- a store that has room, as the one whose words and words of the slots are lent
pub roomy_of : {u : Store} → Roomy u → (st : Store) × Roomy (lent u.words st.records u.heads st.times st.paths st.bytes)
roomy_of {u = u} r = (u, r)

-- by what is said of the words of the state and of the slots alone
pub shows-released : {u : Store} {s : State} {ws hs : List ℕ} → Shows u s
    → ((st : Store) → Roomy (lent u.words st.records u.heads st.times st.paths st.bytes) → Released (lent u.words st.records u.heads st.times st.paths st.bytes) (lent ws st.records hs st.times st.paths st.bytes))
    → Shows (lent ws u.records hs u.times u.paths u.bytes) s
shows-released {u = u} h f = shows-resized h (f u h.roomy).resized
