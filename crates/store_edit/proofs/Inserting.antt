-- An entry put at a free place. The place that was found in the store is one still once a slot is reserved, since neither the entries nor
-- the kinds of their slots change; the state with the entry fits, so there is a free slot and room for its name and bytes. The entry then
-- has the record of its place, and its name stands where the names before it end.
-- Assumes nothing.
use mathlib.Core.Bool.{Bool, false, cond}
use mathlib.Core.List.{List, [], ◌∷◌, ◌++◌, append_assoc}
use mathlib.Core.Option.{Option, none, some}
use mathlib.Core.Path.{◌≡◌, refl, sym, ap, ◌∙◌, subst}
use Prim.Native.Nat.{ℕ, suc, ◌+◌, ◌≤◌, ◌<◌}
use native.Mathlib.Decide.{ℕ_discrete}
use native.Mathlib.Omega.{arith}
use lib.Dec.{T}
use lib.ListN.{length, take, drop, get_or, length-append, take-append-drop}
use lib.Seq.{get_or-take, length-take-le, take_at}
use borrow.Author.Tests.{ne_eqb}
use Rattle.path.specs.Path.{Name}
use Rattle.model.specs.Tree.{Path, Node, look, name_length}
use Rattle.model.specs.Prog.{node_kind, kind?, answer, on_some}
use Rattle.model.specs.Rules.{name_ok}
use Rattle.model.specs.Calls.States.{State, edited}
use Rattle.model.proofs.Demand.Spacing.{last_name_lem}
use Rattle.model.proofs.Entries.{clash}
use Rattle.model.proofs.Space.After.{after-make, after-create, after-symlink}
use Rattle.model.proofs.Space.States.{Uses}
use Rattle.layout.specs.Fields.{kind_of}
use Rattle.layout.specs.Rows.{Row, name_total, path_of}
use Rattle.layout.specs.Store.{Store, most, room, count, extent, live, rows_of, kind_at, state}
use Rattle.layout.specs.Lawful.{follows, uses, Lawful}
use Rattle.layout.specs.Parts.{path_after, Between}
use Rattle.layout.proofs.Edited.Parted.{Has, has_first, dir-slots, after_both}
use Rattle.layout.proofs.Named.{name_sum, name-offset}
use Rattle.layout.proofs.Roots.{all_slots}
use Rattle.layout.proofs.Used.{entries-used, bytes-used}
use Rattle.layout.proofs.Walks.{SlotsIn}
use Rattle.ask_find.specs.declared.Gap.{Gap}
use Rattle.ask_find.specs.Spots.{At, Room, between, instead, Vacant}
use Rattle.ask_find.proofs.Records.{rows_long, total-live, path-look}
use Rattle.edit_entry.specs.declared.made.Fresh.{Fresh}
use Rattle.edit_entry.specs.declared.made.Made.{Made}
use Rattle.edit_entry.specs.declared.made.Made.TheVariants.{Directory, File, Link}
use Rattle.edit_entry.specs.Growth.{new_row}
use Rattle.edit_entry.specs.Insertion.{Insertable, MayInsert, InsertedAt}
use Rattle.edit_entry.specs.Made.{bytes_made, Holds, fresh_meta, insertion}
use Rattle.edit_room.specs.Extents.{trim, Resized, Reserved}
use Rattle.store.specs.Shows.{Shows, Stands, says}
use Rattle.store.proofs.Asked.{told}
use Rattle.store_edit.specs.Turns.{Fits}
use Rattle.store_edit.specs.Entries.{MayMake}
use Rattle.store_edit.proofs.Carrying.{whole, trim_whole, shows-resized}
use Rattle.store_edit.proofs.Fitting.{was_spaced, fits-back}
use Rattle.store_edit.proofs.Resizing.{count-resized, rows-resized}

-- ---- what is not there

pub no_look : (o : Option Node) → on_some o (λ n. some (node_kind n)) ≡ none → o ≡ none
no_look none e = refl
no_look (some n) e = clash (some (node_kind n)) (node_kind n) e refl

pub look-missing : {st : Store} {s : State} → Shows st s → (p : Path) → says (kind? p) s ≡ none → look (state (trim st)).tree p ≡ none
unfolding answer
look-missing {st} {s} h p e = no_look (look (state (trim st)).tree p) (told st s h (kind? p) ∙ e)

-- ---- slots of entries

has_low : (n : ℕ) (rs : List Row) → SlotsIn n rs → (k : ℕ) → Has rs k → k < n
unfolding uses
has_low n [] s k h = absurd (omega (arith, h))
has_low n (r ∷ rs) s k h = go (ℕ_discrete r.slot k) (has_low n rs s.1 k)
  where
    go : Dec (r.slot ≡ k) → (Has rs k → k < n) → k < n
    go (yes e) f = omega (arith, e, s.0)
    go (no e) f = f (omega (arith, h, ap (λ (b : Bool). cond {A = ℕ} b 1 0) (ne_eqb r.slot k e)))

pub slot-below : (st : Store) → Lawful st → (k : ℕ) → Has (rows_of st) k → k < length st.heads
slot-below st l k h = has_low (length st.heads) (rows_of st) (all_slots (kind_at st) (length st.heads) (rows_of st) l.entries) k h

-- a place between entries, by what kinds their slots have
pub gap_by : (f g : ℕ → ℕ) (a b : List Row) (q : Path) (x : Name) → ((k : ℕ) → Has a k → f k ≡ g k) → Between g a b q x → Between f a b q x
gap_by f g a b q x h z = record {
  within = z.within;
  follows = subst (λ (d : Bool). T (follows (path_after [] a) d (suc (length q)) x)) (sym (dir-slots f g false a h)) z.follows;
  behind = z.behind;
}

pub has_take : (i : ℕ) (rs : List Row) (k : ℕ) → Has (take i rs) k → Has rs k
has_take i rs k h = subst (λ (l : List Row). Has l k) (take-append-drop i rs) (has_first (take i rs) (drop i rs) k h)

-- ---- another number of slots

-- the words of the slots that both have are the same: so the slots of the entries have the kinds that they had, and a place between
-- entries is one still
module _ {st u : Store} {s : State} (h : Shows st s) (r : Resized st u) (recs : u.records ≡ st.records) (bs : u.bytes ≡ st.bytes)
    (heads : (k : ℕ) → k < extent st → get_or u.heads k 0 ≡ get_or st.heads k 0) where
  same_rows : rows_of (trim u) ≡ rows_of (trim st)
  same_rows = rows-resized st u r recs bs

  same_kinds : (k : ℕ) → Has (rows_of (trim st)) k → kind_at (trim u) k ≡ kind_at (trim st) k
  same_kinds k x =
      let a = slot-below (trim st) h.roomy.lawful k x in
      let b = slot-below (trim u) r.roomy.lawful k (subst (λ (rs : List Row). Has rs k) (sym same_rows) x) in
      let c : k < extent st = omega (arith, a, h.roomy.lawful.exact.heads) in
      let d : k < extent u = omega (arith, b, r.roomy.lawful.exact.heads) in
      ap kind_of (get_or-take (extent u) u.heads k 0 d ∙ (heads k c ∙ sym (get_or-take (extent st) st.heads k 0 c)))

  pub gap-resized : (k : ℕ) (d : Path) (x : Name) → Between (kind_at (trim st)) (take k (rows_of (trim st))) (drop k (rows_of (trim st))) d x
      → Between (kind_at (trim u)) (take k (rows_of (trim u))) (drop k (rows_of (trim u))) d x
  gap-resized k d x g =
      subst (λ (rs : List Row). Between (kind_at (trim u)) (take k rs) (drop k rs) d x) (sym same_rows)
      (gap_by (kind_at (trim u)) (kind_at (trim st)) (take k (rows_of (trim st))) (drop k (rows_of (trim st))) d x (λ i z. same_kinds i (has_take k (rows_of (trim st)) i z)) g)

-- ---- a slot reserved

module _ {st u : Store} {s : State} (h : Shows st s) (r : Reserved st u) (recs : u.records ≡ st.records) (bs : u.bytes ≡ st.bytes) where
  abbrev w : Shows u s
  w = shows-resized h r.resized

  -- ---- room

  abbrev l : Lawful (trim u)
  l = w.roomy.lawful

  abbrev was : State
  was = state (trim u)

  module _ (d : Path) (x : Name) (made : Made) (new : Fresh) (o : Holds made) (f : Fits (edited (insertion made new (d ++ (x ∷ []))) s)) (e : look was.tree (d ++ (x ∷ [])) ≡ none) where
    abbrev p : Path
    p = d ++ (x ∷ [])

    name_is : name_length p ≡ length x
    unfolding name_length
    name_is = last_name_lem d x []

    allowed : Insertable (trim u) x made
    allowed = go made o f
      where
        fit : (y : Made) (grown : ℕ) (v : State) → Uses was v 1 0 grown 0 → grown ≡ length x + length (bytes_made y) → Fits v → v.most ≡ most (trim u) → v.room ≡ room (trim u) → Holds y → Insertable (trim u) x y
        fit y grown v a b z i j q = record {
          more = omega (arith, a.entries, entries-used (trim u) l, z.0, i);
          fits = omega (arith, a.bytes, bytes-used (trim u) l, z.1, j, b);
          holds = q;
        }

        go : (y : Made) → Holds y → Fits (edited (insertion y new p) s) → Insertable (trim u) x y
        go Directory q z =
            fit Directory (name_length p) (edited (insertion Directory new p) was) (after-make was (was_spaced w) p (fresh_meta new) e) (omega (arith, name_is))
            (fits-back w (insertion Directory new p ∷ []) z) refl refl q
        go (File c) q z =
            fit (File c) (name_length p + length c.now) (edited (insertion (File c) new p) was) (after-create was (was_spaced w) p (record { meta = fresh_meta new; bytes = c.now }) e)
            (omega (arith, name_is)) (fits-back w (insertion (File c) new p ∷ []) z) refl refl q
        go (Link c) q z =
            fit (Link c) (name_length p + length c.now) (edited (insertion (Link c) new p) was) (after-symlink was (was_spaced w) p (fresh_meta new) c.now e) (omega (arith, name_is))
            (fits-back w (insertion (Link c) new p ∷ []) z) refl refl q

  -- ---- what an insertion asks

  pub insert-may : (made : Made) (new : Fresh) {x : Name} {gap : Gap} {d : Path} → T (name_ok x) → Holds made → MayMake x gap (insertion made new) st s d
      → MayInsert (trim u) gap.at gap.depth d x made
  insert-may made new {x} {gap} {d} n o f = record {
    vacant = record {
      first = vac.first;
      last = omega (arith, vac.last, count-resized st u r.resized);
      deep = vac.deep;
      name = n;
      gap = gap-resized h r.resized recs bs (λ k b. r.heads k (λ e. omega (arith, b, e))) gap.at d x (room-between vac.room);
      missing = missing;
    };
    allowed = may;
    free = r.free (omega (arith, may.more, count-resized st u r.resized, r.resized.words 0 (λ e. omega (arith, e))));
  }
    where
      vac : Vacant (trim st) f.free.hidden d x gap
      vac = f.free.vacant

      missing : look was.tree (d ++ (x ∷ [])) ≡ none
      missing = look-missing w (d ++ (x ∷ [])) f.free.missing

      may : Insertable (trim u) x made
      may = allowed d x made new o f.fits missing

      -- an entry that counts as out has another path
      room-between : Room (trim st) f.free.hidden d x gap.at → Between (kind_at (trim st)) (take gap.at (rows_of (trim st))) (drop gap.at (rows_of (trim st))) d x
      room-between (between g) = g
      room-between (instead a b z g) =
          clash (look (state (trim st)).tree (d ++ (x ∷ []))) _ (look-missing h (d ++ (x ∷ [])) f.free.missing)
          (ap (look (state (trim st)).tree) (sym z) ∙ path-look (trim st) h.roomy.lawful f.free.hidden a)

-- ---- where the entry stands

-- the names before record k, by the entries
pub names_upto : (st : Store) → Lawful st → (k : ℕ) → k ≤ count st → name_sum (take k (rows_of st)) ≡ name_total (take k st.records)
unfolding name_total
names_upto st l k h =
    let a = name-offset 0 k (live st) st.bytes (omega (arith, l.space, l.exact.bytes)) in
    let b : take (0 + k) (live st) ≡ take k (live st) = ap (λ (n : ℕ). take n (live st)) (let y : 0 + k ≡ k = omega arith in y) in
    omega (arith, a, ap name_total b, total-live st l k h)

-- the record behind the first k entries, which are those of another store
pub at_behind : (a v : Store) → Lawful a → Lawful v → (k off : ℕ) (r : Row) (rest : List Row) (p : Path) → k ≤ count a → off ≡ name_total (take k a.records)
    → rows_of v ≡ take k (rows_of a) ++ (r ∷ rest) → path_of (path_after [] (take k (rows_of a))) r ≡ p → At v (record { at = k; off = off }) p
unfolding path_after
at_behind a v la lv k off r rest p h o e z =
    let front : List Row = take k (rows_of a) in
    let long : length front ≡ k = length-take-le k (rows_of a) (omega (arith, rows_long a la, h)) in
    let upto : List Row = front ++ (r ∷ []) in
    let more : length upto ≡ suc k = omega (arith, length-append front (r ∷ []), long) in
    let low : k < count v = omega (arith, ap length e, length-append front (r ∷ rest), long, rows_long v lv) in
    let same : take k (rows_of v) ≡ front = ap (take k) e ∙ take_at front (r ∷ rest) k long in
    let first : take (suc k) (rows_of v) ≡ upto = ap (take (suc k)) (e ∙ sym (append_assoc front (r ∷ []) rest)) ∙ take_at upto rest (suc k) more in
    record {
      within = low;
      offset = omega (arith, o, names_upto a la k h, names_upto v lv k (omega (arith, low)), ap name_sum same);
      path = ap (path_after []) first ∙ (after_both [] front (r ∷ []) ∙ z);
    }

-- the new entry
pub at_inserted : (a v : Store) → Lawful a → (k off : ℕ) (made : Made) (new : Fresh) (q : Path) (x : Name) → k ≤ count a → off ≡ name_total (take k a.records)
    → take (length q) (path_after [] (take k (rows_of a))) ≡ q → InsertedAt a v k q x made new → At v (record { at = k; off = off }) (q ++ (x ∷ []))
at_inserted a v l k off made new q x h o g z =
    at_behind a v l z.spells.lawful k off (new_row q x z.slot) (drop k (rows_of a)) (q ++ (x ∷ [])) h o z.rows (ap (λ (r : Path). r ++ (x ∷ [])) g)

-- the spot of the gap is the new entry's
module _ {st u v : Store} {s : State} (h : Shows st s) (r : Reserved st u) (recs : u.records ≡ st.records) (bs : u.bytes ≡ st.bytes) where
  pub stands-new : {x : Name} {made : Made} {new : Fresh} {n : ℕ} {d : Path} (gap : Gap) → Vacant (trim st) n d x gap → MayInsert (trim u) gap.at gap.depth d x made
      → InsertedAt (trim u) v gap.at d x made new → Stands (whole u v) (record { at = gap.at; off = gap.off }) (d ++ (x ∷ []))
  stands-new {x = x} {made = made} {new = new} {d = d} gap a may z =
      subst (λ (y : Store). At y (record { at = gap.at; off = gap.off }) (d ++ (x ∷ []))) (sym (trim_whole u v z.spells.lawful))
      (at_inserted (trim u) v r.resized.roomy.lawful gap.at gap.off made new d x may.vacant.last
      (a.offset ∙ ap (λ (ws : List ℕ). name_total (take gap.at ws)) (sym recs)) may.vacant.gap.within z)
