-- An entry taken out with all below it. What stood before it and what stood behind all below it stand beside each other, so its place is
-- one for an entry of its name, and the name is missing in the state without it.
-- Assumes nothing.
use mathlib.Core.List.{List, [], ◌∷◌, ◌++◌, append-nil}
use mathlib.Core.Option.{none}
use mathlib.Core.Path.{◌≡◌, refl, sym, ap, ◌∙◌, subst}
use Prim.Native.Nat.{ℕ, ◌≤◌, ◌<◌}
use native.Mathlib.Omega.{arith}
use lib.ListN.{length, take, drop, get_or, length-append}
use lib.Seq.{take_at, drop_at, length-take-le}
use Rattle.path.specs.Path.{Name}
use Rattle.model.specs.Tree.{Path, behind}
use Rattle.model.specs.Prog.{kind?, answer, remove, apply}
use Rattle.model.specs.Calls.States.{State, edited}
use Rattle.model.proofs.Entries.{behind-self, cut_in}
use Rattle.layout.specs.Rows.{Row, name_total}
use Rattle.layout.specs.Store.{Store, lent, count, rows_of, kind_at}
use Rattle.layout.specs.Lawful.{uses, Lawful}
use Rattle.layout.specs.Parts.{Between}
use Rattle.layout.proofs.Edited.Parted.{Has, has_first}
use Rattle.layout.proofs.Named.{name_sum}
use Rattle.ask_find.specs.declared.Spot.{Spot}
use Rattle.ask_find.specs.Spots.{block_end, between}
use Rattle.ask_find.proofs.Instead.{gap-instead, not_root}
use Rattle.ask_find.proofs.Records.{rows_long}
use Rattle.edit_entry.specs.Removal.{Block, RemovedAt}
use Rattle.edit_room.specs.Extents.{trim, Roomy, Resized, Released}
use Rattle.store.specs.Shows.{Shows, Stands, says}
use Rattle.store_edit.specs.Entries.{place_of, FreePlace}
use Rattle.store_edit.proofs.Blocks.{block_of}
use Rattle.store_edit.proofs.Carrying.{whole, trim_whole}
use Rattle.store_edit.proofs.Inserting.{gap_by, gap-resized, names_upto}
use Rattle.store_edit.proofs.Resizing.{count-resized}

-- the state without the entry has none of its name
pub removed-missing : (s : State) (p : Path) → says (kind? p) (edited (remove p) s) ≡ none
unfolding answer apply
removed-missing s p = rw (cut_in p p [] s.tree (ap (behind p) (sym (append-nil p)) ∙ behind-self p [])) refl

module _ {st : Store} {s : State} (h : Shows st s) (spot : Spot) (d : Path) (x : Name) (a : Stands st spot (d ++ (x ∷ []))) where
  abbrev l : Lawful (trim st)
  l = h.roomy.lawful

  abbrev i : ℕ
  i = spot.at

  abbrev p : Path
  p = d ++ (x ∷ [])

  pub not_first_lem : 0 < i
  not_first_lem = not_root (trim st) l i a.within d x a.path

  pub remove-block : (e : ℕ) → e ≡ block_end (trim st) i → Block (trim st) i e
  remove-block e z = block_of (trim st) l i e a.within not_first_lem z

  module _ {v : Store} (e : ℕ) (z : e ≡ block_end (trim st) i) (k : RemovedAt (trim st) v i e p) where
    abbrev rs : List Row
    rs = rows_of (trim st)

    front_long : length (take i rs) ≡ i
    front_long = length-take-le i rs (omega (arith, rows_long (trim st) l, a.within))

    front : take i (rows_of v) ≡ take i rs
    front = ap (take i) k.rows ∙ take_at (take i rs) (drop e rs) i front_long

    rear : drop i (rows_of v) ≡ drop e rs
    rear = ap (drop i) k.rows ∙ drop_at (take i rs) (drop e rs) i front_long

    in_left : (n : ℕ) → Has (take i rs) n → 0 < uses n (rows_of v)
    in_left n q = omega (arith, subst (λ (l : List Row). Has l n) (sym k.rows) (has_first (take i rs) (drop e rs) n q))

    gap-left : Between (kind_at v) (take i (rows_of v)) (drop i (rows_of v)) d x
    gap-left =
        subst (λ (b : List Row). Between (kind_at v) (take i (rows_of v)) b d x) (sym rear)
        (subst (λ (b : List Row). Between (kind_at v) b (drop e rs) d x) (sym front)
        (gap_by (kind_at v) (kind_at (trim st)) (take i rs) (drop e rs) d x (λ n q. k.kinds n (in_left n q))
        (subst (λ (n : ℕ). Between (kind_at (trim st)) (take i rs) (drop n rs) d x) (sym z) (gap-instead (trim st) l i a.within d x a.path))))

    within : i ≤ count v
    within = omega (arith, ap length k.rows, length-append (take i rs) (drop e rs), front_long, rows_long v k.spells.lawful)

    offset : spot.off ≡ name_total (take i v.records)
    offset =
        a.offset
        ∙ omega (arith, names_upto (trim st) l i (omega (arith, a.within)), names_upto v k.spells.lawful i within, ap name_sum front)

    -- the same once free slots at the end are given up
    pub removed-free : {u : Store} → Shows (whole st v) (edited (remove p) s) → Resized (whole st v) u → u.records ≡ v.records → u.bytes ≡ v.bytes → u.heads ≡ (whole st v).heads
        → FreePlace x (place_of spot (length p)) u (edited (remove p) s) d
    removed-free {u = u} w r recs bs hs =
        let n : Between (kind_at (trim (whole st v))) (take i (rows_of (trim (whole st v)))) (drop i (rows_of (trim (whole st v)))) d x =
        subst (λ (y : Store). Between (kind_at y) (take i (rows_of y)) (drop i (rows_of y)) d x) (sym (trim_whole st v k.spells.lawful)) gap-left in
        record {
          hidden = count u;
          vacant = record {
            first = not_first_lem;
            last = omega (arith, within, count-resized (whole st v) u r);
            offset = offset ∙ ap (λ (ws : List ℕ). name_total (take i ws)) (sym recs);
            deep = length-append d (x ∷ []) ∙ omega arith;
            room = between (gap-resized w r recs bs (λ j b. ap (λ (l : List ℕ). get_or l j 0) hs) i d x n);
          };
          missing = removed-missing s p;
        }

    -- by what is said of the words of the state and of the slots alone
    pub removed-released : {ws : List ℕ} → Shows (whole st v) (edited (remove p) s)
        → ((o : Store) → Roomy (lent v.words o.records (whole st v).heads o.times o.paths o.bytes)
        → Released (lent v.words o.records (whole st v).heads o.times o.paths o.bytes) (lent ws o.records (whole st v).heads o.times o.paths o.bytes))
        → FreePlace x (place_of spot (length p)) (lent ws v.records (whole st v).heads v.times v.paths v.bytes) (edited (remove p) s) d
    removed-released w f = removed-free w (f (whole st v) w.roomy).resized refl refl refl
