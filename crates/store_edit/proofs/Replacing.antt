-- A link in the place of a file or a link: the entry is taken out and the link put where it stood. Nothing lies below a file or a link,
-- so the tree with the link over the entry is the one with the link once the entry is out.
-- Assumes nothing.
use mathlib.Core.Bool.{Bool, true, false, not}
use mathlib.Core.List.{[], ◌∷◌, ◌++◌, append-nil}
use mathlib.Core.Option.{Option, none, some}
use mathlib.Core.Path.{◌≡◌, refl, sym, ap, ◌∙◌, subst}
use Prim.Native.Nat.{ℕ}
use lib.ListN.{length, get_or}
use Rattle.text.specs.Utf8.{Bytes}
use Rattle.path.specs.Path.{Name}
use Rattle.model.specs.Tree.{Path, Meta, Node, dir, link, Entries, same_path, or_else, keep_if, look, behind, less, put, cut, unless_behind}
use Rattle.model.specs.Prog.{World, Kind, node_kind, kind?, answer, on_some, symlink, remove, apply}
use Rattle.model.specs.Shaped.{Shaped}
use Rattle.model.specs.Calls.States.{State, world_of, state_of, edited}
use Rattle.model.proofs.Demand.Joining.{shaped-tidy}
use Rattle.model.proofs.Demand.Keeping.{Empty}
use Rattle.model.proofs.Demand.Tidy.{Tidy, tidy-edit}
use Rattle.model.proofs.Entries.{clash, look_none, look-here, behind_is, path-yes}
use Rattle.model.proofs.Space.Edits.{Leaf}
use Rattle.model.proofs.Space.Steps.{leaf_other}
use Rattle.layout.specs.Fields.{depth_of}
use Rattle.layout.specs.Store.{Store, node_at, state}
use Rattle.layout.proofs.Obeying.{lawful-parents}
use Rattle.ask_find.specs.declared.Spot.{Spot}
use Rattle.ask_find.specs.Paths.{slot_at}
use Rattle.ask_find.proofs.Records.{path-look, path-depth}
use Rattle.edit_room.specs.Extents.{trim}
use Rattle.store.specs.Shows.{Shows, Stands}
use Rattle.store.proofs.Asked.{told}
use Rattle.store_edit.specs.Turns.{Fits}
use Rattle.store_edit.specs.Entries.{FreePlace, MayMake, place_of, RemoveLeft, MayReplace}
use Rattle.store_edit.proofs.Chaining.{shows-chain, fits-chain}
use Rattle.store_edit.proofs.Inserting.{no_look}

-- ---- the tree

-- what is not there is not there in a part
rest_none : (e : Path × Node) (t : Entries) (q : Path) → look (e ∷ t) q ≡ none → look t q ≡ none
unfolding look
rest_none e t q z = go (same_path e.0 q) z
  where
    go : (b : Bool) → or_else b e.1 (look t q) ≡ none → look t q ≡ none
    go true y = clash (some e.1) e.1 y refl
    go false y = y

-- the tree without the entry and all below it, and without the entry, where nothing lies below it
less-cut : (p : Path) (t : Entries) → Leaf p t → less p (cut p t) ≡ less p t
unfolding less cut
less-cut p [] z = refl
less-cut p (e ∷ t) z = go (behind p e.0) refl (less-cut p t (λ x r. rest_none e t (p ++ (x ∷ r)) (z x r)))
  where
    go : (o : Option Path) → behind p e.0 ≡ o → less p (cut p t) ≡ less p t → less p (unless_behind o e (cut p t)) ≡ keep_if (not (same_path e.0 p)) e (less p t)
    go none y ih = ap (λ (l : Entries). keep_if (not (same_path e.0 p)) e l) ih
    go (some []) y ih = ih ∙ sym (ap (λ (b : Bool). keep_if (not b) e (less p t)) (path-yes e.0 p (behind_is p e.0 [] y ∙ append-nil p)))
    go (some (x ∷ r)) y ih = clash (look (e ∷ t) (p ++ (x ∷ r))) e.1 (z x r) (look-here e t (p ++ (x ∷ r)) (behind_is p e.0 (x ∷ r) y))

relinked : (w : World) (p : Path) (m : Meta) (t : Bytes) → Leaf p w.at → apply (symlink p m t) (apply (remove p) w) ≡ apply (symlink p m t) w
unfolding apply put
relinked w p m t z = ap (λ (l : Entries). record { at = (p, link m t) ∷ l; hand = w.hand; files = w.files; opens = w.opens; here = w.here; mask = w.mask }) (less-cut p w.at z)

-- ---- the states that a store shows

module _ {st : Store} {s : State} (h : Shows st s) (spot : Spot) (p : Path) (a : Stands st spot p) (m : Meta) (t : Bytes) (f : MayReplace m t s p) where
  there : look (state (trim st)).tree p ≡ some (node_at (trim st) (slot_at (trim st) spot.at))
  there = ap (look (state (trim st)).tree) (sym a.path) ∙ path-look (trim st) h.roomy.lawful spot.at a.within

  not-dir : (n : Meta) → node_at (trim st) (slot_at (trim st) spot.at) ≡ dir n → ⊥
  unfolding answer node_kind
  not-dir n e =
      f.not_dir (sym (told st s h (kind? p)) ∙ ap (λ (o : Option Node). on_some {B = Kind} o (λ b. some (node_kind b))) (there ∙ ap some e))

  below : Leaf p s.tree
  unfolding answer
  below x r =
      let e = leaf_other (state (trim st)).tree (lawful-parents (trim st) h.roomy.lawful) p (node_at (trim st) (slot_at (trim st) spot.at)) there not-dir x r in
      no_look (look s.tree (p ++ (x ∷ r))) (sym (told st s h (kind? (p ++ (x ∷ r)))) ∙ ap (λ (o : Option Node). on_some {B = Kind} o (λ b. some (node_kind b))) e)

  abbrev out : World
  out = apply (remove p) (world_of s)

  out_tidy : Tidy out
  out_tidy = tidy-edit (remove p) (world_of s) (shaped-tidy s h.shaped)

  out_empty : Empty out
  unfolding apply
  out_empty = look_none

  pub replace-fits : Shaped (edited (remove p) s) → Fits (edited (symlink p m t) (edited (remove p) s))
  replace-fits o = fits-chain s out out_tidy out_empty o (symlink p m t ∷ []) (subst (λ (w : World). Fits (state_of s w)) (sym (relinked (world_of s) p m t below)) f.fits)

  pub replaced : (u : Store) → Shaped (edited (remove p) s) → Shows u (edited (symlink p m t) (edited (remove p) s)) → Shows u (edited (symlink p m t) s)
  replaced u o k = subst (λ (w : World). Shows u (state_of s w)) (relinked (world_of s) p m t below) (shows-chain s out out_tidy out_empty o (symlink p m t ∷ []) u k)

-- ---- the place of the entry

-- once it is out the link may stand there: a record says how many names the path has
pub replace-may : {st u : Store} {s : State} (h : Shows st s) (spot : Spot) (d : Path) (x : Name) (a : Stands st spot (d ++ (x ∷ []))) (m : Meta) (t : Bytes) → MayReplace m t s (d ++ (x ∷ []))
    → RemoveLeft spot d x u s → (n : ℕ) → n ≡ depth_of (get_or st.records spot.at 0) → MayMake x (place_of spot n) (λ p. symlink p m t) u (edited (remove (d ++ (x ∷ []))) s) d
replace-may {st = st} {u = u} {s = s} h spot d x a m t f r n e = record {
  free =
      subst (λ (k : ℕ). FreePlace x (place_of spot k) u (edited (remove (d ++ (x ∷ []))) s) d)
      (ap length (sym a.path) ∙ (path-depth (trim st) h.roomy.lawful spot.at a.within ∙ sym e)) r.free;
  fits = replace-fits h spot (d ++ (x ∷ [])) a m t f r.shows.shaped;
}
