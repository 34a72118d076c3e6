-- The root of an empty tree: a state without one is read back from a store without entries, which has a free slot once one is reserved,
-- and the root is the first record.
-- Assumes nothing.
use mathlib.Core.List.{[], ◌∷◌}
use mathlib.Core.Option.{none}
use mathlib.Core.Path.{◌≡◌, refl, sym, ap, ◌∙◌, subst}
use Prim.Native.Nat.{◌≤◌, ◌<◌}
use native.Mathlib.Decide.{ℕ_discrete}
use native.Mathlib.Omega.{arith}
use lib.ListN.{length}
use Rattle.model.specs.Tree.{Meta, Entries, same_path, look, put}
use Rattle.model.specs.Prog.{on_some, make, apply}
use Rattle.model.specs.Alike.{Alike}
use Rattle.model.specs.Calls.States.{State, edited}
use Rattle.model.specs.Fuller.{shown_dir, shown_node, shown}
use Rattle.model.proofs.Entries.{clash}
use Rattle.model.proofs.Space.After.{after-make}
use Rattle.layout.specs.Rows.{name_total}
use Rattle.layout.specs.Store.{Store, most, count, state}
use Rattle.layout.specs.Lawful.{Lawful}
use Rattle.layout.proofs.Used.{entries-used}
use Rattle.ask_find.specs.Spots.{At}
use Rattle.ask_find.proofs.Records.{path-look}
use Rattle.edit_entry.specs.declared.made.Fresh.{Fresh}
use Rattle.edit_entry.specs.Made.{fresh_meta}
use Rattle.edit_entry.specs.Insertion as insertion
use Rattle.edit_room.specs.Extents.{trim, Reserved}
use Rattle.store.specs.Shows.{Shows, Stands}
use Rattle.store_edit.specs.Entries.{MayMakeRoot}
use Rattle.store_edit.proofs.Blocks.{first_path}
use Rattle.store_edit.proofs.Carrying.{whole, trim_whole, shows-resized}
use Rattle.store_edit.proofs.Fitting.{was_spaced, fits-back}
use Rattle.store_edit.proofs.Inserting.{look-missing}
use Rattle.store_edit.proofs.Resizing.{count-resized, most_resized}

module _ {st u : Store} {s : State} (h : Shows st s) (r : Reserved st u) where
  abbrev w : Shows u s
  w = shows-resized h r.resized

  pub root-may : (m : Meta) → MayMakeRoot m s → insertion.MayRoot (trim u)
  root-may m f = record { empty = empty (ℕ_discrete (count u) 0); free = r.free (omega (arith, empty (ℕ_discrete (count u) 0), few, count-resized st u r.resized, most_resized st u r.resized)) }
    where
      missing : look (state (trim u)).tree [] ≡ none
      missing = look-missing w [] f.missing

      empty : Dec (count u ≡ 0) → count u ≡ 0
      empty (yes e) = e
      empty (no n) =
          let low : 0 < count u = omega (arith, n) in
          clash (look (state (trim u)).tree []) _ missing (ap (look (state (trim u)).tree) (sym (first_path (trim u) w.roomy.lawful low)) ∙ path-look (trim u) w.roomy.lawful 0 low)

      few : 1 ≤ most u
      few = omega (arith, (fits-back w (make [] m ∷ []) f.fits).0, (after-make (state (trim u)) (was_spaced w) [] m missing).entries)

none_there : (t : Entries) → length t ≡ 0 → t ≡ []
none_there [] e = refl
none_there (x ∷ t) e = absurd (omega (arith, e))

-- a store that spells a state with a root has a record
has_root : (v : Store) (a : State) (m : Meta) → Lawful v → Alike (state v) (edited (make [] m) a) → 0 < count v
unfolding shown shown_node apply look put same_path
has_root v a m l h = go (ℕ_discrete (count v) 0)
  where
    go : Dec (count v ≡ 0) → 0 < count v
    go (no n) = omega (arith, n)
    go (yes e) =
        let z : (state v).tree ≡ [] = none_there (state v).tree (entries-used v l ∙ e) in
        clash (shown (state v) []) (shown_dir m) (ap (λ (t : Entries). on_some (look t []) (shown_node (state v))) z) (h.entries [])

pub stands-root : {u v : Store} {s : State} → Shows u s → (new : Fresh) → insertion.Rooted (trim u) v new → Stands (whole u v) (record { at = 0; off = 0 }) []
unfolding name_total
stands-root {u = u} {v = v} h new k =
    let low = has_root v (state (trim u)) (fresh_meta new) k.lawful k.alike in
    subst (λ (y : Store). At y (record { at = 0; off = 0 }) []) (sym (trim_whole u v k.lawful))
    (record { within = low; offset = refl; path = first_path v k.lawful low })
