-- Edits one after the other. A call's program changes one world from edit to edit; a store shows the state after each. Files that nothing
-- names or holds are dropped after each edit in the one and at the end in the other, and no state tells the difference.
-- Assumes nothing.
use mathlib.Core.List.{List}
use mathlib.Core.Path.{refl}
use native.Mathlib.Omega.{arith}
use Rattle.model.specs.Prog.{World, Edit}
use Rattle.model.specs.Calls.States.{State, world_of, state_of}
use Rattle.model.specs.Shaped.{Shaped}
use Rattle.model.proofs.Alike.Chain.{applied, edited_by, tidy-edits, even-edits, left_shaped, even_left, edits_left}
use Rattle.model.proofs.Alike.Runs.{even-used}
use Rattle.model.proofs.Alike.States.{alike-trans}
use Rattle.model.proofs.Demand.Keeping.{Empty}
use Rattle.model.proofs.Demand.Tidy.{Tidy}
use Rattle.layout.specs.Store.{Store, state}
use Rattle.edit_room.specs.Extents.{trim}
use Rattle.store.specs.Shows.{Shows}
use Rattle.store_edit.specs.Turns.{Fits}

module _ (s : State) (v : World) (d : Tidy v) (e : Empty v) (o : Shaped (state_of s v)) (es : List Edit) where
  -- what is shown after the edits of the state so far is what is left of the world after them
  pub shows-chain : (u : Store) → Shows u (edited_by es (state_of s v)) → Shows u (state_of s (applied es v))
  shows-chain u h =
      let k = edits_left s v d e o es in
      record {
        roomy = h.roomy;
        shaped = left_shaped (edited_by es (state_of s v)) s (applied es v) h.shaped (tidy-edits es v d) k;
        alike = alike-trans (state (trim u)) (edited_by es (state_of s v)) (state_of s (applied es v)) h.shaped h.alike k;
      }

  -- and the one fits where the other does
  pub fits-chain : Fits (state_of s (applied es v)) → Fits (edited_by es (state_of s v))
  fits-chain f =
      let u = even-used (state_of s v) s refl refl (applied es (world_of (state_of s v))) (applied es v) (even-edits es (world_of (state_of s v)) v (even_left s v d e o)) in
      (omega (arith, f.0, u.0), omega (arith, f.1, u.1))
