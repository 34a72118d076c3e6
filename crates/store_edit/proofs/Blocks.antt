-- An entry with all below it, in a store that obeys the rules: only the root's path has no name, so the record of any other stands
-- behind the root's, and the records up to the end of what lies below it are a block.
-- Assumes nothing.
use mathlib.Core.List.{List, []}
use mathlib.Core.Path.{◌≡◌, sym, ◌∙◌, subst}
use Prim.Native.Nat.{ℕ, zero, suc, ◌+◌, ◌<◌}
use native.Mathlib.Omega.{arith}
use lib.ListN.{drop, get_or}
use Rattle.path.proofs.Cutting.{drop_of_take}
use Rattle.model.specs.Tree.{Path}
use Rattle.layout.specs.Fields.{depth_of}
use Rattle.layout.specs.Store.{Store, count, live, rows_of}
use Rattle.layout.specs.Lawful.{Lawful}
use Rattle.layout.specs.Parts.{path_after, Deeper}
use Rattle.ask_find.specs.declared.Spot.{Spot}
use Rattle.ask_find.specs.Paths.{path_at}
use Rattle.ask_find.specs.Spans.{span}
use Rattle.ask_find.specs.Spots.{At, block_end}
use Rattle.ask_find.proofs.Blocks.{block-after, block-live, block_last, block-parts}
use Rattle.ask_find.proofs.Records.{path_next, root-path}
use Rattle.edit_entry.specs.Removal.{Block}
use Rattle.edit_room.specs.Extents.{trim}
use Rattle.model.specs.Calls.States.{State}
use Rattle.store.specs.Shows.{Shows, Stands}

module _ (st : Store) (l : Lawful st) where
  -- the path of the first record is the root's
  pub first_path : 0 < count st → path_at st 0 ≡ []
  unfolding path_after
  first_path h = path_next st l 0 h ∙ root-path st l h

  -- an entry whose path has a name is not the root
  pub below_root : (spot : Spot) (p : Path) → At st spot p → (p ≡ [] → ⊥) → 0 < spot.at
  below_root spot p a n = go spot.at a.within a.path
    where
      go : (k : ℕ) → k < count st → path_at st k ≡ p → 0 < k
      go zero h e = absurd (n (sym e ∙ first_path h))
      go (suc k) h e = omega arith

  -- the records up to its end are the entry and all below it
  pub block_of : (i e : ℕ) → i < count st → 0 < i → e ≡ block_end st i → Block st i e
  block_of i e h a z =
      let b = block-parts st l i h a in
      let w : Block st i (block_end st i) =
      record {
        first = a;
        some = block-after st l i h;
        last = block_last st l i h;
        below = subst (Deeper (depth_of (get_or st.records i 0))) (sym (drop_of_take (suc i) (block_end st i) (rows_of st))) b.deeper;
        behind = b.beyond;
      } in
      subst (Block st i) (sym z) w

-- what `ask_find::block_end` answers of the records that there are
pub block_told : {st : Store} {s : State} {spot : Spot} {p : Path} → Shows st s → Stands st spot p → {ws : List ℕ} {e : ℕ} → ws ≡ live st
    → e ≡ spot.at + 1 + span (depth_of (get_or ws spot.at 0)) (drop (spot.at + 1) ws) → e ≡ block_end (trim st) spot.at
block_told {st} h a r z = block-live (trim st) r a.within z
