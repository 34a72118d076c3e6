-- Where an entry may be moved, by what the functions of `find` answer: the place before the record where a name is missing, in a
-- directory that is not the entry and does not lie below it.
-- Assumes nothing.
use mathlib.Core.Bool.{Bool, true, false}
use mathlib.Core.Option.{none}
use mathlib.Core.Path.{◌≡◌, refl}
use Prim.Native.Nat.{ℕ, ◌≤◌, ◌<◌}
use native.Mathlib.Omega.{arith}
use lib.Dec.{leb}
use lib.ListN.{length}
use borrow.Author.Tests.{leb-true, leb-false}
use Rattle.path.specs.Path.{Name}
use Rattle.model.specs.Tree.{behind}
use Rattle.layout.specs.Store.{Store}
use Rattle.layout.specs.Lawful.{Lawful}
use Rattle.layout.proofs.Edited.Removing.{rises-behind}
use Rattle.ask_find.specs.Paths.{path_at}
use Rattle.ask_find.specs.Spots.{block_end, between}
use Rattle.ask_find.proofs.Records.{path-rises}
use Rattle.ask_used.proofs.Weighing.{name-long}
use Rattle.edit_entry.specs.Movement.{Movable}
use Rattle.store_edit.proofs.Ways.{way}
use Rattle.test_tried.specs.Tried.{Spotted, Renamable}
use Rattle.test_tried.proofs.Spots.{at_record}

module _ {st : Store} (l : Lawful st) {i n : ℕ} (m : Renamable st i n) {e dir p depth : ℕ} {y : Name} (z : e ≡ block_end st i) (o : i ≤ dir → dir < e → ⊥) (s : Spotted st dir p depth y) where
  -- the directory stands before the entry, and so its path does not begin with the entry's
  outside : i < p → p ≤ e → behind (path_at st i) (path_at st dir) ≡ none
  outside u v = go (leb i dir) refl
    where
      go : (b : Bool) → leb i dir ≡ b → behind (path_at st i) (path_at st dir) ≡ none
      go true f = absurd (o (leb-true i dir f) (omega (arith, s.after)))
      go false f = rises-behind (path_at st i) (path_at st dir) (path-rises st l dir i (leb-false i dir f) m.last)

  pub movable : n ≡ length y → Movable st i e p depth y
  movable f =
      let v = s.vacant in
      (way st l i m.last (path_at st dir) y v.name p v.first v.last (between v.gap) m.first e z outside depth v.deep
      (omega (arith, f, m.fits, name-long st l _ (path_at st i) (at_record st i _ m.last refl)))).may
