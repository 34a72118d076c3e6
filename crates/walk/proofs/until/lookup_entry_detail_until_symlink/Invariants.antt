-- `lookup_entry_detail_until_symlink` meets its contract. The loop's invariant, of every store that has the slices and of every world that
-- it shows: the bytes that were passed lead to the entry at the spot, and the model's walk goes on from its path. It holds at the root,
-- which is not the hidden entry; a turn goes to the child that the store finds; and each return is what the model answers of the kind that
-- stands there. What the calls ask for is said of the caller's store, in a world that it shows. The measure is what is left of the path.
-- Assumes nothing.
use Prim.Native.Nat.{◌-◌}
use lib.ListN.{length}
use Rattle.model.specs.Prog.{World}
use Rattle.model.specs.Calls.States.{State}
use Rattle.layout.specs.Store.{Store}
use Rattle.layout.specs.Lent.{with_tree}
use Rattle.ask_find.specs.Spots.{hidden_at}
use Rattle.store.specs.Shows.{Shows, Asked}
use Rattle.walk.proofs.Reached.{Reached}
use Rattle.walk.proofs.until.lookup_entry_detail_until_symlink.Given as goal

abbrev pub invariant-loop-e : goal.invariant-loop-e
invariant-loop-e l = (st : Store) (s : State) (w : World) → Shows (with_tree l.tree st) s → Asked (with_tree l.tree st) s (hidden_at l.hidden) w
    → Reached (with_tree l.tree st) s w l.path l.spot l.dir l.e

abbrev pub decreases-loop-e : goal.decreases-loop-e
decreases-loop-e l = length l.path - l.e
