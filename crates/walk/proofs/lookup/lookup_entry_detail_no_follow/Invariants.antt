-- `lookup_entry_detail_no_follow` meets its contract. The loop's invariant: so many links were followed in every world that is asked, and the
-- path that they led to stands in front of the buffer. The measure is how many more are allowed.
-- Assumes nothing.
use Prim.Native.Nat.{◌-◌}
use lib.ListN.{take}
use Rattle.layout.specs.Lent.{with_tree}
use Rattle.ask_find.specs.Spots.{hidden_at}
use Rattle.walk.proofs.Passing.{Going}
use Rattle.walk.proofs.lookup.lookup_entry_detail_no_follow.Given as goal

abbrev pub invariant-loop-end : goal.invariant-loop-end
invariant-loop-end l = Going (with_tree l.tree) (hidden_at l.hidden) (take l.len l.initial.out) l.initial.out l.out l.n l.walk.count

abbrev pub decreases-loop-end : goal.decreases-loop-end
decreases-loop-end l = 40 - l.walk.count
