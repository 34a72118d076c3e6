-- `lookup_entry_detail` meets its contract. The loop's invariant: so many links were followed in every world that is asked, and the path that
-- they led to stands in front of the buffer. The measure is how many last links may still be followed.
-- Assumes nothing.
use lib.ListN.{take}
use Rattle.layout.specs.Lent.{with_tree}
use Rattle.ask_find.specs.Spots.{hidden_at}
use Rattle.walk.proofs.Chains.{Chained}
use Rattle.walk.proofs.lookup.lookup_entry_detail.Given as goal

abbrev pub invariant-loop-w : goal.invariant-loop-w
invariant-loop-w l = Chained (with_tree l.scope.tree) (hidden_at l.scope.hidden) l.scope.bound (take l.fn.len l.initial.out) l.initial.out l.out l.left l.n l.links

abbrev pub decreases-loop-w : goal.decreases-loop-w
decreases-loop-w l = l.left
