-- `next` meets its contract: the entries among the records that are left stay the same while records are passed. Assumes nothing.
use mathlib.Core.Path.{◌≡◌}
use lib.ListN.{length}
use Rattle.ask_list.specs.Entries.{entries_at}
use Rattle.ask_list.proofs.entries.EntriesIterator.next.Given as goal

abbrev pub invariant-loop-w : goal.invariant-loop-w
invariant-loop-w l =
    let s = l.initial.self in
    entries_at l.self.depth l.self.left.now l.self.spot ≡ entries_at s.depth s.left.now s.spot

abbrev pub decreases-loop-w : goal.decreases-loop-w
decreases-loop-w l = length l.self.left.now
