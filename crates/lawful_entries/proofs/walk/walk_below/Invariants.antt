-- `walk_below` meets its contract. The loop's invariant is `Walked`: the entries that are left decide.
-- Assumes nothing.
use Rattle.lawful_entries.proofs.Walking.{Walked}
use Rattle.lawful_entries.proofs.walk.walk_below.Given as goal

abbrev pub invariant-loop-w : goal.invariant-loop-w
invariant-loop-w l = Walked l.recs l.heads l.bytes l.last l.w-index l.off l.d l.dir
