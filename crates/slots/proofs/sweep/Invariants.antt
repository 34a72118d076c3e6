-- `slots::sweep` meets its contract: the slots from k on are done, and what stands in front of src is untouched. Assumes nothing.
use Rattle.slots.proofs.Sweeps.{Sweeping}
use Rattle.slots.proofs.sweep.Given as goal

abbrev pub invariant-loop-k : goal.invariant-loop-k
invariant-loop-k l = Sweeping l.initial.heads l.initial.bytes l.marks l.heads l.bytes l.k l.src l.dst
