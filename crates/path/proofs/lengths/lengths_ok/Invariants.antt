-- `lengths::lengths_ok` meets its contract. The loop's invariant: the pieces of the rest decide, since those before it are short.
use mathlib.Core.Path.{◌≡◌}
use lib.ListN.{length}
use Rattle.path.specs.Path.{pieces, all_short}
use Rattle.path.proofs.lengths.lengths_ok.Given as goal

abbrev pub invariant-loop-head : goal.invariant-loop-head
invariant-loop-head l = all_short (pieces l.s) ≡ all_short (pieces l.rest)

abbrev pub decreases-loop-head : goal.decreases-loop-head
decreases-loop-head l = length l.rest
