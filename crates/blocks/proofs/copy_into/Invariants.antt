-- `blocks::copy_into` meets its contract: the elements so far are copied. Assumes nothing.
use mathlib.Core.Path.{◌≡◌}
use lib.Seq.{paste}
use Rattle.blocks.proofs.copy_into.Given as goal

abbrev pub invariant-loop-j : goal.invariant-loop-j
invariant-loop-j g l = l.dst ≡ paste l.initial.dst l.at l.src l.j
