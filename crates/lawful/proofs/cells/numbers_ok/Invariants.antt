-- `numbers_ok` meets its contract. The loop's invariant: the numbers below j are right.
-- Assumes nothing.
use Prim.Native.Nat.{ℕ, ◌<◌}
use lib.Dec.{T}
use Rattle.lawful.specs.Parts.{number_in}
use Rattle.lawful.proofs.cells.numbers_ok.Given as goal

abbrev pub invariant-loop-j : goal.invariant-loop-j
invariant-loop-j l = (k : ℕ) → k < l.j → T (number_in l.words l.paths l.n k)
