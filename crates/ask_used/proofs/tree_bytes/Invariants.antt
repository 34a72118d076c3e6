-- `tree_bytes` meets its contract: s has the bytes of the entries passed. Assumes nothing.
use mathlib.Core.Path.{◌≡◌}
use Prim.Native.Nat.{◌+◌, ◌-◌, ◌≤◌}
use lib.ListN.{length, drop}
use Rattle.ask_used.proofs.Totals.{sizes}
use Rattle.ask_used.proofs.tree_bytes.Given as goal

abbrev pub invariant-loop-k : goal.invariant-loop-k
invariant-loop-k l = (l.k ≤ length l.records) × (l.s + sizes l.heads (drop l.k l.records) ≡ sizes l.heads l.records)

abbrev pub decreases-loop-k : goal.decreases-loop-k
decreases-loop-k l = length l.records - l.k
