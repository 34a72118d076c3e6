-- `compare_long` meets its contract: the bytes that were passed are the same. Assumes nothing.
use Prim.Native.Nat.{◌*◌}
use lib.ListN.{length}
use Rattle.name_order.proofs.Orders.{Alike}
use Rattle.name_order.proofs.compare_long.Given as goal

abbrev pub invariant-loop-x : goal.invariant-loop-x
invariant-loop-x l =
    (goal.iterator-loop-x).can_next l.x-iterator × (goal.iterator-loop-x).is_finite l.x-iterator × Alike l.a l.b (8 * length l.yielded)
