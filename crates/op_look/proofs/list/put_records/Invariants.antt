-- `put_records` meets its contract. The loop's invariant: in every state that a store with the slices shows, the records of the entries that
-- were given out stand in front of the row, and the others are left. The measure is the room behind them.
-- Assumes nothing.
use Prim.Native.Nat.{◌-◌}
use lib.ListN.{length}
use Rattle.op_look.proofs.Listing.{five, Filling}
use Rattle.op_look.proofs.list.put_records.Given as goal

abbrev pub invariant-loop-step : goal.invariant-loop-step
invariant-loop-step l = Filling (five l.tree l.times) l.initial.step l.initial.rows l.rows l.at l.step

abbrev pub decreases-loop-step : goal.decreases-loop-step
decreases-loop-step l = length l.rows - l.at
