-- `put_names` meets its contract: the names written and those left are all. Assumes nothing.
use Prim.Native.Nat.{◌+◌}
use lib.ListN.{get_or}
use Rattle.layout.specs.Fields.{depth_of}
use Rattle.ask_list.specs.Entries.{entries_behind}
use Rattle.ask_list.proofs.Entered.{left_in, text_of, Fits}
use Rattle.ask_list.proofs.Texts.{Written}
use Rattle.ask_list.proofs.put_names.Given as goal

abbrev pub invariant-loop-entry : goal.invariant-loop-entry
invariant-loop-entry l =
    (goal.iterator-loop-entry).can_next l.entry-iterator × (goal.iterator-loop-entry).is_finite l.entry-iterator
    × Fits l.bytes (left_in l.entry-iterator)
    × Written l.initial.out (text_of l.bytes (entries_behind l.records l.fn.spot (depth_of (get_or l.records l.fn.spot.at 0) + 1))) l.out l.k (text_of l.bytes (left_in l.entry-iterator))
