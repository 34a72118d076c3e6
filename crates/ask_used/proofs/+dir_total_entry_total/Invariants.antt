-- `dir_total` and `entry_total`: the records that are left fall at every call. The loop adds up the entries of the directory that it
-- has passed.
use Rattle.std.proofs.Common.{◌-◌, ◌≡◌, ◌≤◌, ◌+◌, ◌*◌}
use Rattle.ask_find.specs.Spans.{span}
use Rattle.ask_used.specs.Totals.{below}
use lib.ListN.{length, drop}
use Rattle.ask_used.proofs.+dir_total_entry_total.Given as goal

abbrev pub decreases-dir_total : goal.decreases-dir_total
decreases-dir_total l = 2 * (length l.records.now - l.i) + 1

abbrev pub decreases-entry_total : goal.decreases-entry_total
decreases-entry_total l = 2 * (length l.records.now - l.i)

abbrev pub invariant-dir_total-loop-j : goal.invariant-dir_total-loop-j
invariant-dir_total-loop-j l =
    (l.i ≤ l.j)
    × (l.j ≤ length l.records)
    × (l.s + below l.heads l.d (drop l.j l.records) ≡ below l.heads l.d (drop l.i l.records))
    × (l.j + span l.d (drop l.j l.records) ≡ l.i + span l.d (drop l.i l.records))

abbrev pub decreases-dir_total-loop-j : goal.decreases-dir_total-loop-j
decreases-dir_total-loop-j l = length l.records - l.j
