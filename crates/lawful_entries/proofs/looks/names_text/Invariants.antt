-- `names_text` meets its contract. The loop's invariant: the names of the records that are left, which stand in `rest`, decide.
-- Assumes nothing.
use mathlib.Core.Path.{◌≡◌}
use Prim.Native.Nat.{◌≤◌}
use lib.ListN.{length, drop}
use Rattle.layout.specs.Rows.{rows, name_total}
use Rattle.lawful_entries.specs.Looks.{text_rows}
use Rattle.lawful_entries.proofs.looks.names_text.Given as goal

abbrev pub invariant-loop-w : goal.invariant-loop-w
invariant-loop-w l = (name_total (drop l.w-index l.recs) ≤ length l.rest) × (text_rows (rows l.recs l.bytes) ≡ text_rows (rows (drop l.w-index l.recs) l.rest))
