-- `find_from` meets its contract: at each record the scan from there on gives the answer. Assumes nothing.
use mathlib.Core.Path.{◌≡◌}
use Prim.Native.Nat.{◌+◌}
use Rattle.ask_find.specs.Finds.{scan, Within}
use Rattle.ask_find.proofs.find_from.Given as goal

abbrev pub invariant-loop-w : goal.invariant-loop-w
invariant-loop-w l =
    (l.spot.at ≡ l.fn.start.at + l.w-index) × Within l.records l.bytes l.spot × (scan l.records l.bytes l.d l.name l.fn.start ≡ scan l.records l.bytes l.d l.name l.spot)
