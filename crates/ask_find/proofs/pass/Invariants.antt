-- `pass` meets its contract: whatever the name is that begins with the key, the scan from the record reached gives the
-- answer. Assumes nothing.
use mathlib.Core.Path.{◌≡◌}
use Prim.Native.Nat.{◌+◌}
use Rattle.ask_find.specs.Finds.{Passed}
use Rattle.ask_find.proofs.pass.Given as goal

abbrev pub invariant-loop-w : goal.invariant-loop-w
invariant-loop-w l = (l.spot.at ≡ l.fn.start.at + l.w-index) × Passed l.records l.bytes l.d l.key l.fn.start l.spot
