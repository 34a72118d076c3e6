-- `text::walk` meets its contract. The loop's invariant: the whole is a text where what is left of it at i is one.
-- The measure is what is left of the length. Assumes nothing.
use mathlib.Core.Path.{◌≡◌}
use Prim.Native.Nat.{◌≤◌, ◌-◌}
use lib.ListN.{length, drop}
use Rattle.text.specs.Utf8.{octets, text}
use Rattle.text.proofs.Classes.walk.Given as goal

abbrev pub invariant-loop-i : goal.invariant-loop-i
invariant-loop-i l = (l.i ≤ length l.s) × (text l.s ≡ octets 0 (drop l.i l.s))

abbrev pub decreases-loop-i : goal.decreases-loop-i
decreases-loop-i l = length l.s - l.i
