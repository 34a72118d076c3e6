-- `KeptNames::next` meets its contract. The loop's invariant: the pieces that were read keep no name.
use mathlib.Core.Path.{◌≡◌}
use Prim.Native.Nat.{◌≤◌}
use Rattle.path_scan.specs.Left.{rest}
use Rattle.path_scan.proofs.Fronts.{Reads}
use Rattle.path_scan.proofs.sifting.KeptNamesIterator.next.Given as goal

abbrev pub invariant-loop-self : goal.invariant-loop-self
invariant-loop-self l =
    (l.self.strike ≡ l.initial.self.strike) × (rest l.self.left ≤ rest l.initial.self.left)
    × Reads l.self.strike l.initial.self.left l.initial.self.skip l.self.left l.self.skip

abbrev pub decreases-loop-self : goal.decreases-loop-self
decreases-loop-self l = rest l.self.left
