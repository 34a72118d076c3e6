-- `Kept::measure` meets its contract: no text keeps nothing, and a plain text keeps every piece of its part.
use mathlib.Core.Path.{sym, ap, ◌∙◌, subst}
use Prim.Native.Nat.{ℕ}
use native.Mathlib.Omega.{arith}
use lib.ListN.{length}
use borrow.Author.Tests.{eqb-true}
use Rattle.path.specs.Path.{body}
use Rattle.path.specs.Backward.{Sifted}
use Rattle.path.proofs.Following.{sifted-empty}
use Rattle.path.proofs.Reading.{body_none}
use Rattle.path_scan.specs.Measure.{Measured}
use Rattle.path_scan.specs.Plain.{PlainPart}
use Rattle.path_scan.proofs.Trimming.{part-long}
use Rattle.path_scan.proofs.kept.Kept.measure.Goals.{Then-is_empty, In-Some}
use Rattle.path_scan.proofs.kept.Kept.measure.Goals as goal

nothing : (c : Then-is_empty) → let a = c.args in Measured a.strike a.behind a.text.now 0 a.behind
nothing c =
    let a = c.args in
    let e = sifted-empty a.strike a.behind a.text.now (eqb-true _ _ (sym c.is_empty.ensures ∙ c.if-is_empty.true)) in
    record { long = body_none ∙ sym (ap (λ (z : Sifted). length (body z.kept)) e); drops = sym (ap (λ (z : Sifted). z.skip) e); few = omega arith }

pub invariant_of-result : goal.invariant_of-result
invariant_of-result c =
    let m = nothing (goal.at.invariant_of-result c).Then-is_empty in
    record { small = c.requires; long = m.long; drops = m.drops; few = m.few; stands = tt }

plain : (c : In-Some) → let a = c.args in PlainPart c.in-Some.names.now a.strike a.behind a.text.now
plain c = let a = c.args in subst (λ (k : ℕ). PlainPart c.in-Some.names.now a.strike k a.text.now) (sym c.if-behind-eq0.true) (c.in-Some.ensures a.strike)

pub invariant_of-result-in-Some : goal.invariant_of-result-in-Some
invariant_of-result-in-Some c =
    record {
      small = c.requires;
      long = part-long _ _ _ _ (plain c);
      drops = sym (ap (λ (z : Sifted). z.skip) (plain c).1.2);
      few = omega arith;
      stands = plain c;
    }
