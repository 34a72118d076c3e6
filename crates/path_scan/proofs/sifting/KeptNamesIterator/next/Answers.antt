-- `KeptNames::next` meets its contract. The loop's invariant: the pieces that were read keep no name.
use mathlib.Core.Bool.{Bool}
use mathlib.Core.Path.{◌≡◌, sym, ap, ◌∙◌, subst}
use Prim.Native.Nat.{◌+◌}
use native.Mathlib.Omega.{arith}
use lib.ListN.{length}
use Rattle.std.specs.Prelude.{Some, None}
use Rattle.path.specs.Backward.{part}
use Rattle.path.proofs.Cutting.{part_length}
use Rattle.path.proofs.Dots.{up_length}
use Rattle.path_scan.specs.Left.{rest, ReadsOn}
use Rattle.path_scan.proofs.Fronts.{reads-vanished, reads_up, reads-dropped, reads-kept, reads-all}
use Rattle.path_scan.proofs.sifting.KeptNamesIterator.next.Goals.{In-Some}
use Rattle.path_scan.proofs.sifting.KeptNamesIterator.next.Goals as goal

-- what was left before the turn
size : (c : In-Some) → rest c.loop-self.self.left ≡ length c.in-Some.left.now + 1
size c = ap rest c.in-Some.is

pub loop-self-preserved-in-Vanishes : goal.loop-self-preserved-in-Vanishes
loop-self-preserved-in-Vanishes c =
    let w = c.loop-self.invariant in
    let z = size (goal.at.loop-self-preserved-in-Vanishes c).In-Some in
    let p = c.piece_start-start.ensures in (
      w.0,
      omega (arith, w.1, z, p.fits, c.before-self.ensures.0),
      reads-vanished _ _ _ _ _ w.2 _ _ _ c.in-Some.is p c.before-self.ensures (sym c.kind_of-kind.ensures ∙ c.in-Vanishes.is),
    )

pub overflow_add-self : goal.overflow_add-self
overflow_add-self c =
    let s = c.loop-self.self in
    let l = c.in-Some.left.now in
    let a = c.piece_start-start.result in
    omega (arith, s.few, size (goal.at.overflow_add-self c).In-Some, up_length s.strike (part a (length l) l) (sym c.kind_of-kind.ensures ∙ c.in-Drops.is), part_length a (length l) l (omega arith))

pub loop-self-preserved-in-Drops : goal.loop-self-preserved-in-Drops
loop-self-preserved-in-Drops c =
    let w = c.loop-self.invariant in
    let z = size (goal.at.loop-self-preserved-in-Drops c).In-Some in
    let p = c.piece_start-start.ensures in (
      w.0,
      omega (arith, w.1, z, p.fits, c.before-self.ensures.0),
      reads_up _ _ _ _ _ w.2 _ _ _ c.in-Some.is p c.before-self.ensures (sym c.kind_of-kind.ensures ∙ c.in-Drops.is),
    )

pub loop-self-preserved : goal.loop-self-preserved
loop-self-preserved c =
    let w = c.loop-self.invariant in
    let z = size (goal.at.loop-self-preserved c).In-Some in
    let p = c.piece_start-start.ensures in (
      w.0,
      omega (arith, w.1, z, p.fits, c.before-self.ensures.0),
      reads-dropped _ _ _ _ _ w.2 _ _ _ c.in-Some.is p c.before-self.ensures (sym c.kind_of-kind.ensures ∙ c.in-Name.is) c.if-self-gt0.true,
    )

pub returns-in-Name-2-clause-steps : goal.returns-in-Name-2-clause-steps
returns-in-Name-2-clause-steps c =
    let w = c.loop-self.invariant in
    let old = c.args.self.now in (
      w.0,
      subst (λ (t : Bool). ReadsOn t old.left old.skip (Some (c.piece_start-start.result, length c.in-Some.left.now)) c.before-self.result c.loop-self.self.skip) w.0
          (reads-kept _ _ _ _ _ w.2 _ _ _ c.in-Some.is c.piece_start-start.ensures c.before-self.ensures (sym c.kind_of-kind.ensures ∙ c.in-Name.is) (omega arith)),
    )

pub returns-in-Name-2-clause-goes : goal.returns-in-Name-2-clause-goes
returns-in-Name-2-clause-goes c =
    let z = size (goal.at.returns-in-Name-2-clause-goes c).In-Some in
    record { on = λ _. (tt, tt, omega (arith, c.loop-self.invariant.1, z, c.piece_start-start.ensures.fits, c.before-self.ensures.0)); keeps = tt; rests = λ _. tt }

pub returns-clause-steps : goal.returns-clause-steps
returns-clause-steps c =
    let s = c.loop-self.self in
    let w = c.loop-self.invariant in
    let old = c.args.self.now in
    (w.0, subst (λ (t : Bool). ReadsOn t old.left old.skip None s.left s.skip) w.0 (reads-all _ _ _ _ _ w.2 c.in_default.is))
