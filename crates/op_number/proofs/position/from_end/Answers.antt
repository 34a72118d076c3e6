-- `from_end` meets its contract: the sum is 2^63 or more, or below 0, or a position.
-- Assumes nothing.
use Rattle.std.proofs.Common.{arith}
use Rattle.std.proofs.lemmas.Int.{ints}
use Rattle.op_number.proofs.Seeking.{end_at, end_below, end-above, sum_signed, below}
use Rattle.op_number.proofs.position.from_end.Goals as goal

pub returns-in-Some : goal.returns-in-Some
returns-in-Some c =
    let e = sum_signed c.args.size c.args.offset _ c.ranges.offset.fits c.cast_signed.ensures in
    λ w. end_at c.args.size c.args.offset w _ (omega (arith, ints, e, c.in-Some.ensures)) (omega arith)

pub returns-in_default : goal.returns-in_default
returns-in_default c =
    let e = sum_signed c.args.size c.args.offset _ c.ranges.offset.fits c.cast_signed.ensures in
    λ w. end-above c.args.size c.args.offset w (omega (arith, ints, e, c.in-Some.ensures))

pub returns-in_default-2 : goal.returns-in_default-2
returns-in_default-2 c =
    let e = sum_signed c.args.size c.args.offset _ c.ranges.offset.fits c.cast_signed.ensures in
    λ w. end_below c.args.size c.args.offset w (below c.args.size c.args.offset (λ h. c.in_default.ensures (omega (arith, ints, e), omega (arith, ints, e, c.ranges.offset))))
