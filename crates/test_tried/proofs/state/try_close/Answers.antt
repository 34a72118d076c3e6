-- `try_close` is safe: the store is lawful, and the number is open.
-- Assumes nothing.
use mathlib.Core.Path.{refl}
use native.Mathlib.Omega.{arith}
use Rattle.test_tried.proofs.Asking.{stored, kept, roomy-again}
use Rattle.test_tried.proofs.state.try_close.Goals as goal

pub close_number-requires : goal.close_number-requires
close_number-requires c =
    let l = (c.ready.ensures c.if-not-ready.false).lawful in
    (kept l, l, record { low = omega (arith, c.if-number-ge-FILE_NUMBERS.false); on = c.if-words-number-eq0.false })

pub release-requires : goal.release-requires
release-requires c =
    let a = c.args in
    let r = c.ready.ensures c.if-not-ready.false in
    let x = c.close_number in
    let y = roomy-again r x.auto.heads refl (x.ensures (kept r.lawful) r.lawful).lawful in
    (stored y, y)
