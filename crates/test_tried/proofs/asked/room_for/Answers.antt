-- `room_for` meets its contract: the bytes used are those of the names and of the slots.
-- Assumes nothing.
use mathlib.Core.Path.{refl, ◌∙◌}
use native.Mathlib.Omega.{arith}
use borrow.Author.Tests.{leb-true}
use Rattle.layout.proofs.Used.{bytes-used}
use Rattle.layout.specs.Lent.{lent_by}
use Rattle.test_tried.proofs.asked.room_for.Goals as goal

pub overflow_add-result : goal.overflow_add-result
overflow_add-result c =
    let l = c.requires.0 in
    let u = c.bytes_used-used.ensures (lent_by c.args.lent) refl refl refl l ∙ bytes-used (lent_by c.args.lent) l in
    omega (arith, u, l.space, l.byte_limit.1, c.if-n-gt-LENGTH.false)

pub returns : goal.returns
returns c h =
    let l = c.requires.0 in
    let u = c.bytes_used-used.ensures (lent_by c.args.lent) refl refl refl l ∙ bytes-used (lent_by c.args.lent) l in
    omega (arith, u, l.exact.bytes, leb-true _ _ h)
