-- `jobtree_set_times_number` meets its contract: the tests, and what the operation comes to over the parts that the limits ask.
-- Assumes nothing.
use Rattle.std.proofs.Common.{refl}
use mir.Syntax.{w64}
use mir.ValLaws.{to_z-of_z}
use Rattle.layout.proofs.Sizes.{sized-cut}
use Rattle.op_number.proofs.Changing.{by_flags}
use Rattle.layout.specs.Answers.{read_back}
use Rattle.layout.specs.Lent.{lends}
use Rattle.op.proofs.Cutting.{cut_by, as_was, put_back, returned_alike}
use Rattle.op.proofs.Numbering.{times-numbers, tested-open, open-shows, open-cut, answers-refused, answers-done}
use Rattle.jobtree.proofs.number.jobtree_set_times_number.Goals as goal

pub set_times_on-r-requires : goal.set_times_on-r-requires
set_times_on-r-requires c = open-cut c.of-used.ensures c.in-Ok.ensures refl

pub returns-in-Err : goal.returns-in-Err
returns-in-Err c = answers-refused _ (times-numbers _ _ _ _) c.in-Err.ensures c.number.ensures

pub returns-in-Ok : goal.returns-in-Ok
returns-in-Ok c =
    let a = c.args in let st = lends a.words.now a.records.now a.heads.now a.times.now a.paths.now a.bytes.now in
    let t = c.in-Ok.ensures in let z = c.of-used.ensures in
    let d = by_flags _ a.flags c.then_some-accessed.ensures c.then_some-modified.ensures (to_z-of_z w64 a.accessed c.ranges.accessed) (to_z-of_z w64 a.modified c.ranges.modified) (c.set_times_on-r.ensures (cut_by c.of-used.result st) (read_back st) (open-shows z t) (tested-open t)) in
    answers-done st (times-numbers _ _ _ _) t d (returned_alike z (record { words = as_was _ _; records = as_was _ _; heads = as_was _ _; times = put_back z.times c.set_times_on-r.auto.times; paths = as_was _ _; bytes = as_was _ _ }))
    (sized-cut _ (λ i. (c.type_inv.words i).fits) (λ i. (c.type_inv.heads i).fits) c.known.ensures (λ i. (c.type_inv.bytes i).fits)) c.answer.ensures
