-- `jobtree_number` meets its contract: the store's test, and the question.
-- Assumes nothing.
use Rattle.layout.specs.Answers.{read_back}
use Rattle.layout.specs.Lent.{lends, lent_by}
use Rattle.op.specs.Telling.{in_slot, NumberIs}
use Rattle.op.proofs.Cutting.{shows-cut, shows_as}
use Rattle.op.proofs.Telling.{told-as}
use Rattle.jobtree.proofs.back.jobtree_number.Goals as goal

pub tell_number-requires : goal.tell_number-requires
tell_number-requires c =
    let a = c.args in let st = lends a.words.now a.records.now a.heads.now a.times.now a.paths.now a.bytes.now in
    (lent_by c.used-used.result, read_back st, shows_as c.used-used.ensures (shows-cut st c.if-not-store_ok.ensures))

pub returns : goal.returns
returns c =
    let a = c.args in let st = lends a.words.now a.records.now a.heads.now a.times.now a.paths.now a.bytes.now in
    let p = c.if-not-store_ok.ensures in
    told-as (NumberIs a.n (in_slot a.out.now a.position.now a.size.now) (in_slot c.tell_number.new.out c.tell_number.new.position c.tell_number.new.size)) c.answer.ensures p
    (c.tell_number.ensures (lent_by c.used-used.result) (read_back st) (shows_as c.used-used.ensures (shows-cut st p)))
