-- `jobtree_current_dir` meets its contract: the store's test, and the question.
-- Assumes nothing.
use Rattle.layout.specs.Answers.{read_back}
use Rattle.layout.specs.Lent.{lends, lent_by}
use Rattle.op.specs.Telling.{HereIs}
use Rattle.op.proofs.Cutting.{shows-cut, shows_as}
use Rattle.op.proofs.Telling.{told-as}
use Rattle.jobtree.proofs.back.jobtree_current_dir.Goals as goal

pub tell_here-requires : goal.tell_here-requires
tell_here-requires c =
    let a = c.args in let st = lends a.words.now a.records.now a.heads.now a.times.now a.paths.now a.bytes.now in
    (lent_by c.used-used.result, read_back st, shows_as c.used-used.ensures (shows-cut st c.if-not-store_ok.ensures))

pub returns : goal.returns
returns c =
    let a = c.args in let st = lends a.words.now a.records.now a.heads.now a.times.now a.paths.now a.bytes.now in
    let p = c.if-not-store_ok.ensures in
    told-as (HereIs a.out.now a.number.now c.tell_here.new.out c.tell_here.new.number) c.answer.ensures p
    (c.tell_here.ensures (lent_by c.used-used.result) (read_back st) (shows_as c.used-used.ensures (shows-cut st p)))
