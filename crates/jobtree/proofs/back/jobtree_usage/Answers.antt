-- `jobtree_usage` meets its contract: the store's test, and the question.
-- Assumes nothing.
use Rattle.layout.specs.Answers.{read_back}
use Rattle.layout.specs.Lent.{lends, lent_by}
use Rattle.op.specs.Telling.{UsageIs}
use Rattle.op.proofs.Cutting.{shows-cut, shows_as}
use Rattle.op.proofs.Telling.{told-as}
use Rattle.jobtree.proofs.back.jobtree_usage.Goals as goal

pub tell_usage-requires : goal.tell_usage-requires
tell_usage-requires c =
    let a = c.args in let st = lends a.words.now a.records.now a.heads.now a.times.now a.paths.now a.bytes.now in
    (lent_by c.used-used.result, read_back st, shows_as c.used-used.ensures (shows-cut st c.if-not-store_ok.ensures))

pub returns : goal.returns
returns c =
    let a = c.args in let st = lends a.words.now a.records.now a.heads.now a.times.now a.paths.now a.bytes.now in
    let p = c.if-not-store_ok.ensures in
    told-as (UsageIs a.numbers.now c.tell_usage.new.numbers) c.answer.ensures p
    (c.tell_usage.ensures (lent_by c.used-used.result) (read_back st) (shows_as c.used-used.ensures (shows-cut st p)))
