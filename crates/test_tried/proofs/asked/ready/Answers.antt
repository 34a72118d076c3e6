-- `ready` meets its contract: what is not cut and passes is lawful.
-- Assumes nothing.
use Rattle.layout.specs.Store.{lent}
use Rattle.layout.specs.Lawful.{Passes}
use Rattle.lawful_limits.proofs.Settling.{told}
use Rattle.test_tried.proofs.Asking.{uncut}
use Rattle.test_tried.proofs.asked.ready.Goals as goal

pub returns-then-whole : goal.returns-then-whole
returns-then-whole c h =
    let a = c.args in
    let st = lent a.words.now a.records.now a.heads.now a.times.now a.paths.now a.bytes.now in
    uncut st (c.whole.ensures c.if-whole.true) (told (Passes st) h c.store_ok.ensures).1
