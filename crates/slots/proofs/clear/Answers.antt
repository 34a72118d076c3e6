-- `slots::clear` meets its contract: the bytes are cut to none, and then the word is 0. Assumes nothing.
use Rattle.slots.proofs.Change.{clear-put}
use Rattle.slots.proofs.clear.Goals as goal

pub returns : goal.returns
returns c =
    let a = c.args in
    let r = c.requires in
    let z = c.resize in
    clear-put a.heads.now a.bytes.now z.new.heads z.new.bytes a.k r.1 r.0 z.ensures
