-- `slots_ok` meets its contract: the slots that records name are taken, then those that numbers stand on, and the words that are
-- not 0 are as many.
-- Assumes nothing.
use Prim.Native.Nat.{ℕ}
use lib.ListN.{length-replicate}
use Rattle.layout.proofs.Zeros.{zeros-read}
use Rattle.lawful_slots.proofs.Filled.{filled_none}
use Rattle.lawful_slots.proofs.Taking.{slots-counted}
use Rattle.lawful_slots.proofs.slots_ok.Goals as goal

pub take_named-requires : goal.take_named-requires
take_named-requires c = (c.requires.1, c.requires.2, length-replicate {A = ℕ} 4128 0, zeros-read 4128, filled_none 4128)

pub returns : goal.returns
returns c =
    let a = c.args in
    slots-counted a.words.now a.recs.now a.heads.now c.take_named.new.taken c.take_open.new.taken c.in-Some.more c.requires.2 c.if-not-take_named.ensures.0 c.in-Some.ensures.0 _ (rw c.in_use.ensures)
