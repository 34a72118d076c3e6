-- `slots::write` meets its contract: the slot has the length of the text, and the text is copied over its bytes. Assumes nothing.
use mathlib.Core.Path.{refl}
use mathlib.Core.List.{[]}
use native.Mathlib.Omega.{arith}
use lib.ListN.{length, get_or}
use Rattle.layout.specs.Slots.{contents}
use Rattle.slots.specs.Put.{fitted}
use Rattle.slots.proofs.Totals.{total_at}
use Rattle.slots.proofs.Change.{write-put, put-len}
use Rattle.slots.proofs.write.Goals as goal

pub copy_into-requires : goal.copy_into-requires
copy_into-requires c =
    let z = c.resize in
    omega (arith, total_at z.new.heads c.args.k (omega (arith, z.auto)), put-len _ _ _ _ _ _ _ z.ensures c.requires.0 c.requires.1, z.ensures.room, z.auto)

pub returns : goal.returns
returns c =
    let a = c.args in
    let r = c.requires in
    let z = c.resize in
    let all = c.total_of-all in
    let before = c.sum_to-before in
    let copy = c.copy_into in
    let x = fitted (length a.text.now) (get_or (contents a.heads.now a.bytes.now) a.k []) in
    write-put a.heads.now a.bytes.now z.new.heads z.new.bytes _ a.k (length a.text.now) all.result before.result x a.text.now r.2 r.0 refl r.1 r.3 z.ensures all.ensures before.ensures copy.ensures copy.auto.dst
