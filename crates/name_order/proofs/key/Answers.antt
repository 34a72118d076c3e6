-- `key` meets its contract: behind the name stand zeros, and seven bytes leave room for one more. Assumes nothing.
use mathlib.Core.Path.{◌≡◌, sym}
use Prim.Native.Nat.{◌<◌}
use native.Mathlib.Omega.{arith}
use native.Mathlib.Numerals.{add-one}
use lib.ListN.{get_or}
use Rattle.std.proofs.Common.{rules}
use Rattle.name_order.proofs.Keys.{number_none, number_next, number_small}
use Rattle.name_order.proofs.key.Goals.{In-loop-i}
use Rattle.name_order.proofs.key.Goals as goal

pub loop-i-init : goal.loop-i-init
loop-i-init c = sym (number_none c.args.name.now)

-- the number of the bytes so far leaves room for one more
room : (c : In-loop-i) → c.loop-i.first < 72057594037927936
room c = rw c.loop-i.invariant (number_small c.args.name.now (λ m. omega (arith, c.type_inv.name m)) c.loop-i.i (omega arith))

pub overflow_mul-first : goal.overflow_mul-first
overflow_mul-first c = omega (arith, room (goal.at.overflow_mul-first c).In-loop-i)

pub overflow_add-first : goal.overflow_add-first
overflow_add-first c = omega (arith, room (goal.at.overflow_add-first c).In-loop-i)

pub loop-i-preserved : goal.loop-i-preserved
loop-i-preserved c =
    let x = c.args.name.now in
    let l = c.loop-i in
    let e : c.from.result ≡ get_or x l.i 0 = search rules in
    rw (l.invariant, e, add-one l.i) (number_next x l.i)
