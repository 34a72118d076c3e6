-- `compare_short` meets its contract: two runs of four cover all bytes. Assumes nothing.
use mathlib.Core.Path.{◌≡◌, ◌∙◌}
use Prim.Native.Nat.{ℕ, ◌+◌, ◌-◌, ◌<◌}
use native.Mathlib.Omega.{arith}
use lib.ListN.{get_or}
use Rattle.name_order.specs.Order.{order_of}
use Rattle.name_order.proofs.Orders.{Alike}
use Rattle.name_order.proofs.Numbers.{run_then, by_end}
use Rattle.name_order.proofs.compare_short.Goals as goal

pub returns : goal.returns
returns c =
    let a = c.args.a.now in
    let b = c.args.b.now in
    let f : (m : ℕ) → get_or a m 0 < 256 = λ m. omega (arith, c.type_inv.a m) in
    let g : (m : ℕ) → get_or b m 0 < 256 = λ m. omega (arith, c.type_inv.b m) in
    let n = c.args.n in
    let k : n - 4 + 4 ≡ n = omega arith in
    let last : Alike a b 4 → c.then-last.result ≡ order_of a b = λ h. (
    let r = run_then a b f g (n - 4) 4 (λ m l. h m (omega arith)) (omega arith) (omega arith) c.cmp-2.result (λ u. c.cmp-2.ensures ∙ by_end a b n c.requires.2 (rw k at u)) in
    cc) in
    let r = run_then a b f g 0 4 (λ m l. absurd (omega arith)) (omega arith) (omega arith) c.then-last.result last in
    cc
