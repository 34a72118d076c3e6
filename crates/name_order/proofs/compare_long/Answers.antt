-- `compare_long` meets its contract: the bytes that were passed are the same. Assumes nothing.
use mathlib.Core.List.{[], ◌∷◌, ◌++◌}
use mathlib.Core.Path.{◌≡◌, ◌∙◌}
use Prim.Native.Nat.{◌+◌, ◌-◌, ◌*◌, ◌≤◌}
use native.Mathlib.Omega.{arith}
use lib.ListN.{length}
use Rattle.name_order.specs.Order.{number}
use Rattle.name_order.proofs.Numbers.{chunks, chunks-long, number_chunk, run_ends, run_goes, run_then, by_end}
use Rattle.std.proofs.lemmas.Slice.Zip.{zip_turn, zip_end}
use Rattle.std.proofs.lemmas.List.{length_push}
use Rattle.name_order.proofs.compare_long.Goals.{In-Some}
use Rattle.name_order.proofs.compare_long.Goals as goal

-- the eight bytes of this turn
turn : (c : In-Some) → let j = length c.loop-x.yielded in let a = c.args.a.now in let b = c.args.b.now in
    (8 * j + 8 ≤ c.args.n - 1) × (number 8 0 c.in-Some.x.now ≡ number 8 (8 * j) a) × (number 8 0 c.in-Some.y.now ≡ number 8 (8 * j) b)
turn c =
    let a = c.args.a.now in
    let b = c.args.b.now in
    let n = c.args.n in
    let j = length c.loop-x.yielded in
    let t = zip_turn (chunks a (n - 1)) (chunks b (n - 1)) c.loop-x.yielded _ _ c.next.new.self _ (cc) (cc) c.loop-x.yielded_by _ c.in-Some.is c.next.ensures.steps in
    let x = number_chunk a (n - 1) j c.in-Some.x.now (omega arith) t.0 (t.2 []) in
    let y = number_chunk b (n - 1) j c.in-Some.y.now (omega arith) t.1 (t.3 []) in
    (x.0, x.1, y.1)

pub returns-then-is_ne : goal.returns-then-is_ne
returns-then-is_ne c =
    let a = c.args.a.now in
    let b = c.args.b.now in
    let t = turn (goal.at.returns-then-is_ne c).In-Some in
    run_ends a b (λ m. omega (arith, c.type_inv.a m)) (λ m. omega (arith, c.type_inv.b m)) (8 * length c.loop-x.yielded) 8 c.loop-x.invariant.2 (omega arith) (omega arith) c.cmp-order.result
    (cc) (cc)

pub loop-x-preserved : goal.loop-x-preserved
loop-x-preserved c =
    let a = c.args.a.now in
    let b = c.args.b.now in
    let t = turn (goal.at.loop-x-preserved c).In-Some in
    let r = run_goes a b (λ m. omega (arith, c.type_inv.a m)) (λ m. omega (arith, c.type_inv.b m)) (8 * length c.loop-x.yielded) 8 c.loop-x.invariant.2 (omega arith) (omega arith) c.cmp-order.result (cc) (cc) in
    let e : 8 * length (c.loop-x.yielded ++ ((c.in-Some.x, c.in-Some.y) ∷ [])) ≡ 8 * length c.loop-x.yielded + 8 = omega (arith, length_push c.loop-x.yielded (c.in-Some.x, c.in-Some.y)) in
    ((tt, tt), tt, rw e r)

pub returns : goal.returns
returns c =
    let a = c.args.a.now in
    let b = c.args.b.now in
    let n = c.args.n in
    let all = zip_end (chunks a (n - 1)) (chunks b (n - 1)) c.loop-x.yielded _ _ c.next.new.self _ (cc) (cc) c.loop-x.yielded_by c.in-None.is c.next.ensures.steps in
    let x = chunks-long a (n - 1) (omega arith) in
    let y = chunks-long b (n - 1) (omega arith) in
    let k : n - 8 + 8 ≡ n = omega arith in
    let r = run_then a b (λ m. omega (arith, c.type_inv.a m)) (λ m. omega (arith, c.type_inv.b m)) (n - 8) 8 (λ m h. c.loop-x.invariant.2 m (omega arith)) (omega arith) (omega arith) c.cmp-2.result
    (λ h. c.cmp-2.ensures ∙ by_end a b n c.requires.1 (rw k at h)) in
    cc
