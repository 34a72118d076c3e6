-- `lookup_entry_detail` meets its contract: a no-follow lookup that is refused, finds or misses is the lookup's, and behind a last link it goes
-- on with one last link less. Assumes nothing.
use Prim.Native.Nat.{◌≤◌, ◌<◌}
use native.Mathlib.Omega.{arith}
use lib.ListN.{length}
use Rattle.std.proofs.lemmas.Result.{err_from_is_err_and}
use Rattle.layout.specs.Lent.{with_tree}
use Rattle.ask_find.specs.Spots.{hidden_at}
use Rattle.walk.proofs.Passing.{some_link}
use Rattle.walk.proofs.Chains.{walks-few, chain-stopped, chain-found, chain-missing, chain_link, chain-loop, chain-long, chain_on}
use Rattle.walk.proofs.lookup.lookup_entry_detail.Goals.{In_ok-w, Else-left-eq0}
use Rattle.walk.proofs.lookup.lookup_entry_detail.Goals as goal

-- the numbers of the no-follow lookup, whose path is within the buffer
low : (c : In_ok-w) → (c.in_ok-w.w.links ≤ 40) × (c.in_ok-w.w.len ≤ 1024)
low c = walks-few c.requires.0 c.in_ok-w.ensures

within : (c : In_ok-w) → c.in_ok-w.w.len ≤ length c.lookup_entry_detail_no_follow.new.out
within c = omega (arith, (low c).1, c.loop-w.invariant.long, c.requires.1.room)

-- one more last link may be followed
some_left : (c : Else-left-eq0) → 0 < c.loop-w.left
some_left c = omega (arith, c.if-left-eq0.false)

pub returns-in_err-w : goal.returns-in_err-w
returns-in_err-w c =
    λ st s y w a.
    let p = err_from_is_err_and c.from_residual.result c.from_residual.ensures.1 in
    rw (p.1, p.2) (chain-stopped c.loop-w.invariant _ _ c.in_err-w.ensures st s y w a)

pub overflow_add-links : goal.overflow_add-links
overflow_add-links c = omega (arith, c.loop-w.invariant.few, (low (goal.at.overflow_add-links c).In_ok-w).0)

pub returns-in-Found : goal.returns-in-Found
returns-in-Found c = chain-found c.loop-w.invariant _ _ c.in_ok-w.ensures _ _ c.in-Found.is

pub returns-in-Missing : goal.returns-in-Missing
returns-in-Missing c = chain-missing c.loop-w.invariant _ _ c.in_ok-w.ensures _ _ c.in-Missing.is

pub returns-then-left-eq0 : goal.returns-then-left-eq0
returns-then-left-eq0 c = chain-loop c.loop-w.invariant _ _ c.in_ok-w.ensures _ _ c.in-LastLink.is c.if-left-eq0.true _

pub behind_link-requires : goal.behind_link-requires
behind_link-requires c =
    let w = (goal.at.behind_link-requires c).In_ok-w in (
      some_link (with_tree c.args.scope.tree) (hidden_at c.args.scope.hidden) _ _ _ _ c.requires.0 (chain_link c.loop-w.invariant _ _ c.in_ok-w.ensures _ _ c.in-LastLink.is (within w)),
      (low w).1,
      omega (arith, c.loop-w.invariant.long, c.requires.1.room),
    )

pub returns-in_err-n-in-LastLink : goal.returns-in_err-n-in-LastLink
returns-in_err-n-in-LastLink c =
    λ st s y w a.
    let g = goal.at.returns-in_err-n-in-LastLink c in
    let r = c.from_residual-in_err-n-in-LastLink in
    let p = err_from_is_err_and r.result r.ensures.1 in
    rw (p.1, p.2)
    (chain-long c.loop-w.invariant _ _ c.in_ok-w.ensures _ _ c.in-LastLink.is (some_left g.Else-left-eq0) (within g.In_ok-w) _ _ c.in_err-n-in-LastLink.ensures st s y w a)

pub overflow_add-links-in-LastLink : goal.overflow_add-links-in-LastLink
overflow_add-links-in-LastLink c = omega (arith, c.loop-w.invariant.few, (low (goal.at.overflow_add-links-in-LastLink c).In_ok-w).0)

pub loop-w-preserved : goal.loop-w-preserved
loop-w-preserved c =
    let g = goal.at.loop-w-preserved c in
    chain_on c.loop-w.invariant _ _ c.in_ok-w.ensures _ _ c.in-LastLink.is (some_left g.Else-left-eq0) (within g.In_ok-w) _ c.requires.0 _ c.in_ok-n-in-LastLink.ensures (omega (arith, c.loop-w.invariant.long))
