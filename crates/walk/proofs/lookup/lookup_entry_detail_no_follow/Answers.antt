-- `lookup_entry_detail_no_follow` meets its contract: a walk that is refused or ends is the lookup's, and behind a link it goes on with one
-- link less. Assumes nothing.
use Prim.Native.Nat.{◌<◌}
use native.Mathlib.Omega.{arith}
use Rattle.std.proofs.lemmas.Result.{err_from_is_err_and}
use Rattle.layout.specs.Lent.{with_tree}
use Rattle.ask_find.specs.Spots.{hidden_at}
use Rattle.walk.proofs.Passing.{some_link, go-stopped, go-ended, go-link, go-loop, go-long, go_on}
use Rattle.walk.proofs.lookup.lookup_entry_detail_no_follow.Goals.{Else-links-eq-MOST}
use Rattle.walk.proofs.lookup.lookup_entry_detail_no_follow.Goals as goal

-- one more link may be followed
below : (c : Else-links-eq-MOST) → c.loop-end.walk.count < 40
below c = omega (arith, c.if-links-eq-MOST.false, c.loop-end.invariant.few)

pub returns-in_err-end : goal.returns-in_err-end
returns-in_err-end c =
    λ st s y w a.
    let p = err_from_is_err_and c.from_residual.result c.from_residual.ensures.1 in
    rw (p.1, p.2) (go-stopped c.loop-end.invariant _ c.in_err-end.ensures _ st s y w a)

pub returns-in-Ends : goal.returns-in-Ends
returns-in-Ends c = go-ended c.loop-end.invariant _ c.in_ok-end.ensures _ c.in-Ends.is

pub returns-then-links-eq-MOST : goal.returns-then-links-eq-MOST
returns-then-links-eq-MOST c = go-loop c.loop-end.invariant _ c.in_ok-end.ensures _ c.in-MidLink.is c.if-links-eq-MOST.true _

pub behind_link-requires : goal.behind_link-requires
behind_link-requires c =
    let l = c.loop-end.invariant in (
      some_link (with_tree c.args.tree) (hidden_at c.args.hidden) _ _ _ _ c.requires.0 (go-link l _ c.in_ok-end.ensures _ c.in-MidLink.is),
      l.fits,
      omega (arith, l.long, c.requires.1.room),
    )

pub returns-in_err-n-in-MidLink : goal.returns-in_err-n-in-MidLink
returns-in_err-n-in-MidLink c =
    λ st s y w a.
    let r = c.from_residual-in_err-n-in-MidLink in
    let p = err_from_is_err_and r.result r.ensures.1 in
    rw (p.1, p.2)
    (go-long c.loop-end.invariant _ c.in_ok-end.ensures _ c.in-MidLink.is (below (goal.at.returns-in_err-n-in-MidLink c).Else-links-eq-MOST) _ _ c.in_err-n-in-MidLink.ensures _ st s y w a)

pub loop-end-preserved : goal.loop-end-preserved
loop-end-preserved c =
    rw c.next-walk.ensures
    (go_on c.loop-end.invariant _ c.in_ok-end.ensures _ c.in-MidLink.is (below (goal.at.loop-end-preserved c).Else-links-eq-MOST) _ c.requires.0 _ c.in_ok-n-in-MidLink.ensures
    (omega (arith, c.loop-end.invariant.long)))
