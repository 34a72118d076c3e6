-- `put_records` meets its contract. The loop's invariant: in every state that a store with the slices shows, the records of the entries that
-- were given out stand in front of the row, and the others are left. The measure is the room behind them.
-- Assumes nothing.
use native.Mathlib.Omega.{arith}
use Rattle.op_look.proofs.Listing.{five, Held, held, fill_start, fill_end, fill-room, fill-entry, fill-size, fill-next}
use Rattle.op_look.proofs.list.put_records.Goals.{At-loop-step}
use Rattle.op_look.proofs.list.put_records.Goals as goal

-- the row holds the records of all entries
all : (c : At-loop-step) → Held (five c.args.tree c.args.times.now) c.first-step.result c.args.rows.now
all c = let has = five c.args.tree c.args.times.now in held has _ _ c.args.spot c.requires (λ st u h. c.first-step.ensures (has st) u h)

pub first-step-requires : goal.first-step-requires
first-step-requires c = let p = c.requires in (five c.args.tree c.args.times.now p.0, p.1, p.2, p.3, p.4)

pub loop-step-init : goal.loop-step-init
loop-step-init c = fill_start _ _ _

pub put_record-requires : goal.put_record-requires
put_record-requires c =
    let f = c.loop-step.invariant in let k = all (goal.at.put_record-requires c).At-loop-step in
    (fill-room _ _ _ _ _ _ f _ c.in-Some.is k, fill-size _ _ _ _ _ _ f _ c.in-Some.is _ (λ st u h. c.stat-s.ensures (five c.args.tree c.args.times.now st) u h) k)

pub next-step-requires : goal.next-step-requires
next-step-requires c =
    let x = fill-entry _ _ _ _ _ _ c.loop-step.invariant _ c.in-Some.is (all (goal.at.next-step-requires c).At-loop-step) in
    (five c.args.tree c.args.times.now x.0, x.1, x.2, x.3, x.4)

pub loop-step-preserved : goal.loop-step-preserved
loop-step-preserved c =
    let l = c.loop-step in
    fill-next _ _ _ _ _ _ l.invariant _ c.in-Some.is _ (λ st u h. c.stat-s.ensures (five c.args.tree c.args.times.now st) u h) _ (omega (arith, l.invariant.long)) c.put_record.ensures _
    (λ st u h. c.next-step.ensures (five c.args.tree c.args.times.now st) u h)

pub returns : goal.returns
returns c =
    λ st u h p k. fill_end _ _ _ _ _ _ c.loop-step.invariant c.in_default.is st u h p _ (c.first-step.ensures (five c.args.tree c.args.times.now st) u h p k)
