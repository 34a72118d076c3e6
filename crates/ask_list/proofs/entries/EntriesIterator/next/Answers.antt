-- `next` meets its contract: the entries among the records that are left stay the same while records are passed. Assumes nothing.
use mathlib.Core.List.{◌∷◌}
use mathlib.Core.Path.{◌≡◌, sym, ap, ◌∙◌}
use Prim.Native.Nat.{◌<◌}
use native.Mathlib.Omega.{arith}
use lib.ListN.{length}
use Rattle.layout.specs.Fields.{depth_of}
use Rattle.layout.specs.Rows.{name_total}
use Rattle.ask_list.specs.Entries.{entries_at}
use Rattle.ask_list.proofs.Entered.{entries-end, entries_out, entries_on, entries-past, total_on}
use Rattle.ask_list.proofs.entries.EntriesIterator.next.Goals.{In-Some, Then-t-self-2}
use Rattle.ask_list.proofs.entries.EntriesIterator.next.Goals as goal

pub returns-then-t-self-clause-steps : goal.returns-then-t-self-clause-steps
returns-then-t-self-clause-steps c =
    let s = c.loop-w.self in
    let e = c.in-Some.ensures.cases.0 in
    let d : depth_of c.in-Some.w.now < s.depth = omega arith in
    let z = ap (λ ws. entries_at s.depth ws s.spot) e ∙ entries_out s.depth c.in-Some.w.now c.in-Some.left.now s.spot d in
    (sym c.loop-w.invariant ∙ z, z)

pub invariant_of-self : goal.invariant_of-self
invariant_of-self c =
    let s = c.loop-w.self in
    let e = c.in-Some.ensures.cases.0 in
    rw c.behind-self.ensures (record { fits = (omega (arith, s.fits.0, ap length e), omega (arith, s.fits.1, ap name_total e, total_on c.in-Some.w.now c.in-Some.left.now)) })

-- the entry that is given, and those behind it
given : (c : Then-t-self-2) → let s = c.args.self.now in
    entries_at s.depth s.left.now s.spot ≡ record { spot = c.loop-w.self.spot; size = c.nlen_of.result } ∷ entries_at c.loop-w.self.depth c.in-Some.left.now c.behind-self.result
given c =
    let s = c.loop-w.self in
    let e = c.in-Some.ensures.cases.0 in
    let d : depth_of c.in-Some.w.now ≡ s.depth = omega arith in
    sym c.loop-w.invariant ∙ ap (λ ws. entries_at s.depth ws s.spot) e ∙ entries_on s.depth c.in-Some.w.now c.in-Some.left.now s.spot d
    ∙ (λ i. record { spot = s.spot; size = sym c.nlen_of.ensures i } ∷ entries_at s.depth c.in-Some.left.now (sym c.behind-self.ensures i))

pub returns-then-t-self-2-clause-steps : goal.returns-then-t-self-2-clause-steps
returns-then-t-self-2-clause-steps c = given c

pub returns-then-t-self-2-clause-goes : goal.returns-then-t-self-2-clause-goes
returns-then-t-self-2-clause-goes c = record { on = λ _. (tt, tt, omega (arith, ap length (given c))); keeps = tt; rests = λ _. tt }

pub loop-w-preserved : goal.loop-w-preserved
loop-w-preserved c =
    let s = c.loop-w.self in
    let e = c.in-Some.ensures.cases.0 in
    let d : s.depth < depth_of c.in-Some.w.now = omega arith in
    ap (entries_at s.depth c.in-Some.left.now) c.behind-self.ensures ∙ sym (entries-past s.depth c.in-Some.w.now c.in-Some.left.now s.spot d) ∙ ap (λ ws. entries_at s.depth ws s.spot) (sym e) ∙ c.loop-w.invariant

pub returns-clause-steps : goal.returns-clause-steps
returns-clause-steps c =
    let s = c.loop-w.self in
    let z = entries-end s.depth s.left.now s.spot c.in_default.ensures.cases in
    (sym c.loop-w.invariant ∙ z, z)
