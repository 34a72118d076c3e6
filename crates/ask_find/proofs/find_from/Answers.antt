-- `find_from` meets its contract: at each record the scan from there on gives the answer. Assumes nothing.
use mathlib.Core.List.{List}
use mathlib.Core.Path.{◌≡◌, refl, ◌∙◌, sym, ap}
use Prim.Native.Nat.{ℕ, suc, ◌+◌, ◌-◌, ◌<◌}
use native.Mathlib.Numerals.{add-one}
use native.Mathlib.Omega.{arith}
use Rattle.std.specs.declared.cmp.Ordering.{Ordering}
use lib.ListN.{length, take, drop, get_or}
use Rattle.layout.specs.Fields.{nlen_of}
use Rattle.name_order.specs.Order.{order_of}
use Rattle.ask_find.specs.declared.Spot.{Spot}
use Rattle.ask_find.specs.Finds.{spot, scan, Within}
use Rattle.ask_find.proofs.Scan.{record-met, scan-room, scan-end, scan_out, scan-deeper, scan-less, scan_same, scan_more}
use Rattle.ask_find.proofs.find_from.Goals.{In-loop-w, After-behind-next, then-t-d-eq1+in-Less, else-t-d-eq1}
use Rattle.ask_find.proofs.find_from.Goals as goal

-- the record that is met
met : (c : In-loop-w) → let ws = c.args.records.now in let a = c.args.start.at in let l = c.loop-w in
    (l.spot.at < length ws) × (get_or (take (length ws - a) (drop a ws)) l.w-index 0 ≡ get_or ws l.spot.at 0)
met c = let l = c.loop-w in record-met c.args.records.now c.args.start.at l.w-index l.spot.at l.invariant.0 (omega arith)

-- its name stands within the bytes, and so do those behind it
room : (c : In-loop-w) → let l = c.loop-w in
    Within c.args.records.now c.args.bytes.now (spot (suc l.spot.at) (l.spot.off + nlen_of (get_or c.args.records.now l.spot.at 0)))
room c = let l = c.loop-w in scan-room c.args.records.now c.args.bytes.now l.spot.at l.spot.off (met c).0 l.invariant.1

-- where the next begins
next : (c : After-behind-next) → c.behind-next.result.off ≡ c.loop-w.spot.off + nlen_of (get_or c.args.records.now c.loop-w.spot.at 0)
next c = let m = met (goal.at.After-behind-next c).In-loop-w in ap (λ (s : Spot). s.off) c.behind-next.ensures ∙ ap (λ (w : ℕ). c.loop-w.spot.off + nlen_of w) m.1

-- what a comparison says of the name of n bytes, by its end e
named : (bs x : List ℕ) (o e n : ℕ) (w : Ordering) → e ≡ o + n → w ≡ order_of (take (e - o) (drop o bs)) x → order_of (take n (drop o bs)) x ≡ w
named bs x o e n w h k = let z : e - o ≡ n = omega arith in sym (k ∙ ap (λ (m : ℕ). order_of (take m (drop o bs)) x) z)

pub loop-w-init : goal.loop-w-init
loop-w-init c = (omega arith, c.requires, refl)

pub returns-then-t-d : goal.returns-then-t-d
returns-then-t-d c =
    let a = c.args in
    let l = c.loop-w in
    let m = met (goal.at.returns-then-t-d c).In-loop-w in
    sym (l.invariant.2 ∙ scan_out a.records.now a.bytes.now l.spot.at l.spot.off m.0 a.d a.name.now (rw m.1 at (rw c.depth_of-t.ensures at c.if-t-d.true)))

pub behind-next-requires : goal.behind-next-requires
behind-next-requires c =
    let i = (goal.at.behind-next-requires c).In-loop-w in
    rw (met i).1 (omega (arith, (met i).0), omega (arith, room i))

pub slice_bounds-compare-end : goal.slice_bounds-compare-end
slice_bounds-compare-end c =
    let i = (goal.at.slice_bounds-compare-end c).In-loop-w in
    omega (arith, next (goal.at.slice_bounds-compare-end c).After-behind-next, room i)

pub returns-in-Equal : goal.returns-in-Equal
returns-in-Equal c =
    let a = c.args in
    let l = c.loop-w in
    let m = met (goal.at.returns-in-Equal c).In-loop-w in
    let e = next (goal.at.returns-in-Equal c).After-behind-next in
    sym (l.invariant.2 ∙ scan_same a.records.now a.bytes.now l.spot.at l.spot.off m.0 a.d a.name.now (omega (arith, m.1)) (named a.bytes.now a.name.now l.spot.off _ _ _ e c.compare.ensures ∙ c.in-Equal.is))

pub returns-in-Greater : goal.returns-in-Greater
returns-in-Greater c =
    let a = c.args in
    let l = c.loop-w in
    let m = met (goal.at.returns-in-Greater c).In-loop-w in
    let e = next (goal.at.returns-in-Greater c).After-behind-next in
    sym (l.invariant.2 ∙ scan_more a.records.now a.bytes.now l.spot.at l.spot.off m.0 a.d a.name.now (omega (arith, m.1)) (named a.bytes.now a.name.now l.spot.off _ _ _ e c.compare.ensures ∙ c.in-Greater.is))

pub loop-w-preserved : goal.loop-w-preserved
loop-w-preserved c =
    let a = c.args in
    let l = c.loop-w in
    let m = met (goal.at.loop-w-preserved c).In-loop-w in
    let w = l.invariant in
    let e = next (goal.at.loop-w-preserved c).After-behind-next in
    let n = spot (suc l.spot.at) (l.spot.off + nlen_of (get_or a.records.now l.spot.at 0)) in
    let b : c.behind-next.result ≡ n = rw (m.1, add-one l.spot.at) at c.behind-next.ensures in
    let on : (c.if-t-d-eq1.spot ≡ c.behind-next.result)
    × (scan a.records.now a.bytes.now a.d a.name.now l.spot ≡ scan a.records.now a.bytes.now a.d a.name.now n) = elim c.if-t-d-eq1.branch [
      | then-t-d-eq1+in-Less v ↦ (v.spot-is, scan-less a.records.now a.bytes.now l.spot.at l.spot.off m.0 a.d a.name.now w.1 (omega (arith, m.1, v.if-t-d-eq1.true)) (named a.bytes.now a.name.now l.spot.off _ _ _ e v.compare.ensures ∙ v.in-Less.is))
      | else-t-d-eq1 v ↦ (v.spot-is, scan-deeper a.records.now a.bytes.now l.spot.at l.spot.off m.0 a.d a.name.now w.1 (omega (arith, m.1)) (λ z. v.if-t-d-eq1.false (omega (arith, m.1, z))))
    ] in
    rw (on.0, b) (omega (arith, w.0), room (goal.at.loop-w-preserved c).In-loop-w, w.2 ∙ on.1)

pub returns : goal.returns
returns c =
    let a = c.args in
    let l = c.loop-w in
    sym (l.invariant.2 ∙ scan-end a.records.now a.bytes.now a.d a.name.now l.spot.at l.spot.off (omega arith))
