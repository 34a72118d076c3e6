-- `pass` meets its contract: whatever the name is that begins with the key, the scan from the record reached gives the
-- answer. Assumes nothing.
use mathlib.Core.Path.{◌≡◌}
use native.Mathlib.Omega.{arith}
use lib.ListN.{get_or}
use Rattle.layout.specs.Fields.{depth_of}
use Rattle.ask_find.proofs.Scan.{record-met, passed_none, scan-room, passed-on}
use Rattle.ask_find.proofs.pass.Goals as goal

pub loop-w-init : goal.loop-w-init
loop-w-init c = (omega arith, passed_none _ _ _ _ _ c.requires)

pub starts_less-less-requires : goal.starts_less-less-requires
starts_less-less-requires c = omega (arith, c.loop-w.invariant.1.within)

pub behind-spot-requires : goal.behind-spot-requires
behind-spot-requires c =
    let a = c.args in
    let l = c.loop-w in
    let m = record-met a.records.now a.start.at l.w-index l.spot.at l.invariant.0 (omega arith) in
    rw m.1 (omega (arith, m.0), omega (arith, scan-room a.records.now a.bytes.now l.spot.at l.spot.off m.0 l.invariant.1.within))

pub loop-w-preserved : goal.loop-w-preserved
loop-w-preserved c =
    let a = c.args in
    let l = c.loop-w in
    let m = record-met a.records.now a.start.at l.w-index l.spot.at l.invariant.0 (omega arith) in
    let t : c.depth_of-t.result ≡ depth_of (get_or a.records.now l.spot.at 0) = rw m.1 at c.depth_of-t.ensures in
    rw (c.behind-spot.ensures, m.1) (
      omega arith,
      passed-on a.records.now a.bytes.now l.spot.at l.spot.off m.0 a.d a.key a.start l.invariant.1 (λ i. omega (arith, c.type_inv.bytes i)) (omega (arith, c.if-t-d.false, t))
          c.starts_less-less.result c.starts_less-less.ensures (rw t at c.if-not-t-d.false-raw),
    )
