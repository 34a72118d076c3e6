-- `set_current_at` meets its contract: the path of an entry can be kept.
-- Assumes nothing.
use Prim.Native.Nat.{◌≤◌}
use lib.ListN.{length}
use lib.Seq.{length-take-le}
use Rattle.std.proofs.Common.{arith, sym}
use Rattle.layout.specs.Lent.{with_records, with_heads, with_paths, with_bytes}
use Rattle.op.proofs.Doing.{does-done, does-passed}
use Rattle.op.proofs.Leading.{led-front, led-kind}
use Rattle.op.proofs.Writing.{links-written}
use Rattle.op.proofs.Naming.{shown-named, short-front, cell_of}
use Rattle.op_state.proofs.Setting.{current-refused, current-set}
use Rattle.op_state.proofs.set_current_at.Goals.{In_ok-there}
use Rattle.op_state.proofs.set_current_at.Goals as goal

pub leads-requires : goal.leads-requires
leads-requires c = let p = c.requires.0 in ((with_paths c.args.paths.now p.0, p.1, p.2), c.requires.1)

-- the buffer has room for the path
fits : (c : In_ok-there) → c.in_ok-there.there.len ≤ length c.leads.new.work
fits c = let p = c.requires.0 in omega (arith, (led-front (c.in_ok-there.ensures (with_paths c.args.paths.now p.0) p.1 p.2)).0, c.requires.1.room, c.leads.auto.work)

pub slice_bounds-go-end : goal.slice_bounds-go-end
slice_bounds-go-end c = fits (goal.at.slice_bounds-go-end c).In_ok-there

pub slice_bounds-go-end-2 : goal.slice_bounds-go-end-2
slice_bounds-go-end-2 c = sym (length-take-le _ _ (fits (goal.at.slice_bounds-go-end-2 c).In_ok-there))

pub returns-in_err-there : goal.returns-in_err-there
returns-in_err-there c =
    λ st s h. does-passed _ _ c.from_residual.ensures.1 h (current-refused _ (c.in_err-there.ensures (with_paths c.args.paths.now st) s h))

pub go-requires : goal.go-requires
go-requires c =
    let a = c.args in let p = c.requires.0 in let l = c.in_ok-there.ensures (with_paths a.paths.now p.0) p.1 p.2 in let f = led-front l in (
      (with_records a.records.now (with_heads a.heads.now (with_bytes a.bytes.now p.0)), p.1, p.2),
      cell_of _ f.1 (short-front _ c.leads.new.work f.0) (shown-named _ p.1 p.2 _ _ (led-kind l)),
    )

pub returns : goal.returns
returns c =
    λ st s h. let a = c.args in
    does-done _ s _ _ _ (current-set _ (c.in_ok-there.ensures (with_paths a.paths.now st) s h))
    (c.go.ensures (with_records a.records.now (with_heads a.heads.now (with_bytes a.bytes.now st))) s h) _ _ (links-written _ a.links.now)
