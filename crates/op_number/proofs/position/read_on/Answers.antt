-- `read_on` meets its contract: the bytes behind the position stand in front, and the number is moved behind them.
-- Assumes nothing.
use Rattle.std.proofs.Common.{length, arith}
use Rattle.layout.specs.Lent.{with_heads, with_bytes}
use Rattle.store_edit.proofs.Entering.{open_at}
use Rattle.op_number.proofs.Reading.{behind-few, does-read}
use Rattle.op_number.proofs.position.read_on.Goals as goal

pub copy_into-requires : goal.copy_into-requires
copy_into-requires c = omega (arith, behind-few c.held-held.result.now c.position-pos.result (length c.args.out.now) _ c.behind-part.ensures)

pub seek-requires : goal.seek-requires
seek-requires c = let p = c.requires in let a = c.args in ((with_heads a.heads.now (with_bytes a.bytes.now p.0), p.1, p.2), (open_at _ p.1 p.2 a.n p.3).0)

pub returns : goal.returns
returns c =
    λ st s h o. let a = c.args in let v = with_heads a.heads.now (with_bytes a.bytes.now st) in
    does-read s a.n _ _ o (c.held-held.ensures st s h) (c.position-pos.ensures v s h) _ _ _ _ _ c.behind-part.ensures c.copy_into.ensures (c.seek.ensures v s h)
