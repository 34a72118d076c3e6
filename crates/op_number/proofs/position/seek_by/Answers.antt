-- `seek_by` meets its contract, by where the seek leads.
-- Assumes nothing.
use Rattle.layout.specs.Lent.{with_heads, with_bytes}
use Rattle.op.proofs.Doing.{does-err}
use Rattle.store_edit.proofs.Entering.{open_at}
use Rattle.op_number.proofs.Reading.{does-sought, does-nowhere}
use Rattle.op_number.proofs.position.seek_by.Goals as goal

pub returns-in_err-place : goal.returns-in_err-place
returns-in_err-place c =
    λ st s h o. let a = c.args in let v = with_heads a.heads.now (with_bytes a.bytes.now st) in
    does-err _ _ c.from_residual.ensures.1 (does-nowhere s a.n _ _ o (c.held.ensures st s h) (c.position.ensures v s h) _ _ _ _ h _ c.in_err-place.ensures)

pub seek-requires : goal.seek-requires
seek-requires c = let p = c.requires in let a = c.args in ((with_heads a.heads.now (with_bytes a.bytes.now p.0), p.1, p.2), (open_at _ p.1 p.2 a.n p.3).0)

pub returns : goal.returns
returns c =
    λ st s h o. let a = c.args in let v = with_heads a.heads.now (with_bytes a.bytes.now st) in
    does-sought s a.n _ _ o (c.held.ensures st s h) (c.position.ensures v s h) _ _ _ _ _ c.in_ok-place.ensures (c.seek.ensures v s h)
