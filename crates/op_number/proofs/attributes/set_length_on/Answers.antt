-- `set_length_on` meets its contract: there is no room, or one edit.
-- Assumes nothing.
use Rattle.std.proofs.Common.{sym}
use Rattle.layout.specs.Lent.{with_records, with_bytes}
use Rattle.op.proofs.Calling.{not-zero}
use Rattle.op.proofs.Doing.{does-err}
use Rattle.op_number.proofs.Resizing.{may-resize, does-resized, resize-full}
use Rattle.op_number.proofs.attributes.set_length_on.Goals as goal

pub returns-in_err-room_for : goal.returns-in_err-room_for
returns-in_err-room_for c =
    λ st s h o. let a = c.args in
    does-err _ _ c.from_residual.ensures.1 (resize-full _ s h _ _ _ o (c.held-len.ensures (with_records a.records.now st) s h) _ (c.in_err-room_for.ensures (with_bytes a.bytes.now st) s h) (not-zero _))

pub held-len-requires : goal.held-len-requires
held-len-requires c = let p = c.requires in (with_records c.args.records.now p.0, p.1, p.2)

pub room_for-requires : goal.room_for-requires
room_for-requires c = let p = c.requires in (with_bytes c.args.bytes.now p.0, p.1, p.2)

pub resize_held-requires : goal.resize_held-requires
resize_held-requires c =
    let a = c.args in let p = c.requires in
    (with_records a.records.now p.0, p.1, p.2, (c.held-len.result.now, may-resize _ p.1 p.2 a.n a.size _ p.3 (c.held-len.ensures (with_records a.records.now p.0) p.1 p.2) (sym (c.in_ok-room_for.ensures (with_bytes a.bytes.now p.0) p.1 p.2))))

pub returns : goal.returns
returns c =
    λ st s h o. let a = c.args in let v = with_records a.records.now st in let y = c.held-len.ensures v s h in
    does-resized _ s h a.n a.size _ o y _ (c.resize_held.ensures v s _ h (may-resize _ s h a.n a.size _ o y (sym (c.in_ok-room_for.ensures (with_bytes a.bytes.now st) s h))))
