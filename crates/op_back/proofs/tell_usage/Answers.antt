-- `tell_usage` meets its contract: five questions, and five numbers.
-- Assumes nothing.
use native.Mathlib.Omega.{arith}
use Rattle.layout.specs.Lent.{with_records, with_heads}
use Rattle.op_back.proofs.Backs.{usage-told}
use Rattle.op_back.proofs.tell_usage.Goals as goal

pub mask-requires : goal.mask-requires
mask-requires c = let p = c.requires in (with_records c.args.records.now (with_heads c.args.heads.now p.0), p.1, p.2)

pub entries-requires : goal.entries-requires
entries-requires c = let p = c.requires in (with_records c.args.records.now (with_heads c.args.heads.now p.0), p.1, p.2)

pub returns : goal.returns
returns c =
    λ st s h. let a = c.args in let v = with_records a.records.now (with_heads a.heads.now st) in
    usage-told _ s h a.numbers.now _ _ _ _ (omega arith) c.copy_from_slice.ensures.after (c.mask.ensures v s h) (c.entries.ensures v s h) (c.used.ensures st s h)
