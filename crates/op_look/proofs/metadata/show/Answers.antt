-- `show` meets its contract: the record that the store tells is put in front, where there is room.
-- Assumes nothing.
use mathlib.Core.Path.{refl}
use native.Mathlib.Omega.{arith}
use Rattle.layout.specs.Lent.{with_bytes}
use Rattle.op_look.specs.Rows.{put, short}
use Rattle.op_look.proofs.Showing.{size_low}
use Rattle.op_look.proofs.metadata.show.Goals as goal

pub returns-then-rows-lt-NUMBERS : goal.returns-then-rows-lt-NUMBERS
returns-then-rows-lt-NUMBERS c = λ st s h p a. short _ (c.stat-s.ensures (with_bytes c.args.tree.bytes.now st) s h p a) c.if-rows-lt-NUMBERS.true refl refl

pub put_record-requires : goal.put_record-requires
put_record-requires c = let q = c.requires in (omega arith, size_low _ q.1 q.3 q.2 _ (c.stat-s.ensures (with_bytes c.args.tree.bytes.now q.0) q.1 q.3 q.2 q.4))

pub returns : goal.returns
returns c = λ st s h p a. put _ (c.stat-s.ensures (with_bytes c.args.tree.bytes.now st) s h p a) c.if-rows-lt-NUMBERS.false c.put_record.ensures refl
