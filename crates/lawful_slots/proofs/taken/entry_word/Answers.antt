-- `entry_word` meets its contract, kind by kind.
-- Assumes nothing.
use Rattle.lawful_slots.proofs.ByKind.{entry-word}
use Rattle.lawful_slots.proofs.taken.entry_word.Goals as goal

pub returns : goal.returns
returns c = rw (c.kind_of-kind.ensures, c.len_of.ensures, c.code.ensures, c.code-2.ensures, c.code-3.ensures) (entry-word c.args.h)
