-- `held_bytes` meets its contract: the slot that the number stands on has its file's bytes. Assumes nothing.
use mathlib.Core.List.{[]}
use mathlib.Core.Path.{sym, ◌∙◌}
use lib.ListN.{get_or}
use Rattle.layout.specs.Slots.{contents}
use Rattle.ask_entry.proofs.Numbers.{held_by}
use Rattle.ask_entry.proofs.held_bytes.Goals as goal

pub returns-in-Some : goal.returns-in-Some
returns-in-Some c = λ st e f h l o y. held_by st l c.args.n c.in-Some.o (c.in-Some.ensures st e l) o y _ (c.slot_bytes.ensures ∙ (λ j. get_or (contents (sym f j) (sym h j)) c.in-Some.o.slot []))
