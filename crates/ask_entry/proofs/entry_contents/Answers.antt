-- `entry_contents` meets its contract: the entry's slot has its bytes. Assumes nothing.
use mathlib.Core.List.{[]}
use mathlib.Core.Path.{sym, ◌∙◌}
use lib.ListN.{get_or}
use Rattle.layout.specs.Slots.{contents}
use Rattle.ask_entry.proofs.Stats.{slot-by, spot-contents}
use Rattle.ask_entry.proofs.entry_contents.Goals as goal

pub returns : goal.returns
returns c =
    λ st e f h l p a.
    let g = c.args in
    spot-contents st l a (slot-by st g.spot.at e c.at.ensures c.slot_of.ensures) _ (c.slot_bytes.ensures ∙ (λ j. get_or (contents (sym f j) (sym h j)) c.slot_of.result []))
