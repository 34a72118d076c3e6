-- `entry_stat` meets its contract: the entry's slot has its metadata. Assumes nothing.
use mathlib.Core.List.{[]}
use mathlib.Core.Path.{sym, ◌∙◌}
use Rattle.layout.specs.Store.{lent}
use Rattle.ask_entry.specs.Reads.{stat_at}
use Rattle.ask_entry.proofs.Stats.{slot-by, spot-stat}
use Rattle.ask_entry.proofs.entry_stat.Goals as goal

pub returns : goal.returns
returns c =
    λ st e f h l p a.
    let g = c.args in
    spot-stat st l a (slot-by st g.spot.at e c.at.ensures c.slot_of.ensures) _ (c.slot_stat.ensures ∙ (λ j. stat_at (lent [] [] (sym f j) (sym h j) [] []) c.slot_of.result))
