-- `entry_kind` meets its contract: the entry's slot has its kind. Assumes nothing.
use mathlib.Core.List.{List}
use mathlib.Core.Path.{sym, ap, ◌∙◌}
use Prim.Native.Nat.{ℕ}
use lib.ListN.{get_or}
use Rattle.ask_entry.proofs.Stats.{slot-by, spot-kind}
use Rattle.ask_entry.proofs.entry_kind.Goals as goal

pub returns : goal.returns
returns c =
    λ st e f l p a.
    let g = c.args in
    spot-kind st l a (slot-by st g.spot.at e c.at.ensures c.slot_of-k.ensures) _ (c.at-2.ensures ∙ ap (λ (us : List ℕ). get_or us c.slot_of-k.result 0) (sym f)) c.kind_in.ensures
