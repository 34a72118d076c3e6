-- `names_length` meets its contract: the store lists what each state lists.
-- Assumes nothing.
use mathlib.Core.Path.{sym, ap, ◌∙◌}
use mathlib.Core.List.{List}
use lib.ListN.{length}
use Rattle.path.specs.Path.{Name}
use Rattle.model.specs.Prog.{Stat}
use Rattle.model.specs.Operations.Shows.{names_text}
use Rattle.store.proofs.Listed.{placed_live, listed-told}
use Rattle.store.proofs.listing.names_length.Goals as goal

pub names_length-requires : goal.names_length-requires
names_length-requires c = placed_live c.live.ensures c.requires

pub returns : goal.returns
returns c = λ st s h p a. c.names_length.ensures _ (sym c.live.ensures) h.roomy.lawful p a ∙ ap (λ (l : List (Name × Stat)). length (names_text l)) (listed-told h p)
