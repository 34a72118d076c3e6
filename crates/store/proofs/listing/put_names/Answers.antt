-- `put_names` meets its contract: the store lists what each state lists.
-- Assumes nothing.
use mathlib.Core.List.{List}
use mathlib.Core.Path.{refl, sym, ap, ◌∙◌}
use Rattle.path.specs.Path.{Name}
use Rattle.model.specs.Prog.{Stat}
use Rattle.model.specs.Operations.Shows.{names_text}
use Rattle.model.specs.Buffers.{in_front}
use Rattle.store.proofs.Listed.{roomy, listed-told}
use Rattle.store.proofs.listing.put_names.Goals as goal

pub put_names-requires : goal.put_names-requires
put_names-requires c = rw c.live.ensures (roomy c.args.words.now c.args.records.now c.args.bytes.now c.args.spot c.args.out.now c.requires)

pub returns : goal.returns
returns c = λ st s h p a. c.put_names.ensures _ (sym c.live.ensures) h.roomy.lawful p a refl ∙ ap (λ (l : List (Name × Stat)). in_front (names_text l) c.args.out.now) (listed-told h p)
