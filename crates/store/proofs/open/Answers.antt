-- `open` meets its contract: the store answers as each state that it shows.
-- Assumes nothing.
use mathlib.Core.Path.{◌≡◌, refl, sym, subst}
use borrow.Author.Rules.{rules}
use Rattle.std.specs.Prelude.{option_map}
use Rattle.ask_entry.specs.declared.Opened.{Opened}
use Rattle.store.specs.Shows.{NumberIs}
use Rattle.store.proofs.Asked.{number-told}
use Rattle.store.proofs.open.Goals as goal

pub returns : goal.returns
returns c =
    λ st s h.
    let n = c.args.n in
    let e : c.map.result ≡ option_map (λ (o : Opened). o.pos) c.number_at.result = search rules in
    subst (NumberIs s n) (sym e) (number-told h n c.number_at.result (c.number_at.ensures _ refl h.roomy.lawful))
