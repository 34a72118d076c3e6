-- `current` meets its contract: cell 0 holds the path. Assumes nothing.
use mathlib.Core.List.{List}
use mathlib.Core.Path.{sym, ap, ◌∙◌}
use Prim.Native.Nat.{ℕ}
use lib.ListN.{take, get_or}
use Rattle.ask_entry.proofs.Numbers.{here-told}
use Rattle.ask_entry.proofs.current.Goals as goal

pub returns : goal.returns
returns c =
    λ st e f l.
    let q = c.at.ensures ∙ ap (λ (us : List ℕ). get_or us 4 0) (sym e) in
    here-told st l _ (c.part.ensures ∙ (λ j. take (q j) (sym f j)))
