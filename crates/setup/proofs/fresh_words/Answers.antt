-- `setup::fresh_words` meets its contract. Assumes nothing.
use mathlib.Core.List.{List, ◌++◌}
use mathlib.Core.Path.{◌∙◌, ap}
use Prim.Native.Nat.{ℕ}
use lib.ListN.{drop, replicate}
use lib.Seq.{length-take-le}
use Rattle.setup.proofs.Fresh.{fresh_from}
use Rattle.setup.proofs.fresh_words.Goals as goal

pub returns : goal.returns
returns c =
    let w = c.args.words.now in
    fresh_from _ _ w _ (ap (λ (x : List ℕ). x ++ drop 102 w) (c.fill.ensures.after (λ y e. e) ∙ ap (λ (n : ℕ). replicate n 0) (length-take-le 102 w c.requires)))
