-- `kept_path` meets its contract: the cell of the number holds its path. Assumes nothing.
use mathlib.Core.Path.{sym, ◌∙◌}
use Prim.Native.Nat.{◌*◌}
use native.Mathlib.Numerals.{add-one}
use native.Mathlib.Omega.{arith}
use lib.ListN.{take, drop}
use Rattle.ask_entry.proofs.Numbers.{word-by, open-low, kept-told}
use Rattle.ask_entry.proofs.kept_path.Goals as goal

pub returns-then-n-ge-FILE_NUMBERS : goal.returns-then-n-ge-FILE_NUMBERS
returns-then-n-ge-FILE_NUMBERS c = λ st e f l o y. absurd (omega (arith, (open-low st l c.args.n o y).0, c.if-n-ge-FILE_NUMBERS.true))

pub returns : goal.returns
returns c =
    λ st e f l o y.
    let n = c.args.n in
    kept-told st l n o y _ (word-by st n 7 e c.number_word.ensures) _ (c.part.ensures ∙ (λ j. take c.number_word.result (drop (1024 * add-one n j) (sym f j))))
