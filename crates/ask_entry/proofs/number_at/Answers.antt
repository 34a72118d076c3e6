-- `number_at` meets its contract, by whether the number's word is 0. Assumes nothing.
use native.Mathlib.Omega.{arith}
use Rattle.ask_entry.proofs.Numbers.{word-by, number-closed, number-open}
use Rattle.ask_entry.proofs.number_at.Goals as goal

pub returns-in_err-slot : goal.returns-in_err-slot
returns-in_err-slot c = λ st e l. let n = c.args.n in rw c.from_residual.ensures (number-closed st l n (word-by st n 5 e c.number_word.ensures) (omega (arith, c.in_err-slot.ensures)))

pub returns : goal.returns
returns c =
    λ st e l.
    let n = c.args.n in let s = c.in_ok-slot.ensures in
    rw s.1 (number-open st l n (word-by st n 5 e c.number_word.ensures) (λ z. omega (arith, s.0)) _ (word-by st n 6 e c.number_word-2.ensures))
