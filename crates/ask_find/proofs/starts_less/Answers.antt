-- `find::starts_less` meets its contract. Assumes nothing.
use mathlib.Core.Bool.{false≢true}
use native.Mathlib.Omega.{arith}
use borrow.Author.Tests.{ltb-true}
use Rattle.ask_find.proofs.starts_less.Goals as goal

pub returns-then-bytes-o-lt8 : goal.returns-then-bytes-o-lt8
returns-then-bytes-o-lt8 c = λ h. absurd (false≢true h)

pub returns : goal.returns
returns c = λ h. omega (arith, c.word.ensures, ltb-true c.word.result c.args.key h)
