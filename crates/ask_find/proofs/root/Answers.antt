-- `root` meets its contract: record 0 is the root's, where there is one.
-- Assumes nothing.
use mathlib.Core.Path.{◌∙◌}
use native.Mathlib.Omega.{arith}
use Rattle.ask_find.proofs.Children.{root-found, root-missing}
use Rattle.ask_find.proofs.root.Goals as goal

pub returns-then-count-eq0 : goal.returns-then-count-eq0
returns-then-count-eq0 c = λ st n l. root-missing st l (record { at = 0; off = 0; depth = 0 }) (n ∙ c.if-count-eq0.true)

pub returns : goal.returns
returns c = λ st n l. root-found st l (let z = c.if-count-eq0.false in omega (arith, n, z))
