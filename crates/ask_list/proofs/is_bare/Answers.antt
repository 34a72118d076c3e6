-- `is_bare` meets its contract: there is no first entry. Assumes nothing.
use mathlib.Core.Path.{◌≡◌, ◌∙◌}
use Rattle.std.proofs.Common.{rules}
use Rattle.std.specs.Option.{is_none}
use Rattle.ask_list.proofs.Given.{bare_by}
use Rattle.ask_list.proofs.is_bare.Goals as goal

pub returns : goal.returns
returns c = λ st e l p a. let z : c.is_none.result ≡ is_none c.first.result = search rules in z ∙ bare_by st l p c.first.result (c.first.ensures st e l p a)
