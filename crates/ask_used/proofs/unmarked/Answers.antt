-- `unmarked` meets its contract. Assumes nothing.
use mathlib.Core.Path.{◌∙◌}
use native.Mathlib.Omega.{arith}
use Rattle.std.proofs.Common.{rules}
use Rattle.std.proofs.lemmas.Iterator.{YieldsList-from_map, YieldsList-from_slice, YieldsList-from_zip}
use Rattle.std.proofs.lemmas.Iterator.Consumers.{YieldsList-at, sum_by_from_yields_List}
use Rattle.std.specs.List.{zip}
use Rattle.ask_used.proofs.Sums.{unmarked-sum, free_bytes}
use Rattle.ask_used.proofs.unmarked.Goals as goal

pub returns : goal.returns
returns c =
    let a = c.args in
    let pairs = YieldsList-from_zip (YieldsList-from_slice a.heads.now (search rules)) (YieldsList-from_slice a.marks.now (search rules)) in
    sum_by_from_yields_List free_bytes (zip a.heads.now a.marks.now) _ _ c.sum.ensures.ran
    (YieldsList-from_map _ free_bytes (YieldsList-at c.map.ensures.source pairs) c.map.ensures.closure (λ x r q k. search rules))
    ∙ unmarked-sum a.heads.now a.marks.now (omega arith)
