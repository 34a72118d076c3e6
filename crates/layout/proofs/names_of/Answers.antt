-- `names_of` meets its contract.
-- Assumes nothing.
use mathlib.Core.Path.{◌∙◌}
use Rattle.std.proofs.Common.{rules, ◌≡◌}
use Rattle.std.proofs.iter.runs.Made.{chains}
use Rattle.std.specs.List.{sum_by}
use Rattle.layout.specs.Fields.{nlen_of}
use Rattle.layout.proofs.Named.{sum-names}
use Rattle.layout.proofs.names_of.Goals as goal

pub returns : goal.returns
returns c =
    let e : c.sum.result ≡ sum_by nlen_of c.args.records.now = search (rules, chains) in
    e ∙ sum-names c.args.records.now
