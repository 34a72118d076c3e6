-- `plain::find_plain` meets its contract.
use Rattle.path_scan.proofs.Trimming.{plain-tested}
use Rattle.path_scan.proofs.plain.find_plain.Goals as goal

pub returns : goal.returns
returns c = λ strike. rw c.then_some.ensures (plain-tested _ _ _ c.trimmed-names.ensures c.all_names.ensures strike)
