-- `plain::trimmed` meets its contract.
use mathlib.Core.Path.{sym}
use Rattle.path_scan.proofs.Trimming.{trim-is}
use Rattle.path_scan.proofs.plain.trimmed.Goals as goal

pub returns : goal.returns
returns c = trim-is c.args.s.now _ (rw (sym c.behind_slash.ensures) c.before_slash.ensures)
