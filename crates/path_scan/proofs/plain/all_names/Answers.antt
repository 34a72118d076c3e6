-- `plain::all_names` meets its contract: a clean text that begins and ends like names has only names.
use Rattle.std.proofs.Common.{rules, ◌<◌, length}
use Rattle.path.proofs.Following.{clean-names}
use Rattle.path_scan.proofs.plain.all_names.Goals as goal

pub returns : goal.returns
returns c =
    let some : 0 < length c.args.s.now = search rules in
    λ e. (some, clean-names c.args.s.now some c.if-s-eq47.false c.if-s-eq46.false c.if-s-eq47-2.false (c.clean.ensures e))
