-- `plain::behind_slash` meets its contract.
use Rattle.std.proofs.Common.{rules, ◌≡◌, ◌-◌, length, drop, arith}
use lib.ListN.{get_or, length-drop}
use lib.Seq.{take_all}
use Rattle.path_scan.proofs.Trimming.{lead_slash}
use Rattle.path_scan.proofs.plain.behind_slash.Goals as goal

pub returns-in-47 : goal.returns-in-47
returns-in-47 c =
    let s = c.args.s.now in
    let slash : get_or s 0 0 ≡ 47 = search rules in
    rw (lead_slash s c.in-47.len_at_least slash) (take_all (length s - 1) (drop 1 s) (omega (arith, length-drop 1 s)))
