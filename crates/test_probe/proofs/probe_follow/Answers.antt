-- `probe_follow` meets its contract.
use mathlib.Core.Path.{sym, ap}
use native.Mathlib.Omega.{arith}
use Rattle.test_probe.specs.Numbers.{number_of}
use Rattle.test_probe.proofs.Laws.{follow_none, follow-refused, follow-done, ready-wide, ready-text, answers-short, answers-formed, ok-short, none-long}
use Rattle.test_probe.proofs.probe_follow.Goals as goal

pub returns-then-behind-name : goal.returns-then-behind-name
returns-then-behind-name c = follow_none _ (omega arith)

pub returns-then-out-lt-LONGEST_PATH : goal.returns-then-out-lt-LONGEST_PATH
returns-then-out-lt-LONGEST_PATH c = follow-refused _ (omega arith) (answers-short _ _ (omega arith)) (omega arith)

pub follow_behind-requires : goal.follow_behind-requires
follow_behind-requires c =
    let a = c.args in
    let w = answers-formed (omega arith) c.normalize_path.ensures (sym (ap number_of c.in-Ok.is)) in
    let h = ok-short c.normalize_path.ensures c.in-Ok.is in
    (h, ready-wide a.dir.now w h, omega arith, ready-text a.dir.now w h)

pub returns-in-Ok : goal.returns-in-Ok
returns-in-Ok c =
    let w = answers-formed (omega arith) c.normalize_path.ensures (sym (ap number_of c.in-Ok.is)) in
    let h = ok-short c.normalize_path.ensures c.in-Ok.is in
    follow-done c.args.dir.now w h (omega arith) c.follow_behind.ensures

pub returns-in_default : goal.returns-in_default
returns-in_default c =
    let w = answers-formed (omega arith) c.normalize_path.ensures c.number.ensures in
    follow-refused _ (omega arith) w (omega (arith, c.number.ensures, none-long _ c.in_default.not-Ok))
