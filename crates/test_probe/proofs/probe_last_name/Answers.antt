-- `probe_last_name` meets its contract.
use mathlib.Core.List.{◌++◌}
use Rattle.std.proofs.Common.{◌≡◌, ℕ, ◌+◌, length, drop, arith, ap, ◌∙◌, refl}
use Rattle.std.proofs.lemmas.List.Edits.{paste_all}
use Rattle.test_probe.proofs.Laws.{name-long, name-put}
use Rattle.test_probe.proofs.probe_last_name.Goals as goal

pub returns-then-out-n : goal.returns-then-out-n
returns-then-out-n c = name-long _ c.last_name-n.ensures (omega arith)

pub returns : goal.returns
returns c =
    let n = c.last_name-n.result.now in
    let out = c.args.out.now in
    let z : 0 + length n ≡ length n = omega arith in
    name-put _ c.last_name-n.ensures (omega arith) (c.copy_into.ensures ∙ paste_all out 0 n (length n) refl ∙ ap (λ (k : ℕ). n ++ drop k out) z)
