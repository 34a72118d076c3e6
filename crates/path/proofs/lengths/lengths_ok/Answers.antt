-- `lengths::lengths_ok` meets its contract. The loop's invariant: the pieces of the rest decide, since those before it are short.
use Rattle.std.proofs.Common.{rules, ◌≡◌, ◌≢◌, ◌+◌, ◌-◌, ◌≤◌, ◌<◌, List, ℕ, length, take, drop, get_or, sym, ◌∙◌, ap, arith, length-drop}
use Rattle.std.specs.List.{All}
use lib.Seq.{take_all}
use Rattle.path.specs.Path.{pieces, all_short}
use Rattle.path.proofs.Texts.{short-text, short-on, short-none, lengths-pieces, too_long}
use Rattle.path.proofs.lengths.lengths_ok.Goals as goal

pub returns-then-s-gt-LONGEST_PATH : goal.returns-then-s-gt-LONGEST_PATH
returns-then-s-gt-LONGEST_PATH c = too_long _ c.if-s-gt-LONGEST_PATH.true

pub loop-head-preserved : goal.loop-head-preserved
loop-head-preserved c =
    let t = c.loop-head.rest.now in
    let i = c.in-Some-rposition.slash in
    let head : c.in-Some.head.now ≡ take 256 t = search rules in
    let fits : i < length c.in-Some.head.now = search rules in
    let here : get_or c.in-Some.head.now i 0 ≡ 47 = search rules in
    let rest : take (length t - (i + 1)) (drop (i + 1) t) ≡ drop (i + 1) t = take_all _ _ (omega (arith, length-drop (i + 1) t)) in
    c.loop-head.invariant ∙ short-on t c.in-Some.head.now head i fits here ∙ ap (λ (x : List ℕ). all_short (pieces x)) (sym rest)

pub returns-in-None : goal.returns-in-None
returns-in-None c =
    let t = c.loop-head.rest.now in
    let head : c.in-Some.head.now ≡ take 256 t = search rules in
    let long : 256 ≤ length t = search rules in
    let none : All (λ b. b ≢ 47) c.in-Some.head.now = search rules in
    sym (short-none t c.in-Some.head.now head long (λ k h. none k 0 h)) ∙ sym c.loop-head.invariant
    ∙ lengths-pieces c.args.s.now c.if-s-gt-LONGEST_PATH.false

pub returns : goal.returns
returns c =
    let t = c.loop-head.rest.now in
    let short : length t < 256 = search rules in
    sym (short-text t (omega arith)) ∙ sym c.loop-head.invariant ∙ lengths-pieces c.args.s.now c.if-s-gt-LONGEST_PATH.false
