-- `follow_behind` meets its contract.
use Rattle.std.proofs.Common.{rules, length, arith, refl, ◌∙◌}
use Rattle.std.proofs.lemmas.List.Edits.{paste_all}
use Rattle.test_probe.proofs.Laws.{behind_none, behind_all, reads-behind}
use Rattle.test_probe.proofs.follow_behind.Goals as goal

pub returns-then-have-behind : goal.returns-then-have-behind
returns-then-have-behind c = let a = c.args in let p = c.requires in behind_none a.out.now a.have a.behind.now a.name a.target.now p.3 (omega arith) (omega arith)

pub follow-requires : goal.follow-requires
follow-requires c =
    let a = c.args in
    let put = c.copy_into.ensures ∙ paste_all a.out.now a.have a.behind.now (length a.behind.now) refl in
    (omega arith, omega arith, omega arith, search rules, reads-behind a.out.now a.have _ c.requires.3 (omega arith) put)

pub returns : goal.returns
returns c =
    let a = c.args in
    let p = c.requires in
    let put = c.copy_into.ensures ∙ paste_all a.out.now a.have a.behind.now (length a.behind.now) refl in
    behind_all a.out.now a.have a.behind.now a.name a.target.now p.3 (omega arith) (omega arith) (omega arith) put c.follow.ensures c.number.ensures
