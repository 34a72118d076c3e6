-- `last_entry` meets its contract: in the directory that was found the name is looked for, in every world that the store shows.
-- Assumes nothing.
use Rattle.std.proofs.lemmas.Result.{err_from_is_err_and}
use Rattle.layout.specs.Lent.{with_tree}
use Rattle.ask_find.specs.Spots.{hidden_at}
use Rattle.walk.proofs.Rooted.{some_asked}
use Rattle.walk.proofs.Leading.{dir-stands, dir-kind, last_found, last_missing, last_refused}
use Rattle.walk.proofs.leads.last_entry.Goals as goal

pub returns-in_err-dir : goal.returns-in_err-dir
returns-in_err-dir c =
    λ st s h w y.
    let p = err_from_is_err_and c.from_residual.result c.from_residual.ensures.1 in
    rw (p.1, p.2) (last_refused _ _ _ (c.in_err-dir.ensures st s h w y))

pub child-requires : goal.child-requires
child-requires c =
    let p = c.requires.0 in
    let u = with_tree c.args.scope.tree p.0 in
    let w = some_asked u p.1 (hidden_at c.args.scope.hidden) in
    (u, p.1, _, p.2, dir-stands (hidden_at c.args.scope.hidden) _ c.args.name.now _ (c.in_ok-dir.ensures p.0 p.1 p.2 w.0 w.1))

pub returns-in-Ok : goal.returns-in-Ok
returns-in-Ok c =
    λ st s h w y.
    let a = c.args in let u = with_tree a.scope.tree st in let x = a.name.now in let f = c.in_ok-dir.ensures st s h w y in
    let i = c.in-Ok.ensures u s h _ w (dir-stands (hidden_at a.scope.hidden) _ x _ f) y (dir-kind (hidden_at a.scope.hidden) _ x _ f) in
    last_found (hidden_at a.scope.hidden) _ x _ f _ _ i (λ t. c.kind-kind.ensures u s h _ t.at)

pub returns-in-Err : goal.returns-in-Err
returns-in-Err c =
    λ st s h w y.
    let a = c.args in let u = with_tree a.scope.tree st in let x = a.name.now in let f = c.in_ok-dir.ensures st s h w y in
    let i = c.in-Err.ensures u s h _ w (dir-stands (hidden_at a.scope.hidden) _ x _ f) y (dir-kind (hidden_at a.scope.hidden) _ x _ f) in
    last_missing (hidden_at a.scope.hidden) _ x _ f _ i
