-- `set_current_dir` meets its contract: how the call begins, and what the operation comes to over the parts that the limits ask.
-- Assumes nothing.
use Rattle.std.proofs.Common.{refl}
use Rattle.layout.specs.Answers.{read_back}
use Rattle.layout.specs.Lent.{lends}
use Rattle.op.proofs.Cutting.{shows-cut, shows_as, cut_by, cut_alike, as_was, put_back, returned_alike, sized-kept}
use Rattle.op.proofs.Calling.{current-takes, begins-passes, shell-refused, shell-requires, done_at}
use Rattle.jobtree.proofs.state.set_current_dir.Goals as goal

pub returns-in_err-n : goal.returns-in_err-n
returns-in_err-n c = shell-refused (current-takes _) _ _ c.from_residual.ensures.1 c.in_err-n.ensures

pub set_current_at-requires : goal.set_current_at-requires
set_current_at-requires c =
    let a = c.args in let st = lends a.words.now a.records.now a.heads.now a.times.now a.paths.now a.bytes.now in
    shell-requires c.in_ok-n.ensures (cut_by c.of-used.result st) (cut_alike c.of-used.ensures)

pub returns : goal.returns
returns c =
    let a = c.args in let st = lends a.words.now a.records.now a.heads.now a.times.now a.paths.now a.bytes.now in
    let b = c.in_ok-n.ensures in let z = c.of-used.ensures in let p = begins-passes b in
    let d = c.set_current_at.ensures (cut_by c.of-used.result st) (read_back st) (shows_as (cut_alike z) (shows-cut st p)) in
    let k = returned_alike z (record { words = put_back z.words c.set_current_at.auto.words; records = as_was _ _; heads = as_was _ _; times = as_was _ _; paths = put_back z.paths c.set_current_at.auto.paths; bytes = as_was _ _ }) in
    done_at _ _ (current-takes _) b _ _ _ _ d k
    (sized-kept st _ _ p k d.shows.roomy.lawful refl c.type_inv.words c.type_inv.heads c.type_inv.bytes)
