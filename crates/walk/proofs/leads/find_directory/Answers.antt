-- `find_directory` meets its contract: what the path leads to, with NotDirectory where that is no directory. Assumes nothing.
use Rattle.std.proofs.lemmas.Result.{err_from_is_err_and}
use Rattle.walk.proofs.Leading.{directory_there, directory-file, directory-refused}
use Rattle.walk.proofs.leads.find_directory.Goals as goal

pub returns-in_err-there : goal.returns-in_err-there
returns-in_err-there c =
    λ st s h w y.
    let p = err_from_is_err_and c.from_residual.result c.from_residual.ensures.1 in
    rw (p.1, p.2) (directory-refused _ _ (c.in_err-there.ensures st s h w y))

pub returns-in-Directory : goal.returns-in-Directory
returns-in-Directory c = λ st s h w y. directory_there _ _ c.in-Directory.is (c.in_ok-there.ensures st s h w y)

pub returns-in_default : goal.returns-in_default
returns-in_default c = λ st s h w y. directory-file _ _ c.in_default.not-Directory (c.in_ok-there.ensures st s h w y)
