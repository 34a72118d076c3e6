-- `path_form::normalize_path` meets its contract.
use mathlib.Core.Path.{sym}
use Rattle.path.proofs.Forming.{forms_same, normal-kept}
use Rattle.path_form.proofs.normalize_path.Goals as goal

pub returns : goal.returns
returns c = forms_same (sym (normal-kept _)) c.form.ensures
