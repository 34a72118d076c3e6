-- `path_form::raw_path` meets its contract: all names are kept.
use mathlib.Core.Path.{sym}
use Rattle.path.proofs.Forming.{forms_same, raw-kept}
use Rattle.path_form.proofs.raw_path.Goals as goal

pub returns : goal.returns
returns c = forms_same (sym (raw-kept _)) c.form.ensures
