-- `path_form::to_absolute_path` meets its contract: an absolute path is normalised, a relative one joined to the directory.
use mathlib.Core.Path.{sym, ap, ◌∙◌}
use Rattle.path.specs.Path.{body}
use Rattle.path.proofs.Forming.{forms_same, from_root, from_dir}
use Rattle.path_form.proofs.to_absolute_path.Goals as goal

pub returns-then-is_absolute : goal.returns-then-is_absolute
returns-then-is_absolute c = forms_same (ap body (from_root _ _ (sym c.is_absolute.ensures ∙ c.if-is_absolute.true))) c.normalize_path.ensures

pub returns : goal.returns
returns c = forms_same (ap body (from_dir _ _ (sym c.is_absolute.ensures ∙ c.if-is_absolute.false))) c.join.ensures
