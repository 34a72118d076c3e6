-- `last::last_place` meets its contract: the last name kept of the path, or else of the directory before it.
use mathlib.Core.Path.{sym, ◌∙◌}
use Rattle.path.proofs.Lasts.{in_path, at-root, in-cwd, nowhere}
use Rattle.path_form.proofs.last.last_place.Goals as goal

pub returns-in-Ok : goal.returns-in-Ok
returns-in-Ok c = in_path _ _ _ _ c.in-Ok.ensures

pub returns-in-Err : goal.returns-in-Err
returns-in-Err c = at-root _ _ _ c.in-Err.ensures (sym c.is_absolute.ensures ∙ c.if-is_absolute.true)

pub returns-in-Ok-last_kept : goal.returns-in-Ok-last_kept
returns-in-Ok-last_kept c =
    in-cwd _ _ _ c.in-Err.ensures (sym c.is_absolute.ensures ∙ c.if-is_absolute.false) _ _ c.in-Ok-last_kept.ensures

pub returns-in-Err-last_kept : goal.returns-in-Err-last_kept
returns-in-Err-last_kept c =
    nowhere _ _ _ c.in-Err.ensures (sym c.is_absolute.ensures ∙ c.if-is_absolute.false) _ c.in-Err-last_kept.ensures
