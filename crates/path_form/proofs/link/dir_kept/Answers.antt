-- `link::dir_kept` meets its contract.
use mathlib.Core.Path.{sym, ◌∙◌}
use Prim.Native.Nat.{zero-le}
use Rattle.path.proofs.Forming.{from_absolute, from_relative}
use Rattle.path_form.proofs.link.dir_kept.Goals as goal

pub returns-then-is_absolute : goal.returns-then-is_absolute
returns-then-is_absolute c = (zero-le, from_absolute _ _ _ (sym c.is_absolute.ensures ∙ c.if-is_absolute.true))

pub returns : goal.returns
returns c = (c.drop_names.ensures.0, c.drop_names.ensures.1 ∙ from_relative _ _ _ (sym c.is_absolute.ensures ∙ c.if-is_absolute.false))
