-- `put_path` meets its contract: an empty text is the root, any other is the path as it is shown.
-- Assumes nothing.
use mathlib.Core.Path.{sym}
use borrow.Author.Tests.{eqb-true, eqb-false}
use Rattle.op_look.proofs.Reading.{root-shown, named-shown, put_same}
use Rattle.op_look.proofs.contents.put_path.Goals as goal

pub returns-then-is_empty : goal.returns-then-is_empty
returns-then-is_empty c = put_same (root-shown _ c.requires (eqb-true _ _ (sym c.if-is_empty.ensures))) c.put_bytes.ensures

pub returns : goal.returns
returns c = put_same (named-shown _ c.requires (eqb-false _ _ (sym c.if-is_empty.ensures))) c.put_bytes-2.ensures
