-- `child` meets its contract: a record that is found has the path of its directory and its own name.
-- Assumes nothing.
use mathlib.Core.Path.{sym, ◌∙◌, subst}
use Rattle.std.specs.Prelude.{Option, IfSome}
use Rattle.layout.specs.Lent.{lent_by}
use Rattle.ask_find.specs.declared.Spot.{Spot}
use Rattle.test_tried.specs.Tried.{ChildOf}
use Rattle.test_tried.proofs.Spots.{record-found}
use Rattle.test_tried.proofs.open.child.Goals as goal

pub returns : goal.returns
returns c =
    let g = c.args in
    subst (λ (o : Option Spot). IfSome o (λ s. ChildOf (lent_by g.lent) g.dir g.name.now s.at)) (sym c.ok.ensures.value ∙ c.in_ok-ok.was)
    (record-found (lent_by g.lent) g.dir (c.is_dir.ensures c.if-not-is_dir.false).0 g.name.now _ c.look.ensures)
