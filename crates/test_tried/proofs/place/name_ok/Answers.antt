-- `name_ok` meets its contract: a piece with no slash in it is a name.
-- Assumes nothing.
use mathlib.Core.Path.{sym, ◌∙◌, subst}
use native.Mathlib.Omega.{arith}
use lib.Dec.{T}
use borrow.Author.Tests.{eqb-false}
use Rattle.path.proofs.Cutting.{no_slash-reads}
use Rattle.lawful.proofs.KeptPaths.{piece-name}
use Rattle.test_tried.proofs.place.name_ok.Goals as goal

pub returns-then-not-contains : goal.returns-then-not-contains
returns-then-not-contains c h =
    let s = c.args.name.now in
    piece-name s (no_slash-reads s (λ k l. eqb-false _ _ (c.if-not-contains.ensures.cases k 0 (omega arith) l))) (subst T (sym h ∙ c.piece_ok.ensures) tt)
