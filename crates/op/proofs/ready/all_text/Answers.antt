-- `all_text` meets its contract: the test of each text.
-- Assumes nothing.
use Rattle.std.proofs.Common.{rules, tests, ◌∙◌}
use Rattle.std.proofs.lemmas.Iterator.{YieldsList-from_slice}
use Rattle.std.proofs.lemmas.Iterator.Search.{all_from_yields_List}
use Rattle.text.specs.Utf8.{text}
use Rattle.op.proofs.Screening.{all-texts}
use Rattle.op.proofs.ready.all_text.Goals as goal

pub returns : goal.returns
returns c =
    all_from_yields_List (λ t. text t.now) _ _ _ c.all.ensures.ran (YieldsList-from_slice c.args.texts.now cc) (λ x b q k. search (rules, tests))
    ∙ all-texts text c.args.texts.now
