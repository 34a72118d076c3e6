-- `target_ok` meets its contract.
-- Assumes nothing.
use Rattle.std.proofs.Common.{rules}
use Rattle.model.specs.Rules.{target_ok}
use Rattle.lawful.proofs.held.target_ok.Goals as goal

pub returns-then-text_ok : goal.returns-then-text_ok
unfolding target_ok
returns-then-text_ok c = search rules

pub returns-else-text_ok : goal.returns-else-text_ok
unfolding target_ok
returns-else-text_ok c = search rules
