-- `setup::set_up` meets its contract. Assumes nothing.
use Rattle.std.proofs.Common.{rules}
use Rattle.setup.proofs.Answers.{says-15, says-16, says-done}
use Rattle.setup.proofs.set_up.Goals as goal

pub returns-then-not-entries_fit : goal.returns-then-not-entries_fit
returns-then-not-entries_fit c = says-15 _ _ _ _ _ _ _ _ (search rules)

pub returns-then-not-bytes_fit : goal.returns-then-not-bytes_fit
returns-then-not-bytes_fit c = says-16 _ _ _ _ _ _ _ _ (search rules) (search rules)

pub returns : goal.returns
returns c = says-done _ _ _ _ _ _ _ _ (search rules) _ c.fresh_words.ensures (search rules)
