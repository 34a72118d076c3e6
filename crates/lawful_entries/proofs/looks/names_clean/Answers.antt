-- `names_clean` meets its contract: the look tells of a slash in some name, and that no name can fail to be text.
-- Assumes nothing.
use mathlib.Core.Path.{◌∙◌}
use Rattle.std.proofs.Common.{rules}
use Rattle.lawful_entries.proofs.Looking.{clean-slash, clean-text, clean-plain}
use Rattle.lawful_entries.proofs.looks.names_clean.Goals as goal

pub returns-then-not-seen-2 : goal.returns-then-not-seen-2
returns-then-not-seen-2 c = let a = c.args in let s = c.look-seen in (search rules) ∙ clean-plain a.recs.now a.bytes.now a.total c.requires.0 s.result.slash s.result.odd s.ensures.0 (search rules) s.ensures.1 (search rules)

pub returns-else-not-seen-2 : goal.returns-else-not-seen-2
returns-else-not-seen-2 c = let a = c.args in let s = c.look-seen in c.names_text.ensures ∙ clean-text a.recs.now a.bytes.now a.total c.requires.0 s.result.slash s.ensures.0 (search rules)

pub returns-else-not-seen : goal.returns-else-not-seen
returns-else-not-seen c = let a = c.args in let s = c.look-seen in (search rules) ∙ clean-slash a.recs.now a.bytes.now a.total c.requires.0 s.result.slash s.ensures.0 (search rules)
