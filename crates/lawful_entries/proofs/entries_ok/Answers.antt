-- `entries_ok` meets its contract.
-- Assumes nothing.
use mathlib.Core.Path.{sym, ◌∙◌}
use lib.ListN.{length}
use Rattle.layout.specs.Rows.{rows}
use Rattle.lawful_entries.specs.Fits.{kind_in}
use Rattle.lawful_entries.proofs.Joining.{rows-unclean, rows-clean}
use Rattle.lawful_entries.proofs.entries_ok.Goals as goal

pub returns-then-names_clean : goal.returns-then-names_clean
returns-then-names_clean c = let a = c.args in c.walk_ok.ensures ∙ rows-clean (kind_in a.heads.now) (length a.heads.now) (rows a.recs.now a.bytes.now) (sym c.names_clean.ensures ∙ c.if-names_clean.true)

pub returns-else-names_clean : goal.returns-else-names_clean
returns-else-names_clean c = let a = c.args in c.if-names_clean.false ∙ rows-unclean (kind_in a.heads.now) (length a.heads.now) (rows a.recs.now a.bytes.now) (sym c.names_clean.ensures ∙ c.if-names_clean.false)
