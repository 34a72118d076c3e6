-- `text::text_ok` meets its contract: octets of which none is odd are a text, and the constant is the table, which antt computes
-- by the rule of the classes. Assumes nothing.
use mathlib.Core.Path.{refl, sym}
use Rattle.text.specs.Classes.{leads, classes, place, class_of, tabulate, table}
use Rattle.text.proofs.Looking.{plain-text}
use Rattle.text.proofs.text_ok.Goals as goal

pub returns-then-all_plain : goal.returns-then-all_plain
returns-then-all_plain c = sym (plain-text _ (c.all_plain.ensures c.if-all_plain.true))

pub invariant_of-classes : goal.invariant_of-classes
unfolding table tabulate class_of classes leads place
invariant_of-classes c = record { right = refl }
