-- `look` meets its contract. The loop's invariant: the flags say what the bytes so far say.
-- Assumes nothing.
use mathlib.Core.Path.{◌≡◌}
use lib.ListN.{take}
use Rattle.std.specs.List.{list_any}
use Rattle.text.specs.Looks as octets
use Rattle.lawful_entries.specs.Looks as looks
use Rattle.lawful_entries.proofs.looks.look.Given as goal

abbrev pub invariant-loop-b : goal.invariant-loop-b
invariant-loop-b l = (l.slash ≡ list_any looks.slash (take l.b-index l.s)) × (l.odd ≡ list_any octets.odd (take l.b-index l.s))
