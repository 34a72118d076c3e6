-- `text::all_plain` meets its contract: as long as no odd octet was met, none was passed. Assumes nothing.
use Rattle.std.proofs.Common.{◌≡◌, false}
use Rattle.text.specs.Looks.{Plain}
use Rattle.text.proofs.all_plain.Given as goal

abbrev pub invariant-loop-b : goal.invariant-loop-b
invariant-loop-b l = l.seen ≡ false → Plain l.s 0 l.b-index
