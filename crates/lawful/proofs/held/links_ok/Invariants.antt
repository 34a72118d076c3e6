-- `links_ok` meets its contract. The loop's invariant: the slots that are left decide, and their bytes stand in `rest`.
-- Assumes nothing.
use Rattle.lawful.proofs.Slotting.{Linked}
use Rattle.lawful.proofs.held.links_ok.Given as goal

abbrev pub invariant-loop-h : goal.invariant-loop-h
invariant-loop-h l = Linked l.heads l.contents l.h-index l.rest
