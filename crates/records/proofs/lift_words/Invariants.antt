-- `records::lift_words` meets its contract: the words so far are lifted. Assumes nothing.
use Rattle.std.proofs.Common.{◌≡◌, ◌++◌, take, drop, map}
use Rattle.records.specs.Blocks.{lift}
use Rattle.records.proofs.lift_words.Given as goal

abbrev pub invariant-loop-w : goal.invariant-loop-w
invariant-loop-w l = l.w-items ≡ map (lift l.up l.down) (take l.w-index l.initial.w-items) ++ drop l.w-index l.initial.w-items
