-- `is_held` meets its contract: the numbers are looked at in order, as `held_from` has them. Assumes nothing.
use mathlib.Core.Path.{refl, ◌∙◌}
use Prim.Native.Nat.{◌+◌, ◌*◌, ◌-◌}
use native.Mathlib.Omega.{arith}
use lib.Dec.{eqb}
use lib.ListN.{get_or}
use borrow.Author.Tests.{tests}
use Rattle.std.proofs.Common.{rules}
use Rattle.std.proofs.lemmas.Iterator.{YieldsList-from_range}
use Rattle.std.proofs.lemmas.Iterator.Search.{any_from_yields_List}
use Rattle.slots.proofs.Seeking.{held-any}
use Rattle.slots.proofs.marks.is_held.Goals as goal

pub returns : goal.returns
returns c =
    let ws = c.args.words.now in
    any_from_yields_List (λ j. eqb (get_or ws (5 + 3 * j) 0) c.args.h) _ _ c.any.result c.any.ensures.ran (YieldsList-from_range 0 32 32 refl refl) (λ x b q k. search (rules, tests))
    ∙ held-any ws c.args.h (c.args.h - 1) 32 0 (omega arith)
