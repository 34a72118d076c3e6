-- `path_ok` meets its contract.
-- Assumes nothing.
use mathlib.Core.Path.{ap, ◌∙◌}
use Prim.Native.Nat.{ℕ}
use native.Mathlib.Omega.{arith}
use lib.Dec.{eqb}
use borrow.Author.Tests.{ne_eqb}
use Rattle.std.proofs.Common.{rules, tests}
use Rattle.std.specs.List.{list_all}
use Rattle.std.proofs.lemmas.List.{nil_from_length}
use Rattle.std.proofs.lemmas.Iterator.Search.{all_from_yields_List}
use Rattle.std.proofs.lemmas.Iterator.Splits.{YieldsList-from_slice_split}
use Rattle.lawful.specs.Parts.{piece_ok}
use Rattle.lawful.proofs.KeptPaths.{pieces-split, root-kept, relative-kept, slash-kept}
use Rattle.lawful.proofs.cells.path_ok.Goals as goal

pub returns-then-first-eq47 : goal.returns-then-first-eq47
returns-then-first-eq47 c =
    let t = c.in-Some.names.now in let e = c.in-Some.ensures.cases in
    let p = all_from_yields_List piece_ok _ _ c.all.result c.all.ensures.ran (YieldsList-from_slice_split _ (λ (b : ℕ). eqb b 47) t c.split.ensures.rest c.split.ensures.done c.split.ensures.closure (λ x b q k. search (rules, tests))) (λ x b q k. search (rules, tests)) in
    rw (e.0, c.if-first-eq47.true) (slash-kept t (omega arith) c.all.result (p ∙ ap (list_all piece_ok) (pieces-split t)))

pub returns-else-first-eq47 : goal.returns-else-first-eq47
returns-else-first-eq47 c = let e = c.in-Some.ensures.cases in rw (e.0, ne_eqb c.in-Some.first.now 47 c.if-first-eq47.false) (relative-kept c.in-Some.first.now c.in-Some.names.now c.if-first-eq47.false)

pub returns-in-None : goal.returns-in-None
returns-in-None c = let e = nil_from_length c.args.s.now c.in-None.ensures.cases in rw e root-kept
