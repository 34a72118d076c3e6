-- `block_end` meets its contract: the first record that is not deeper ends the block. Assumes nothing.
use mathlib.Core.Path.{◌≡◌, sym, ap, ◌∙◌}
use Prim.Native.Nat.{◌+◌, ◌-◌, ◌≤◌, ◌<◌}
use native.Mathlib.Omega.{arith}
use lib.ListN.{length, take, drop, get_or, length-drop}
use lib.Seq.{take_all}
use borrow.Author.Tests.{tests}
use Rattle.std.proofs.Common.{rules}
use Rattle.std.specs.Option.{unwrap_or}
use Rattle.std.proofs.lemmas.Iterator.{YieldsList-from_slice, IsFirst-from_position, index_from_first}
use Rattle.layout.specs.Fields.{depth_of}
use Rattle.ask_find.specs.Spans.{span}
use Rattle.ask_find.proofs.Spans.{span_none, span_hit, span_miss}
use Rattle.ask_find.proofs.block_end.Goals as goal

pub returns : goal.returns
returns c =
    let i = c.args.i in
    let ws = drop (i + 1) c.args.records.now in
    let whole : take (length c.args.records.now - (i + 1)) ws ≡ ws = take_all _ _ (omega (arith, length-drop (i + 1) c.args.records.now)) in
    let d = depth_of (get_or c.args.records.now i 0) in
    let first = IsFirst-from_position _ _ _ (λ w. depth_of w ≤ d) (λ w. d < depth_of w) c.position-below.ensures.ran (YieldsList-from_slice ws (c.iter.ensures.rest ∙ whole)) (λ x q k. search (rules, tests)) (λ x q k. search (rules, tests)) in
    let k = index_from_first (span d) (λ w. depth_of w ≤ d) (λ w. d < depth_of w) (span_none d) (span_hit d) (span_miss d) ws c.position-below.result first in
    ap (◌+◌ (i + 1)) (c.unwrap_or.ensures ∙ ap (λ us. unwrap_or c.position-below.result (length us)) whole ∙ sym k)
