-- `behind` meets its contract. Assumes nothing.
use Prim.Native.Nat.{◌+◌, ◌≤◌}
use native.Mathlib.Omega.{arith}
use lib.ListN.{length, drop, length-drop}
use Rattle.std.proofs.lemmas.List.{take_rest}
use Rattle.ask_find.proofs.Children.{Ready, ready}
use Rattle.ask_list.specs.Entries.{entries_at}
use Rattle.ask_list.proofs.Entered.{total-le}
use Rattle.ask_list.proofs.entries.Entries.behind.Goals.{Start}
use Rattle.ask_list.proofs.entries.Entries.behind.Goals as goal

-- what the slices have
at-hand : (c : Start) → let a = c.args in Ready a.records.now c.requires.0 a.spot
at-hand c = let a = c.args in ready a.records.now c.requires.0 a.spot c.requires.1

pub behind-requires : goal.behind-requires
behind-requires c = let r = at-hand (goal.at.behind-requires c).Start in (omega (arith, r.within, r.few), omega (arith, r.low))

pub invariant_of-result : goal.invariant_of-result
invariant_of-result c =
    let a = c.args in
    let r = at-hand (goal.at.invariant_of-result c).Start in
    let us = drop (a.spot.at + 1) a.records.now in
    let few : length us ≤ length a.records.now = omega (arith, length-drop (a.spot.at + 1) a.records.now) in
    rw (c.behind.ensures, take_rest) (record { fits = (omega (arith, few, r.few, r.within), omega (arith, few, total-le us, r.few, r.low)) })

pub returns : goal.returns
returns c = λ j. entries_at c.args.depth (take_rest c.args.records.now (c.args.spot.at + 1) j) (c.behind.ensures j)
