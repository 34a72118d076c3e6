-- `weigh` meets its contract: the record and the slot of the entry say what it takes up. Assumes nothing.
use mathlib.Core.Path.{◌≡◌, sym}
use Prim.Native.Nat.{◌+◌, ◌-◌}
use native.Mathlib.Omega.{arith}
use Rattle.ask_used.specs.Answers.{held_in}
use Rattle.ask_used.proofs.Weighing.{Ready, ready, weight-told}
use Rattle.ask_used.proofs.weigh.Goals.{Start}
use Rattle.ask_used.proofs.weigh.Goals as goal

-- what the slices have
at-hand : (c : Start) → let a = c.args in Ready a.words.now a.records.now a.heads.now a.spot
at-hand c = let a = c.args in ready a.words.now a.records.now a.heads.now a.spot c.requires

pub bounds-records-i : goal.bounds-records-i
bounds-records-i c = omega (arith, (at-hand (goal.at.bounds-records-i c).Start).within)

pub offset_bounds-heads-k : goal.offset_bounds-heads-k
offset_bounds-heads-k c = let r = at-hand (goal.at.offset_bounds-heads-k c).Start in omega (arith, r.slot, r.low, c.slot_of-k.ensures)

pub bounds-heads-k : goal.bounds-heads-k
bounds-heads-k c = let r = at-hand (goal.at.bounds-heads-k c).Start in omega (arith, r.slot, c.slot_of-k.ensures)

pub is_held-requires : goal.is_held-requires
is_held-requires c = let r = at-hand (goal.at.is_held-requires c).Start in (omega (arith, r.wide), omega (arith, r.slot, r.low, c.slot_of-k.ensures))

pub returns : goal.returns
returns c =
    λ st e f g l p a.
    let b = c.args in
    let k : c.slot_of-k.result + 1 - 1 ≡ c.slot_of-k.result = omega arith in
    let held : c.is_held.result ≡ held_in b.words.now c.slot_of-k.result = rw (sym k) c.is_held.ensures in
    weight-told b.words.now b.records.now b.heads.now st e f g l b.spot p a c.slot_of-k.result c.nlen_of.result c.len_of.result c.is_held.result c.slot_of-k.ensures c.nlen_of.ensures c.len_of.ensures held
