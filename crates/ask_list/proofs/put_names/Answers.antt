-- `put_names` meets its contract: the names written and those left are all. Assumes nothing.
use mathlib.Core.List.{[], ◌∷◌, ◌++◌}
use mathlib.Core.Path.{◌≡◌, sym, ap, ◌∙◌}
use Prim.Native.Nat.{ℕ, ◌+◌, ◌-◌}
use native.Mathlib.Omega.{arith}
use lib.ListN.{length, take, drop, length-append}
use Rattle.ask_list.specs.Listed.{in_front}
use Rattle.ask_list.proofs.Entered.{left_in, Fits, name_in, name-long, text_of, text_on, text-end}
use Rattle.ask_list.proofs.Given.{whole, whole-told, whole-room, whole-fits}
use Rattle.ask_list.proofs.Texts.{written_start, written_same, written-room, written_next, written-end}
use Rattle.ask_list.proofs.put_names.Goals.{In-Some}
use Rattle.ask_list.proofs.put_names.Goals as goal

pub loop-entry-init : goal.loop-entry-init
loop-entry-init c =
    let g = c.args in
    let e = ap left_in c.into_iter-entry-iterator.ensures.into_iter_gives ∙ c.below-entry-items.ensures in
    (tt, tt, rw e (whole-fits g.records.now g.bytes.now g.spot c.requires.held), rw e (written_start g.out.now (whole g.records.now g.bytes.now g.spot)))

-- the text of the entry of this turn, and of those behind it
more : (c : In-Some) → let b = c.args.bytes.now in text_of b (left_in c.loop-entry.entry-iterator) ≡ name_in b c.in-Some.entry ++ (0 ∷ text_of b (left_in c.next.new.self))
more c = let b = c.args.bytes.now in ap (text_of b) c.in-Some.ensures.steps ∙ text_on b c.in-Some.entry (left_in c.next.new.self)

-- its name stands within the bytes, and so do those of the others
within : (c : In-Some) → Fits c.args.bytes.now (c.in-Some.entry ∷ left_in c.next.new.self)
within c = rw c.in-Some.ensures.steps at c.loop-entry.invariant.2

pub put_name-requires : goal.put_name-requires
put_name-requires c =
    let g = c.args in
    let b = g.bytes.now in
    let l = c.loop-entry in
    let x = c.in-Some.entry in
    let i = (goal.at.put_name-requires c).In-Some in
    let z : x.spot.off + c.from-n.result - x.spot.off ≡ x.size = omega (arith, c.from-n.ensures) in
    omega (
      arith,
      ap (λ (m : ℕ). length (take m (drop x.spot.off b))) z,
      ap length (more i),
      length-append (name_in b x) (0 ∷ text_of b (left_in c.next.new.self)),
      written-room g.out.now (whole g.records.now b g.spot) l.out l.k (text_of b (left_in l.entry-iterator)) (whole-room g.records.now b g.spot g.out.now c.requires) l.invariant.3,
    )

pub loop-entry-preserved : goal.loop-entry-preserved
loop-entry-preserved c =
    let g = c.args in
    let b = g.bytes.now in
    let l = c.loop-entry in
    let x = c.in-Some.entry in
    let i = (goal.at.loop-entry-preserved c).In-Some in
    let u = whole g.records.now b g.spot in
    let z : x.spot.off + c.from-n.result - x.spot.off ≡ x.size = omega (arith, c.from-n.ensures) in (
      tt,
      tt,
      (within i).1,
      written_next g.out.now u l.out l.k (name_in b x) (take (x.spot.off + c.from-n.result - x.spot.off) (drop x.spot.off b)) (text_of b (left_in c.next.new.self)) c.put_name.new.out c.from-n.result
          (whole-room g.records.now b g.spot g.out.now c.requires) (ap (λ (m : ℕ). take m (drop x.spot.off b)) z) c.put_name.ensures (c.from-n.ensures ∙ sym (name-long b x (within i).0))
          (written_same g.out.now u l.out l.k (text_of b (left_in l.entry-iterator)) _ (more i) l.invariant.3),
    )

pub returns : goal.returns
returns c =
    λ st e l p a f.
    let g = c.args in
    let b = g.bytes.now in
    let v = c.loop-entry in
    let u = whole g.records.now b g.spot in
    written-end g.out.now u v.out v.k (written_same g.out.now u v.out v.k (text_of b (left_in v.entry-iterator)) [] (ap (text_of b) c.in-None.ensures.steps.0 ∙ text-end b) v.invariant.3)
    ∙ ap (λ t. in_front t g.out.now) (whole-told g.records.now b g.spot st l p a e f)
