-- `Kept::put_back` meets its contract. The loop's invariant: the names kept of what was read are stored from `at` to `end`.
use Rattle.std.proofs.Common.{rules}
use mathlib.Core.List.{[], ◌∷◌}
use mathlib.Core.Path.{◌≡◌, refl, ◌∙◌}
use Prim.Native.Nat.{◌+◌, ◌-◌, ◌≤◌}
use native.Mathlib.Omega.{arith}
use lib.ListN.{length}
use Rattle.std.specs.Prelude.{Some}
use Rattle.path.specs.Path.{Name}
use Rattle.path.specs.Backward.{part}
use Rattle.path.specs.Answer.{NextIs}
use Rattle.path.proofs.Cutting.{part_length}
use Rattle.path.proofs.Reading.{Read, read_none, read-next, read_fits, next_same, body-cons-length}
use Rattle.path.proofs.Storing.{stored_none, stored_more}
use Rattle.path_scan.specs.Left.{rest}
use Rattle.path_scan.proofs.Fronts.{front-whole}
use Rattle.path_scan.proofs.kept.Kept.put_back.Goals.{In-Some}
use Rattle.path_scan.proofs.kept.Kept.put_back.Goals as goal

pub loop-start-init : goal.loop-start-init
loop-start-init c =
    let a = c.args.self.now in
    let i = c.into_iter-start-iterator.result in
    let left : i.left ≡ Some a.text = search rules in
    let skip : i.skip ≡ a.behind = search rules in
    ([], front-whole a.text i.left left, search rules, rw (left, skip) (read_none a.strike a.text.now a.behind), stored_none _ _, refl)

-- the name that is stored, and what was read with it
abbrev name : (c : In-Some) → Name
name c = part c.in-Some.start c.in-Some.stop c.args.self.now.text.now

found : (c : In-Some) → let a = c.args.self.now in let n = c.loop-start.start-iterator in let t = c.next.new.self in
    NextIs a.strike a.text.now (rest n.left) n.skip (Some (c.in-Some.start, c.in-Some.stop)) (rest t.left) t.skip
found c =
    let a = c.args.self.now in let l = c.loop-start in let n = l.start-iterator in let t = c.next.new.self in
    next_same n.strike a.strike a.text.now a.text.now (rest n.left) (rest n.left) n.skip n.skip (Some (c.in-Some.start, c.in-Some.stop)) (rest t.left) t.skip
    refl l.invariant.2 refl refl (c.in-Some.ensures.steps.1 a.text.now l.invariant.1).1

ran : (c : In-Some) → let a = c.args.self.now in let t = c.next.new.self in
    Read a.strike a.text.now a.behind (rest t.left) t.skip (name c ∷ c.loop-start.invariant.0)
ran c =
    let l = c.loop-start in
    read-next _ _ _ (rest l.start-iterator.left) l.start-iterator.skip l.invariant.0 l.invariant.3 _ _ _ _ (found c)

-- the name and its slash are as long as what was read, and there is room for them
size : (c : In-Some) → length (name c) + 1 ≡ c.in-Some.stop - c.in-Some.start + 1
size c =
    let n = found c in
    omega (arith, part_length c.in-Some.start c.in-Some.stop c.args.self.now.text.now (omega (arith, n.2, c.loop-start.invariant.3.room)))

room : (c : In-Some) → c.in-Some.stop - c.in-Some.start + 1 ≤ c.loop-start.at
room c =
    let w = c.loop-start.invariant in
    omega (arith, size c, w.4.width, c.requires.1, c.args.self.now.long, body-cons-length (name c) w.0, read_fits _ _ _ _ _ _ (ran c))

pub overflow_sub-at-in-loop-start : goal.overflow_sub-at-in-loop-start
overflow_sub-at-in-loop-start c = room c

pub put_name-requires : goal.put_name-requires
put_name-requires c =
    let s = (goal.at.put_name-requires c).In-Some in
    omega (arith, size s, room s, c.requires.0, c.loop-start.invariant.4.width, c.loop-start.invariant.5)

pub loop-start-preserved : goal.loop-start-preserved
loop-start-preserved c =
    let w = c.loop-start.invariant in
    let s = (goal.at.loop-start-preserved c).In-Some in
    let x = c.next.ensures.steps in (
      name s ∷ w.0,
      (x.1 c.args.self.now.text.now w.1).0,
      x.0 ∙ w.2,
      ran s,
      stored_more _ _ _ _ w.0 w.4 _ _ (name s) (omega (arith, c.requires.0, w.4.width, w.5)) (omega (arith, size s, room s)) c.put_name.ensures,
      c.put_name.auto.out ∙ w.5,
    )
