-- `Kept::read_back` meets its contract. The loop's invariant: what was read keeps names whose text is `len` long.
use mathlib.Core.List.{[], ◌∷◌}
use mathlib.Core.Path.{refl, sym, ap, ◌∙◌}
use native.Mathlib.Omega.{arith}
use lib.ListN.{length}
use Rattle.std.specs.Prelude.{Some, None}
use Rattle.path.specs.Path.{body}
use Rattle.path.specs.Backward.{Sifted, part}
use Rattle.path.specs.Answer.{NextIs}
use Rattle.path.proofs.Cutting.{part_length}
use Rattle.path.proofs.Reading.{read_none, read-next, read_end, next_same, body_none, body-cons-length}
use Rattle.path_scan.specs.Left.{rest}
use Rattle.path_scan.proofs.Fronts.{front-whole}
use Rattle.path_scan.proofs.kept.Kept.read_back.Goals.{In-Some, In_default}
use Rattle.path_scan.proofs.kept.Kept.read_back.Goals as goal

pub loop-start-init : goal.loop-start-init
loop-start-init c =
    let e = c.new-names.ensures in
    ([], front-whole c.args.text c.new-names.result.left e.0, e.1, rw (e.0, e.2) (read_none _ _ _), body_none, omega (arith, ap rest e.0))

-- what is read in a turn
found : (c : In-Some) → let a = c.args in let n = c.loop-start.names in let t = c.next.new.self in
    NextIs a.strike a.text.now (rest n.left) n.skip (Some (c.in-Some.start, c.in-Some.end)) (rest t.left) t.skip
found c =
    let a = c.args in let l = c.loop-start in let n = l.names in let t = c.next.new.self in
    next_same n.strike a.strike a.text.now a.text.now (rest n.left) (rest n.left) n.skip n.skip (Some (c.in-Some.start, c.in-Some.end)) (rest t.left) t.skip
    refl l.invariant.2 refl refl (c.in-Some.ensures.steps.1 a.text.now l.invariant.1).1

pub loop-start-preserved : goal.loop-start-preserved
loop-start-preserved c =
    let a = c.args in let l = c.loop-start in let w = l.invariant in
    let x = c.next.ensures.steps in
    let n = found c in
    let name = part c.in-Some.start c.in-Some.end a.text.now in (
      name ∷ w.0,
      (x.1 a.text.now w.1).0,
      x.0 ∙ w.2,
      read-next _ _ _ (rest l.names.left) l.names.skip w.0 w.3 _ _ _ _ n,
      omega (arith, n.1, w.4, body-cons-length name w.0, part_length c.in-Some.start c.in-Some.end a.text.now (omega (arith, n.2, w.3.room))),
      omega (arith, n.0, n.1, n.2, w.5),
    )

pub returns-clause-measured : goal.returns-clause-measured
returns-clause-measured c =
    let a = c.args in let l = c.loop-start in let n = l.names in let t = c.next.new.self in let w = l.invariant in
    let e = read_end _ _ _ (rest n.left) n.skip w.0 w.3 (rest t.left) t.skip
    (next_same n.strike a.strike a.text.now a.text.now (rest n.left) (rest n.left) n.skip n.skip None (rest t.left) t.skip refl w.2 refl refl (c.in_default.ensures.steps.1 a.text.now w.1).1) in
    record { long = w.4 ∙ sym (ap (λ (z : Sifted). length (body z.kept)) e.0); drops = sym (ap (λ (z : Sifted). z.skip) e.0); few = e.1 }
