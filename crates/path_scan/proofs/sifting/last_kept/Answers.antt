-- `sifting::last_kept` meets its contract: the first name that is read from the end.
use mathlib.Core.Bool.{true}
use mathlib.Core.Path.{refl, sym, ap, subst}
use Prim.Native.Nat.{ℕ, ◌+◌}
use lib.ListN.{length}
use Rattle.std.specs.Prelude.{Result}
use Rattle.path.specs.Answer.{LastIs}
use Rattle.path.proofs.Lasts.{last_found}
use Rattle.path.proofs.Reading.{next_same}
use Rattle.path_scan.specs.Left.{rest}
use Rattle.path_scan.proofs.Fronts.{front-whole}
use Rattle.path_scan.proofs.sifting.last_kept.Goals as goal

pub returns : goal.returns
returns c =
    let s = c.args.s.now in
    let k = c.args.behind in
    let n = c.new-names.result in
    let t = c.next.new.self in
    let e = c.new-names.ensures in
    subst (λ (r : Result (ℕ × ℕ) ℕ). LastIs r s k) (sym c.ok_or.ensures.value)
    (last_found s k c.next.result (rest t.left) t.skip
    (next_same n.strike true s s (rest n.left) (length s + 1) n.skip k c.next.result (rest t.left) t.skip refl e.1 (ap rest e.0) e.2
    (c.next.ensures.steps.1 s (front-whole c.args.s n.left e.0)).1))
