-- `link::follow` meets its contract: what stays of the directory, what is kept of the target, and the rest, moved.
use mathlib.Core.Path.{◌≡◌, refl, sym, ◌∙◌}
use Prim.Native.Nat.{◌-◌, ◌≤◌}
use native.Mathlib.Omega.{arith}
use lib.ListN.{take}
use lib.Seq.{length-take-le, take-take}
use Rattle.path.specs.Backward.{drop_n}
use Rattle.path.specs.Path.{names, from, body}
use Rattle.path.proofs.Cutting.{part_length}
use Rattle.path.proofs.Forming.{follow-long, follow-forms}
use Rattle.path_form.proofs.link.follow.Goals.{After-dir_kept-first}
use Rattle.path_form.proofs.link.follow.Goals as goal

-- what stays of the directory
first : (c : After-dir_kept-first) → let a = c.args in let d = c.dir_kept-first in
    (d.result ≤ a.dir) × (take d.result a.out.now ≡ body (drop_n c.measure-kept.result.skip (from (names (take a.dir a.out.now)) a.target.now)))
first c =
    let a = c.args in let d = c.dir_kept-first in
    let l : d.result ≤ a.dir = omega (arith, d.ensures.0, length-take-le a.dir a.out.now (omega (arith, c.requires))) in
    (l, sym (take-take d.result a.dir a.out.now l) ∙ d.ensures.1)

pub returns-then-first-kept : goal.returns-then-first-kept
returns-then-first-kept c =
    let a = c.args in let k = c.measure-kept.result in let d = c.dir_kept-first in let m = c.measure-kept.ensures.measured in let f = first (goal.at.returns-then-first-kept c).After-dir_kept-first in
    follow-long _ _ _ d.result k.len k.skip a.rest a.len m.drops m.long (omega (arith, f.0, c.requires)) f.1
    (omega (arith, c.if-first-kept.true))

pub returns-then-at-behind : goal.returns-then-at-behind
returns-then-at-behind c =
    let a = c.args in let k = c.measure-kept.result in let d = c.dir_kept-first in let m = c.measure-kept.ensures.measured in let f = first (goal.at.returns-then-at-behind c).After-dir_kept-first in
    follow-long _ _ _ d.result k.len k.skip a.rest a.len m.drops m.long (omega (arith, f.0, c.requires)) f.1
    (omega (arith, c.if-at-behind.true, part_length a.rest a.len a.out.now (omega (arith, c.requires))))

pub returns : goal.returns
returns c =
    let a = c.args in let k = c.measure-kept.result in let d = c.dir_kept-first in let m = c.measure-kept.ensures.measured in let f = first (goal.at.returns c).After-dir_kept-first in
    let e = c.measure-kept.ensures.given in
    follow-forms _ _ _ d.result k.len k.skip a.rest a.len m.drops m.long (omega (arith, f.0, c.requires)) f.1
    _ _ (a.len - a.rest) (sym (part_length a.rest a.len a.out.now (omega (arith, c.requires)))) refl c.shift.ensures (omega (arith, c.if-first-kept.false, c.requires))
    (rw (e.0, e.1, e.2) at c.put.ensures) (omega (arith, c.if-first-kept.false, c.if-at-behind.false, f.0, c.requires))
