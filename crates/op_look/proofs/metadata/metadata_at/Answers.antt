-- `metadata_at` meets its contract, by what the path leads to.
-- Assumes nothing.
use Rattle.std.proofs.Common.{refl}
use Rattle.layout.specs.Lent.{with_times}
use Rattle.op.proofs.Calling.{not-zero}
use Rattle.op.proofs.Doing.{does-err, does-passed}
use Rattle.op.proofs.Leading.{led-stands, led-count}
use Rattle.op_look.proofs.Showing.{row-refused, row-shown, metadata-refused, metadata_there}
use Rattle.op_look.proofs.metadata.metadata_at.Goals as goal

pub returns-in_err-there : goal.returns-in_err-there
returns-in_err-there c =
    λ st s h. does-passed _ _ c.from_residual.ensures.1 h (metadata-refused _ _ (c.in_err-there.ensures (with_times c.args.times.now st) s h))

pub show-requires : goal.show-requires
show-requires c =
    let p = c.requires.0 in let a = c.args in
    (p.0, p.1, _, p.2, led-stands (c.in_ok-there.ensures (with_times a.times.now p.0) p.1 p.2))

pub returns-in_err-show : goal.returns-in_err-show
returns-in_err-show c =
    λ st s h. does-err _ _ c.from_residual-in_err-show.ensures.1 (let a = c.args in let l = c.in_ok-there.ensures (with_times a.times.now st) s h in
    row-refused _ s _ h _ _ _ _ _ _ (metadata_there _ _ l) (c.in_err-show.ensures st s h _ (led-stands l)) (not-zero _))

pub returns : goal.returns
returns c =
    λ st s h. let a = c.args in let l = c.in_ok-there.ensures (with_times a.times.now st) s h in
    row-shown _ s _ h _ _ _ _ _ _ (metadata_there _ _ l) (c.in_ok-show.ensures st s h _ (led-stands l)) refl _ (led-count l)
