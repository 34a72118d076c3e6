-- `symlink_metadata_at` meets its contract, by what the walk ended in.
-- Assumes nothing.
use Rattle.std.proofs.Common.{refl}
use Rattle.layout.specs.Lent.{with_times}
use Rattle.op.proofs.Calling.{not-zero}
use Rattle.op.proofs.Doing.{does-refused, does-err, does-passed}
use Rattle.op_look.proofs.Showing.{row-refused, row-shown}
use Rattle.op_look.proofs.Ending.{AtEnd, an_entry, a_last_link, end_stands, symlink-refused, symlink-missing, symlink-there}
use Rattle.op_look.proofs.metadata.symlink_metadata_at.Goals.{in-Found, in-LastLink, After-show}
use Rattle.op_look.proofs.metadata.symlink_metadata_at.Goals as goal

pub returns-in_err-walked : goal.returns-in_err-walked
returns-in_err-walked c =
    λ st s h. does-passed _ _ c.from_residual.ensures.1 h (symlink-refused (c.in_err-walked.ensures (with_times c.args.times.now st) s h) _)

pub returns-in-Missing : goal.returns-in-Missing
returns-in-Missing c = λ st s h. does-refused _ s _ h _ _ (symlink-missing (c.in_ok-walked.ensures (with_times c.args.times.now st) s h) _ c.in-Missing.is)

-- the spot is that of the entry or of the link
at : (c : After-show) → AtEnd c.in_ok-walked.walked.end c.match-walked.spot
at c = elim c.match-walked.branch [ in-Found w ↦ an_entry w.in-Found.kind (cc) | in-LastLink w ↦ a_last_link w.in-LastLink.dir (cc) ]

pub show-requires : goal.show-requires
show-requires c =
    let p = c.requires.0 in let a = c.args in
    (p.0, p.1, _, p.2, end_stands (c.in_ok-walked.ensures (with_times a.times.now p.0) p.1 p.2) (elim c.match-walked.branch [ in-Found w ↦ an_entry w.in-Found.kind (cc) | in-LastLink w ↦ a_last_link w.in-LastLink.dir (cc) ]))

pub returns-in_err-show : goal.returns-in_err-show
returns-in_err-show c =
    λ st s h. does-err _ _ c.from_residual-in_err-show.ensures.1 (let a = c.args in let l = c.in_ok-walked.ensures (with_times a.times.now st) s h in let x = at (goal.at.returns-in_err-show c).After-show in
    row-refused _ s _ h _ _ _ _ _ _ (symlink-there l _ x) (c.in_err-show.ensures st s h _ (end_stands l x)) (not-zero _))

pub returns : goal.returns
returns c =
    λ st s h. let a = c.args in let l = c.in_ok-walked.ensures (with_times a.times.now st) s h in let x = at (goal.at.returns c).After-show in
    row-shown _ s _ h _ _ _ _ _ _ (symlink-there l _ x) (c.in_ok-show.ensures st s h _ (end_stands l x)) refl _ l.place.0.counted
