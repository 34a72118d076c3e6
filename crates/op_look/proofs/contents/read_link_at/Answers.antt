-- `read_link_at` meets its contract, by what the walk ended in.
-- Assumes nothing.
use Rattle.std.proofs.Common.{refl}
use Rattle.op.proofs.Calling.{not-zero}
use Rattle.op.proofs.Doing.{does-refused, does-err, does-passed}
use Rattle.op_look.proofs.Reading.{bytes-refused, bytes-told}
use Rattle.op_look.proofs.Ending.{link-stands, target-refused, target-missing, target_found, target-link}
use Rattle.op_look.proofs.contents.read_link_at.Goals as goal

pub returns-in_err-walked : goal.returns-in_err-walked
returns-in_err-walked c =
    λ st s h. does-passed _ _ c.from_residual.ensures.1 h (target-refused (c.in_err-walked.ensures st s h) _)

pub returns-in_err-put_bytes-in-LastLink : goal.returns-in_err-put_bytes-in-LastLink
returns-in_err-put_bytes-in-LastLink c =
    λ st s h. does-err _ _ c.from_residual-in_err-put_bytes-in-LastLink.ensures.1 (let l = c.in_ok-walked.ensures st s h in let x = c.in-LastLink.is in
    bytes-refused _ s _ h _ _ _ _ _ _ _ _ (target-link l _ x _ (c.contents-target.ensures st s h _ (link-stands l x))) c.in_err-put_bytes-in-LastLink.ensures (not-zero _))

pub returns-in-Found : goal.returns-in-Found
returns-in-Found c = λ st s h. does-refused _ s _ h _ _ (target_found (c.in_ok-walked.ensures st s h) _ c.in-Found.is)

pub returns-in-Missing : goal.returns-in-Missing
returns-in-Missing c = λ st s h. does-refused _ s _ h _ _ (target-missing (c.in_ok-walked.ensures st s h) _ c.in-Missing.is)

pub returns-in_ok-put_bytes-in-LastLink : goal.returns-in_ok-put_bytes-in-LastLink
returns-in_ok-put_bytes-in-LastLink c =
    λ st s h. let l = c.in_ok-walked.ensures st s h in let x = c.in-LastLink.is in
    bytes-told _ s _ h _ _ _ _ _ _ _ _ (target-link l _ x _ (c.contents-target.ensures st s h _ (link-stands l x))) c.in_ok-put_bytes-in-LastLink.ensures refl _ l.place.0.counted
