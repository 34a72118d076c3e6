-- `canonicalize_at` meets its contract, by what the path leads to.
-- Assumes nothing.
use Rattle.std.proofs.Common.{refl}
use Rattle.op.proofs.Calling.{not-zero}
use Rattle.op.proofs.Doing.{does-err, does-passed}
use Rattle.op.proofs.Leading.{led-count}
use Rattle.op_look.proofs.Reading.{bytes-refused, bytes-told, canonical-refused, canonical_there}
use Rattle.op_look.proofs.contents.canonicalize_at.Goals as goal

pub returns-in_err-there : goal.returns-in_err-there
returns-in_err-there c =
    λ st s h. does-passed _ _ c.from_residual.ensures.1 h (canonical-refused _ _ (c.in_err-there.ensures st s h))

pub returns-in_err-put_path : goal.returns-in_err-put_path
returns-in_err-put_path c =
    λ st s h. does-err _ _ c.from_residual-in_err-put_path.ensures.1 (bytes-refused _ s _ h _ _ _ _ _ _ _ _ (canonical_there _ _ (c.in_ok-there.ensures st s h)) c.in_err-put_path.ensures (not-zero _))

pub returns : goal.returns
returns c =
    λ st s h. let l = c.in_ok-there.ensures st s h in
    bytes-told _ s _ h _ _ _ _ _ _ _ _ (canonical_there _ _ l) c.in_ok-put_path.ensures refl _ (led-count l)
