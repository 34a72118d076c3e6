-- `read_at` meets its contract, by what the lookup came to.
-- Assumes nothing.
use Rattle.std.proofs.Common.{refl}
use Prim.Native.Nat.{◌≤◌}
use native.Mathlib.Omega.{arith}
use lib.ListN.{length}
use Rattle.op.proofs.Calling.{not-zero}
use Rattle.op.proofs.Doing.{does-refused, does-err, does-passed}
use Rattle.op_look.proofs.Differing.{same_kind, other_kind}
use Rattle.op_look.proofs.Reading.{bytes-refused, bytes-told, as_looked, read-refused, read-no-name, read-missing, read-root, read-wrong, read-file}
use Rattle.op_look.proofs.contents.read_at.Goals.{After-lookup}
use Rattle.op_look.proofs.contents.read_at.Goals as goal

-- the buffer has room for a path
room : (c : After-lookup) → 1024 ≤ length c.lookup.new.work
room c = omega (arith, c.requires.1.room, c.lookup.auto.work)

pub returns-in_err-looked : goal.returns-in_err-looked
returns-in_err-looked c =
    λ st s h. does-passed _ _ c.from_residual.ensures.1 h (read-refused _ (c.in_err-looked.ensures st s h))

pub returns-then-absent-eq0 : goal.returns-then-absent-eq0
returns-then-absent-eq0 c = λ st s h. does-refused _ s _ h _ _ (read-no-name _ (as_looked c.in-Err.is (c.in_ok-looked.ensures st s h)) c.if-absent-eq0.true)

pub returns-else-absent-eq0 : goal.returns-else-absent-eq0
returns-else-absent-eq0 c =
    λ st s h. does-refused _ s _ h _ _ (read-missing _ (as_looked c.in-Err.is (c.in_ok-looked.ensures st s h)) c.if-absent-eq0.false (room (goal.at.returns-else-absent-eq0 c).After-lookup))

pub returns-then-there-eq0 : goal.returns-then-there-eq0
returns-then-there-eq0 c = λ st s h. does-refused _ s _ h _ _ (read-root _ (as_looked c.in-Ok.is (c.in_ok-looked.ensures st s h)) c.if-there-eq0.true)

pub returns-then-ne : goal.returns-then-ne
returns-then-ne c =
    λ st s h. does-refused _ s _ h _ _ (read-wrong _ (as_looked c.in-Ok.is (c.in_ok-looked.ensures st s h)) c.if-there-eq0.false (room (goal.at.returns-then-ne c).After-lookup) (other_kind _ _ c.if-ne.ensures))

pub returns-in_err-put_bytes : goal.returns-in_err-put_bytes
returns-in_err-put_bytes c =
    λ st s h. does-err _ _ c.from_residual-in_err-put_bytes.ensures.1 (let l = as_looked c.in-Ok.is (c.in_ok-looked.ensures st s h) in
    bytes-refused _ s _ h _ _ _ _ _ _ _ _
    (read-file _ l c.if-there-eq0.false (room (goal.at.returns-in_err-put_bytes c).After-lookup) (same_kind _ _ c.if-ne.ensures) _ (c.contents-contents.ensures st s h _ l.place.1.at))
    c.in_err-put_bytes.ensures (not-zero _))

pub returns : goal.returns
returns c =
    λ st s h. let l = as_looked c.in-Ok.is (c.in_ok-looked.ensures st s h) in
    bytes-told _ s _ h _ _ _ _ _ _ _ _
    (read-file _ l c.if-there-eq0.false (room (goal.at.returns c).After-lookup) (same_kind _ _ c.if-ne.ensures) _ (c.contents-contents.ensures st s h _ l.place.1.at))
    c.in_ok-put_bytes.ensures refl _ l.place.0.counted
