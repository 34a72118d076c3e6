-- `room_for` meets its contract. What is left of a limit is compared with what a call adds, which is the model's test since what is used
-- is within the limits; where no more grows than is freed there is room for the bytes.
-- Assumes nothing.
use native.Mathlib.Omega.{arith}
use Rattle.store.proofs.Spaced.{bytes_fit_lem, no-entries, no_bytes_lem, has_room_lem}
use Rattle.store.proofs.space.room_for.Goals as goal

pub returns-then-words-more : goal.returns-then-words-more
returns-then-words-more c = λ st s h. let g = c.args in no-entries h g.more g.grown g.freed (omega (arith, c.if-words-more.true))

pub returns-then-grown-freed : goal.returns-then-grown-freed
returns-then-grown-freed c = λ st s h. let g = c.args in has_room_lem h g.more g.grown g.freed (omega (arith, c.if-words-more.false)) (omega (arith, c.if-grown-freed.true))

pub overflow_sub-words-2 : goal.overflow_sub-words-2
overflow_sub-words-2 c = let q = c.requires in omega (arith, c.used.ensures q.0 q.1 q.2, bytes_fit_lem q.2)

pub returns-then-words-used : goal.returns-then-words-used
returns-then-words-used c =
    λ st s h.
    let g = c.args in
    no_bytes_lem h g.more g.grown g.freed (omega (arith, c.if-words-more.false)) (omega (arith, c.if-grown-freed.false)) (omega (arith, c.if-words-used.true, c.used.ensures st s h))

pub returns : goal.returns
returns c =
    λ st s h.
    let g = c.args in
    has_room_lem h g.more g.grown g.freed (omega (arith, c.if-words-more.false)) (omega (arith, c.if-words-used.false, c.if-grown-freed.false, c.used.ensures st s h))
