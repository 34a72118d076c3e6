-- `list_at` meets its contract, by what the path leads to, and whether there is room for the names and the records.
-- Assumes nothing.
use native.Mathlib.Omega.{arith}
use Rattle.layout.specs.Lent.{◌∘◌, with_tree, with_times}
use Rattle.store.specs.Shows.{SomeEntry}
use Rattle.op.proofs.Doing.{does-refused, does-told, does-passed}
use Rattle.op.proofs.Leading.{led-stands}
use Rattle.op_look.proofs.Differing.{same_kind, other_kind}
use Rattle.op_look.proofs.Lists.{list_written, list-refused, list-kind, list-names, list-rows, list-told}
use Rattle.op_look.proofs.list.list_at.Goals.{In_ok-there}
use Rattle.op_look.proofs.list.list_at.Goals as goal

pub returns-in_err-there : goal.returns-in_err-there
returns-in_err-there c =
    λ st s h. does-passed _ _ c.from_residual.ensures.1 h (list-refused _ _ _ (c.in_err-there.ensures (with_times c.args.times.now st) s h))

pub returns-then-ne : goal.returns-then-ne
returns-then-ne c = λ st s h. does-refused _ s _ h _ _ (list-kind _ _ _ (c.in_ok-there.ensures (with_times c.args.times.now st) s h) (other_kind _ _ c.if-ne.ensures))

-- the spot is an entry of the store that is known
entry : (c : In_ok-there) → SomeEntry (with_tree c.args.tree ∘ with_times c.args.times.now) c.in_ok-there.there.spot
entry c = let p = c.requires.0 in (p.0, p.1, _, p.2, led-stands (c.in_ok-there.ensures (with_times c.args.times.now p.0) p.1 p.2))

pub names_length-requires : goal.names_length-requires
names_length-requires c = let x = entry (goal.at.names_length-requires c).In_ok-there in ((with_tree c.args.tree ∘ with_times c.args.times.now) x.0, x.1, x.2, x.3, x.4)

pub returns-then-out-names_length : goal.returns-then-out-names_length
returns-then-out-names_length c =
    λ st s h. let u = (with_tree c.args.tree ∘ with_times c.args.times.now) st in let l = c.in_ok-there.ensures (with_times c.args.times.now st) s h in
    does-refused _ s _ h _ _ (list-names _ _ _ l (same_kind _ _ c.if-ne.ensures) (omega (arith, c.if-out-names_length.true, c.names_length.ensures u s h _ (led-stands l))))

pub count-count-requires : goal.count-count-requires
count-count-requires c = let x = entry (goal.at.count-count-requires c).In_ok-there in ((with_tree c.args.tree ∘ with_times c.args.times.now) x.0, x.1, x.2, x.3, x.4)

pub returns-then-rows-count : goal.returns-then-rows-count
returns-then-rows-count c =
    λ st s h. let u = (with_tree c.args.tree ∘ with_times c.args.times.now) st in let l = c.in_ok-there.ensures (with_times c.args.times.now st) s h in let k = led-stands l in
    does-refused _ s _ h _ _
    (list-rows _ _ _ l (same_kind _ _ c.if-ne.ensures) (omega (arith, c.if-out-names_length.false, c.names_length.ensures u s h _ k))
    (omega (arith, c.if-rows-count.true, c.count-count.ensures u s h _ k)))

pub put_names-requires : goal.put_names-requires
put_names-requires c =
    let x = entry (goal.at.put_names-requires c).In_ok-there in let u = (with_tree c.args.tree ∘ with_times c.args.times.now) x.0 in
    (u, x.1, x.2, x.3, x.4, omega (arith, c.if-out-names_length.false, c.names_length.ensures u x.1 x.3 x.2 x.4))

pub put_records-requires : goal.put_records-requires
put_records-requires c =
    let x = entry (goal.at.put_records-requires c).In_ok-there in let u = (with_tree c.args.tree ∘ with_times c.args.times.now) x.0 in
    (u, x.1, x.2, x.3, x.4, omega (arith, c.if-rows-count.false, c.count-count.ensures u x.1 x.3 x.2 x.4))

pub returns : goal.returns
returns c =
    λ st s h. let u = (with_tree c.args.tree ∘ with_times c.args.times.now) st in let l = c.in_ok-there.ensures (with_times c.args.times.now st) s h in let k = led-stands l in
    let n = c.count-count.ensures u s h _ k in
    does-told _ s _ h _
    (list-told _ _ _ l (same_kind _ _ c.if-ne.ensures) (omega (arith, c.if-out-names_length.false, c.names_length.ensures u s h _ k)) (omega (arith, c.if-rows-count.false, n))) _ _
    (list_written _ _ _ _ _ _ c.args.number.now _ c.args.links.now (c.put_names.ensures u s h _ k) (c.put_records.ensures u s h _ k) n)
