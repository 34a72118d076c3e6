-- `lookup_entry_detail_until_symlink` meets its contract. The loop's invariant, of every store that has the slices and of every world that
-- it shows: the bytes that were passed lead to the entry at the spot, and the model's walk goes on from its path. It holds at the root,
-- which is not the hidden entry; a turn goes to the child that the store finds; and each return is what the model answers of the kind that
-- stands there. What the calls ask for is said of the caller's store, in a world that it shows. The measure is what is left of the path.
-- Assumes nothing.
use mathlib.Core.Option.{some}
use mathlib.Core.Path.{◌≡◌, ap, ◌∙◌}
use Prim.Native.Nat.{ℕ, ◌+◌, ◌-◌}
use native.Mathlib.Omega.{arith}
use lib.ListN.{get_or}
use Rattle.model.specs.Prog.{World, a_dir, kind?, answer}
use Rattle.model.specs.Calls.States.{State}
use Rattle.layout.specs.Store.{Store}
use Rattle.layout.specs.Lent.{with_tree}
use Rattle.ask_find.specs.Spots.{hidden_at}
use Rattle.store.specs.Shows.{Shows, Asked}
use Rattle.walk.proofs.Reached.{Reached, kind-told, no_root, at-root, at-slash, at-file, at-link, at-gone, at_next, at-last-link, at_entry}
use Rattle.walk.proofs.Rooted.{some_asked, never, root_there}
use Rattle.walk.proofs.until.lookup_entry_detail_until_symlink.Goals.{At-loop-e, In-Directory}
use Rattle.walk.proofs.until.lookup_entry_detail_until_symlink.Goals as goal

-- the caller's store in a world that it shows
abbrev first : (c : At-loop-e) → let p = c.requires.0 in let u = with_tree c.args.tree p.0 in
    Reached u p.1 (some_asked u p.1 (hidden_at c.args.hidden)).0 c.args.path.now c.loop-e.spot c.loop-e.dir c.loop-e.e
first c = let p = c.requires.0 in let w = some_asked (with_tree c.args.tree p.0) p.1 (hidden_at c.args.hidden) in c.loop-e.invariant p.0 p.1 w.0 p.2 w.1

-- the entry that was come to is a directory
is-dir : (c : In-Directory) → let u = with_tree c.args.tree in
    (st : Store) (s : State) (w : World) (x : Shows (u st) s) (y : Asked (u st) s (hidden_at c.args.hidden) w) → answer (kind? (c.loop-e.invariant st s w x y).here) w ≡ some a_dir
is-dir c st s w x y = kind-told (c.loop-e.invariant st s w x y) a_dir (c.in-Directory.ensures (with_tree c.args.tree st) s x)

pub returns-in-Err : goal.returns-in-Err
returns-in-Err c = λ st s x w y. let m = c.in-Err.ensures (with_tree c.args.tree st) s x in no_root _ m.1 (never _ s (hidden_at c.args.hidden) w y m.0 m.1)

pub loop-e-init : goal.loop-e-init
loop-e-init c = λ st s w x y. at-root _ c.requires.1 (root_there _ s x _ (c.in-Ok.ensures (with_tree c.args.tree st) s x) (hidden_at c.args.hidden) w c.requires.2 y)

pub returns-in-File : goal.returns-in-File
returns-in-File c = λ st s x w y. at-file (c.loop-e.invariant st s w x y) c.loop-e-test.true (c.in-File.ensures (with_tree c.args.tree st) s x)

pub returns-in-Link : goal.returns-in-Link
returns-in-Link c = λ st s x w y. at-link (c.loop-e.invariant st s w x y) c.loop-e-test.true (c.in-Link.ensures (with_tree c.args.tree st) s x)

pub piece_end-b-requires : goal.piece_end-b-requires
piece_end-b-requires c =
    let l = c.loop-e in let t = c.loop-e-test.true in (
      omega (arith, t),
      λ _. (let z : l.e + 1 - 1 ≡ l.e = omega arith in ap (λ (k : ℕ). get_or c.args.path.now k 0) z ∙ at-slash (first (goal.at.piece_end-b-requires c).At-loop-e) t),
    )

pub child-requires : goal.child-requires
child-requires c = let p = c.requires.0 in let r = first (goal.at.child-requires c).At-loop-e in (with_tree c.args.tree p.0, p.1, r.here, p.2, r.there.at)

pub returns-in-Err-child : goal.returns-in-Err-child
returns-in-Err-child c =
    λ st s x w y.
    let r = c.loop-e.invariant st s w x y in
    let d = is-dir (goal.at.returns-in-Err-child c).In-Directory st s w x y in
    let f = c.in-Err-child.ensures (with_tree c.args.tree st) s x r.here w r.there.at y d in
    at-gone r c.loop-e-test.true _ c.piece_end-b.ensures d _ f.0 f.1

pub loop-e-preserved : goal.loop-e-preserved
loop-e-preserved c =
    λ st s w x y.
    let r = c.loop-e.invariant st s w x y in
    let d = is-dir (goal.at.loop-e-preserved c).In-Directory st s w x y in
    at_next r c.loop-e-test.true _ c.piece_end-b.ensures d _ (c.in-Ok-child.ensures (with_tree c.args.tree st) s x r.here w r.there.at y d)

pub returns-in-Link-kind : goal.returns-in-Link-kind
returns-in-Link-kind c =
    λ st s x w y. at-last-link (c.loop-e.invariant st s w x y) (omega (arith, c.loop-e-test.false)) (c.in-Link-kind.ensures (with_tree c.args.tree st) s x)

pub returns-in_default : goal.returns-in_default
returns-in_default c =
    λ st s x w y.
    at_entry (c.loop-e.invariant st s w x y) (omega (arith, c.loop-e-test.false)) c.kind-2.result c.in_default.not-Link (c.kind-2.ensures (with_tree c.args.tree st) s x)
