-- `behind_link` meets its contract. The store that the caller has gives what `contents` and `follow` ask for. In every other store and world
-- in which the spot is that link, the bytes that `contents` lends are its target, and what `follow` forms of them is the model's path.
-- Assumes nothing.
use Prim.Native.Nat.{◌≤◌}
use native.Mathlib.Omega.{arith}
use lib.ListN.{length}
use Rattle.layout.specs.Lent.{with_tree}
use Rattle.walk.proofs.Behind.{rest-low, dir-plain, follows}
use Rattle.walk.proofs.link.behind_link.Goals as goal

pub follow-requires : goal.follow-requires
follow-requires c =
    let h : c.args.len ≤ length c.args.out.now = omega (arith, c.requires.1, c.requires.2) in
    let k = c.requires.0.6 in
    (k.up, rest-low _ _ h k, c.requires.1, c.requires.2, dir-plain _ _ h k)

pub returns : goal.returns
returns c =
    λ st s h i w y k.
    let f : c.args.len ≤ length c.args.out.now = omega (arith, c.requires.1, c.requires.2) in
    follows _ _ f k _ _ c.follow.result (c.contents-target.ensures (with_tree c.args.tree st) s h _ k.there.at) c.follow.ensures
