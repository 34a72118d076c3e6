-- `nest` meets its contract: below the entry limit a slot is free once one is reserved, and spots stand as they stood when slots are
-- reserved and given up.
-- Assumes nothing.
use Rattle.store_edit.proofs.Carrying.{roomy_of}
use Rattle.store_edit.proofs.Nesting.{nest-more}
use Rattle.store_edit.proofs.Resizing.{reserved, released}
use Rattle.store_edit.proofs.moving.nest.Goals as goal

pub reserve-requires : goal.reserve-requires
reserve-requires c = roomy_of c.requires.0.2.roomy

pub nest_free-r-requires : goal.nest_free-r-requires
nest_free-r-requires c =
    let q = c.requires.0 in
    let r = reserved q.2 c.reserve.ensures in
    ((q.0, q.1, r.shows, (q.3.0, r.stands _ _ q.3.1, q.3.2, r.is.free (nest-more q.2 q.3.1 q.3.2))), c.requires.1)

pub release-requires : goal.release-requires
release-requires c =
    let q = c.requires.0 in
    let r = reserved q.2 c.reserve.ensures in
    roomy_of (c.nest_free-r.ensures q.0 (r.is.free (nest-more q.2 q.3.1 q.3.2)) q.1 q.3.0 r.shows (r.stands _ _ q.3.1) q.3.2).shows.roomy

pub returns : goal.returns
returns c st s p h a n =
    let r = reserved h c.reserve.ensures in
    let y = c.nest_free-r.ensures st (r.is.free (nest-more h a n)) s p r.shows (r.stands _ _ a) n in
    let k = released y.shows c.release.ensures in
    record { shows = k.shows; at = k.stands _ _ y.at }
