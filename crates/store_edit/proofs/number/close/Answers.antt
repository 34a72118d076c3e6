-- `close` meets its contract: an open number has a holder, and giving up free slots at the end shows the same states.
-- Assumes nothing.
use mathlib.Core.List.{[], ◌∷◌}
use mathlib.Core.Path.{refl}
use native.Mathlib.Omega.{arith}
use Rattle.model.specs.Prog.{close}
use Rattle.store_edit.proofs.Carrying.{trimmed, shows_whole, shows-released, roomy_of}
use Rattle.store_edit.proofs.Entering.{open_at}
use Rattle.store_edit.proofs.number.close.Goals as goal

pub close_number-requires : goal.close_number-requires
close_number-requires c =
    let q = c.requires in
    let o = open_at _ _ q.2 _ q.3 in
    (trimmed q.2, q.2.roomy.lawful, record { low = o.0; on = λ e. omega (arith, e, o.1.one) })

pub release-requires : goal.release-requires
release-requires c =
    let q = c.requires in
    let x = c.close_number in
    roomy_of (shows_whole (close c.args.n ∷ []) q.2 (x.ensures (trimmed q.2) q.2.roomy.lawful) x.auto.heads refl).roomy

pub returns : goal.returns
returns c st s h o =
    let x = c.close_number in
    shows-released (shows_whole (close c.args.n ∷ []) h (x.ensures (trimmed h) h.roomy.lawful) x.auto.heads refl) c.release.ensures
