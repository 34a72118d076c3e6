-- `weigh` meets its contract: the entry takes up as much in each state that the store shows, and its contents stay where a number is
-- open on it.
-- Assumes nothing.
use mathlib.Core.Bool.{Bool, cond}
use mathlib.Core.Path.{refl, sym, ap}
use Rattle.edit_room.specs.Extents.{trim}
use Rattle.store.proofs.Spaced.{weight-told}
use Rattle.store.proofs.space.weigh.Goals as goal

pub weigh-w-requires : goal.weigh-w-requires
weigh-w-requires c =
    let p = c.requires in
    record {
      counted = record { store = trim _; words = refl; records = refl; heads = sym c.in_use.ensures; lawful = p.3.roomy.lawful };
      path = p.2;
      at = p.4;
    }

pub returns-then-w : goal.returns-then-w
returns-then-w c =
    λ st s h p a.
    let r = c.weigh-w.result in
    weight-told h p r _ (c.weigh-w.ensures _ refl refl (sym c.in_use.ensures) h.roomy.lawful p a) (ap (λ (b : Bool). cond b 0 r.size) c.if-w.true)

pub returns-else-w : goal.returns-else-w
returns-else-w c =
    λ st s h p a.
    let r = c.weigh-w.result in
    weight-told h p r _ (c.weigh-w.ensures _ refl refl (sym c.in_use.ensures) h.roomy.lawful p a) (ap (λ (b : Bool). cond b 0 r.size) c.if-w.false)
