-- `next` meets its contract: what the store gives out behind an entry follows it in each state's listing.
-- Assumes nothing.
use mathlib.Core.List.{[], ◌∷◌, ◌++◌}
use mathlib.Core.Path.{refl, sym}
use Rattle.store.proofs.Listed.{placed_live, step-told}
use Rattle.store.proofs.listing.next.Goals as goal

pub next-requires : goal.next-requires
next-requires c = placed_live c.live.ensures c.requires

pub returns : goal.returns
returns c = λ st s h p x a. step-told h p _ c.next.result (c.next.ensures _ (sym c.live.ensures) h.roomy.lawful (p ++ (x ∷ [])) a p x refl)
