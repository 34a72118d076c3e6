-- `nest_free` meets its contract: the limits allow what the state that fits has more, and the answer is the record behind the new
-- directory's, with the offset behind its name.
-- Assumes nothing.
use mathlib.Core.List.{[], ◌∷◌, ◌++◌}
use mathlib.Core.Path.{ap}
use Prim.Native.Nat.{ℕ, ◌+◌}
use native.Mathlib.Numerals.{add-one}
use native.Mathlib.Omega.{arith}
use Rattle.model.specs.Prog.{take, make, give}
use Rattle.edit_entry.specs.Made.{fresh_meta}
use Rattle.store_edit.proofs.Blocks.{block_told}
use Rattle.store_edit.proofs.Carrying.{trimmed, shows_whole}
use Rattle.store_edit.proofs.Nesting.{next_low, may-nest, stands-nested}
use Rattle.store_edit.proofs.moving.nest_free.Goals as goal

pub overflow_add-off : goal.overflow_add-off
overflow_add-off c = let q = c.requires.0 in omega (arith, next_low q.2 q.3.1, c.nlen_of.ensures)

pub nest_entry-requires : goal.nest_entry-requires
nest_entry-requires c = let q = c.requires.0 in (trimmed q.2, q.2.roomy.lawful, may-nest q.2 q.3.1 q.3.2 c.requires.1 q.3.3 (block_told q.2 q.3.1 c.live.ensures c.block_end-end.ensures))

pub returns : goal.returns
returns c st free s p h a n =
    let g = c.args in
    let x = c.nest_entry in
    let y = x.ensures (trimmed h) h.roomy.lawful (may-nest h a n c.requires.1 free (block_told h a c.live.ensures c.block_end-end.ensures)) p a.path in
    record {
      shows = shows_whole (take p ∷ make p (fresh_meta g.new) ∷ give (p ++ (g.name.now ∷ [])) ∷ []) h y.spells x.auto.heads (omega arith);
      at = stands-nested h a y (add-one g.spot.at) (ap (λ (k : ℕ). g.spot.off + k) c.nlen_of.ensures);
    }
