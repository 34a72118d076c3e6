-- `open_number` meets its contract. Assumes nothing.
use Prim.Native.Nat.{◌+◌, ◌*◌}
use native.Mathlib.Omega.{arith}
use Rattle.edit_state.proofs.Cells.{cell-fits}
use Rattle.edit_state.proofs.Opening.{opens-spells}
use Rattle.edit_state.proofs.open_number.Goals as goal

pub copy_into-requires : goal.copy_into-requires
copy_into-requires c = omega (arith, c.requires.3, c.requires.1, cell-fits _ c.requires.2)

pub returns : goal.returns
returns c st l m =
    let a = c.args in
    let p = c.requires in
    opens-spells _ l _ _ _ _ p.3 m.closed p.2 m.is_file (a.slot + 1) (1024 * (a.n + 1)) (omega arith) (omega arith) _ c.copy_into.ensures
