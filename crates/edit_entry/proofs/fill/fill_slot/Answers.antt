-- `fill_slot` meets its contract. Assumes nothing.
use mathlib.Core.Path.{◌≡◌}
use Rattle.std.proofs.Common.{rules, w64, to_z, of_z}
use Rattle.edit_entry.proofs.Fills.{may_write, filled}
use Rattle.edit_entry.proofs.fill.fill_slot.Goals as goal

pub write-requires : goal.write-requires
write-requires c =
    let a = c.requires in
    rw c.bytes.ensures (may_write _ _ c.args.made c.args.new _ (cc) a.2 a.0 _ a.4 a.5)

pub returns : goal.returns
returns c =
    let a = c.requires in
    let g = c.args in
    let p = rw c.bytes.ensures at c.write.ensures in
    let t : to_z w64 (of_z w64 g.new.time) ≡ g.new.time = search rules in
    filled _ _ g.made g.new _ (cc) a.2 a.0 _ _ _ _ _ (rw t at c.put_times.ensures) p
