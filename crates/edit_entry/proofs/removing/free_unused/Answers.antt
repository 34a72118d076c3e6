-- `free_unused` meets its contract: the marks say who uses each slot.
-- Assumes nothing.
use Prim.Native.Nat.{ℕ}
use native.Mathlib.Omega.{arith}
use lib.ListN.{length-replicate}
use Rattle.layout.proofs.Zeros.{zeros-read}
use Rattle.edit_entry.proofs.Clears.{all_marked, used-swept}
use Rattle.edit_entry.proofs.removing.free_unused.Goals as goal

pub mark_records-requires : goal.mark_records-requires
mark_records-requires c = ((λ i h. omega (arith, c.requires.3 i h, c.requires.2)), length-replicate {A = ℕ} 4128 0, zeros-read 4128)

pub returns : goal.returns
returns c =
    let s = c in let m = c.mark_records in
    let t = all_marked s.args.words.now s.args.recs.now s.args.heads.now s.requires.3 s.requires.4 _ m.result m.ensures.0 in
    used-swept s.args.words.now s.args.recs.now s.args.heads.now s.requires.3 s.requires.4 m.new.marks c.mark_numbers.new.marks t c.mark_numbers.ensures.0 (omega (arith, c.mark_numbers.ensures.1, s.requires.2)) s.args.bytes.now _ _ c.sweep.ensures
