-- `entry_bytes` meets its contract. Assumes nothing.
use mathlib.Core.Path.{◌≡◌, ap, ◌∙◌}
use Prim.Native.Nat.{ℕ}
use native.Mathlib.Omega.{arith}
use lib.ListN.{get_or}
use Rattle.layout.specs.Fields.{len_of}
use Rattle.ask_used.specs.Totals.{head_of}
use Rattle.ask_used.proofs.entry_bytes.Goals as goal

pub returns : goal.returns
returns c =
    let e : c.len_of.result ≡ len_of (head_of c.args.heads.now c.args.w) = c.len_of.ensures ∙ ap (λ (k : ℕ). len_of (get_or c.args.heads.now k 0)) c.slot_of-s.ensures in
    omega (arith, e)
