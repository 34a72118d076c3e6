-- Marks made of nothing count the records of each slot.
-- Assumes nothing.
use mathlib.Core.Bool.{Bool, true, false}
use mathlib.Core.List.{List}
use mathlib.Core.Path.{◌≡◌}
use Prim.Native.Nat.{ℕ, ◌≤◌}
use native.Mathlib.Omega.{arith}
use lib.ListN.{length, get_or}
use Rattle.layout.specs.Fields.{slot_of}
use Rattle.slots.specs.Uses.{uses_in, Within, MarkedBy}
use Rattle.ask_used.specs.Unnamed.{unnamed, unmarked_bytes}
use Rattle.ask_used.proofs.Sums.{alone_same}

pub counted-alone : (ws hs ms : List ℕ) (b : Bool) → Within (length hs) ws → ((k : ℕ) → uses_in k ws ≤ 1) → MarkedBy ws ms b → unmarked_bytes ms hs ≡ unnamed ws hs
counted-alone ws hs ms true w o h = alone_same (λ k. get_or ms k 0) (λ k. uses_in k ws) hs (length hs) 0 (λ i. (h i).0)
counted-alone ws hs ms false w o h = absurd (omega (arith, o (slot_of (get_or ws h.0 0)), h.2))
