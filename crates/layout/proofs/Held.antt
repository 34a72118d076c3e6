-- A holder's word by the slot that it tells.
-- Assumes nothing.
use mathlib.Core.Path.{◌≡◌, refl}
use Prim.Native.Nat.{ℕ, zero, suc}
use Rattle.std.specs.Prelude.{Some, None}
use Rattle.layout.specs.Holders.{slot_by_holder}

pub closed-word : (h : ℕ) → None ≡ slot_by_holder h → h ≡ 0
closed-word zero e = refl
closed-word (suc s) e = cc

pub open-word : (h s : ℕ) → Some s ≡ slot_by_holder h → h ≡ suc s
open-word zero s e = cc
open-word (suc t) s e = cc
