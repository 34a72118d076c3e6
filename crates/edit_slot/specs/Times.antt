-- What is stored among the times of the slots, four to a slot: accessed, changed, created, modified.
-- Assumes nothing.
use Rattle.std.specs.Prelude.{List, ℕ, ◌+◌, ◌*◌, ℤ, set, Option, Some, None}
use Rattle.std.proofs.Math.Option as model

-- the time modified of slot k
abbrev pub modified_set : List ℤ → ℕ → ℤ → List ℤ
modified_set ts k t = set ts (4 * k + 3) t

-- what may be given, in the model's words
abbrev pub in_model : {A : Type 0} → Option A → model.Option A
in_model None = model.none
in_model (Some x) = model.some x

-- a time that is stored if it is given
abbrev pub set_if : Option ℤ → List ℤ → ℕ → List ℤ
set_if None ts i = ts
set_if (Some t) ts i = set ts i t

-- the times accessed and modified of slot k, each if it is given
abbrev pub some_set : List ℤ → ℕ → Option ℤ → Option ℤ → List ℤ
some_set ts k a t = set_if t (set_if a ts (4 * k)) (4 * k + 3)
