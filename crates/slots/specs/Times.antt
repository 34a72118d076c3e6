-- The times of the slots, four to a slot: accessed, changed, created, modified.
-- Assumes nothing.
use Rattle.std.specs.Prelude.{List, ℕ, ◌+◌, ◌*◌, ℤ, set}

-- all four of slot k
abbrev pub times_set : List ℤ → ℕ → ℤ → ℤ → List ℤ
times_set ts k a t = set (set (set (set ts (4 * k) a) (4 * k + 1) a) (4 * k + 2) a) (4 * k + 3) t
