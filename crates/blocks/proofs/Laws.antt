-- The laws of `moved` that are cited. Assumes nothing.
use mathlib.Core.Path.{◌≡◌}
use mathlib.Core.List.{List, ◌++◌, append_assoc}
use Prim.Native.Nat.{ℕ, ◌+◌}
use lib.ListN.{take, drop, take-append-drop}
use lib.Seq.{paste-zero, take-add}
use Rattle.blocks.specs.Moved.{moved}

pub moved_none : {A : Type 0} (s : List A) (f t : ℕ) → s ≡ moved s f t 0
unfolding moved
moved_none s f t = paste-zero s t (drop f s)

-- a move to where the elements stand is none
pub moved_same : {A : Type 0} (s : List A) (f t k : ℕ) → f ≡ t → moved s f t k ≡ s
unfolding moved
moved_same s f t k e = rw (e, ← take-add t k s) (take-append-drop (t + k) s)

-- the move in three stretches
pub moved-split : {A : Type 0} (s : List A) (f t k : ℕ) → moved s f t k ≡ take t s ++ (take k (drop f s) ++ drop (t + k) s)
unfolding moved
moved-split s f t k = append_assoc (take t s) (take k (drop f s)) (drop (t + k) s)
