-- What a move inside a buffer does to it.
-- Assumes nothing.
use Rattle.std.specs.Prelude.{List, ℕ, drop}
use Rattle.std.proofs.Math.Seq.{paste}

-- s with the k elements from index `from` copied, as they were, over those from index `to`
unfoldable pub moved : {A : Type 0} → List A → ℕ → ℕ → ℕ → List A
moved s from to k = paste s to (drop from s) k
