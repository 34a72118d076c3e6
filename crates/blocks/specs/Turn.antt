-- What a rotation does to a list.
-- Assumes nothing.
use Rattle.std.specs.Prelude.{List, ◌++◌, ℕ, take, drop}

-- the list with its parts from a to m and from m to e exchanged
unfoldable pub turned : {A : Type 0} → List A → ℕ → ℕ → ℕ → List A
turned xs a m e = take a xs ++ (drop m (take e xs) ++ (drop a (take m xs) ++ drop e xs))
