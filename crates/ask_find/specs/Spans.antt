-- What lies below an entry.
-- Assumes nothing.
use Rattle.std.specs.Prelude.{Bool, true, false, List, [], ◌∷◌, ℕ, suc, leb}
use Rattle.layout.specs.Fields.{depth_of}

-- the number that holds, or the other
abbrev pub pick_n : Bool → ℕ → ℕ → ℕ
pick_n true a b = a
pick_n false a b = b

-- how many of the first are deeper than d: what lies below an entry of depth d that they follow
unfoldable pub span : ℕ → List ℕ → ℕ
span d [] = 0
span d (w ∷ ws) = pick_n (leb (depth_of w) d) 0 (suc (span d ws))
