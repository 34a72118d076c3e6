-- What the answer of a test says.
-- Assumes nothing.
use Rattle.std.specs.Prelude.{Bool, true, false}

-- true: it holds; false: it does not
abbrev pub Settles : Bool → Type 0 → Type 0
Settles true P = P
Settles false P = P → ⊥
