-- What a look at many octets tells.
-- Assumes nothing.
use Rattle.std.specs.Prelude.{Bool, false, ◌||◌, ◌≡◌, ℕ, ◌≤◌, ◌<◌, eqb, leb, get_or}
use Rattle.text.specs.Utf8.{Bytes}

-- an octet that is text only with those around it, or never
abbrev pub odd : ℕ → Bool
odd b = eqb b 0 || leb 128 b

-- no octet from a up to, not including, e is odd
abbrev pub Plain : Bytes → ℕ → ℕ → Type 0
Plain s a e = (k : ℕ) → k < e → a ≤ k → odd (get_or s k 0) ≡ false
