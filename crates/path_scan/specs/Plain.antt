-- The part of a text that holds its names, where each piece of that part is one.
-- Assumes nothing.
use Rattle.std.specs.Prelude.{Bool, cond, ◌≡◌, ℕ, ◌+◌, length, Some}
use Rattle.text.specs.Utf8.{Bytes}
use Rattle.path.specs.Path.{is_absolute}
use Rattle.path.specs.Backward.{part}
use Rattle.path.specs.Answer.{EndIs, PlainIs}

-- where the text begins, but for a slash in front
abbrev pub lead : Bytes → ℕ
lead s = cond (is_absolute s) 1 0

-- the bytes n are the text s but for a slash in front and one at its end
pub record TrimIs (s n : Bytes) : Type 0 where
  pub there : n ≡ part (lead s) (lead s + length n) s
  pub end : EndIs s (lead s + length n)

-- the bytes n stand in the text s where it begins, but for a slash in front; their pieces are all kept, and nothing else is, where
-- what stands behind the text drops k names
abbrev pub PlainPart : Bytes → Bool → ℕ → Bytes → Type 0
PlainPart n strike k s = (n ≡ part (lead s) (lead s + length n) s) × PlainIs (Some (lead s, lead s + length n)) strike k s
