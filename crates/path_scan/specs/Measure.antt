-- What a text keeps, measured.
-- Assumes nothing.
use Rattle.std.specs.Prelude.{Bool, ◌≡◌, ℕ, ◌+◌, ◌≤◌, length}
use Rattle.text.specs.Utf8.{Bytes}
use Rattle.path.specs.Path.{body}
use Rattle.path.specs.Backward.{sifted}

-- where what stands behind the text s drops k names, the kept names are len bytes long, a slash before each, and skip names before
-- the text are dropped
pub record Measured (strike : Bool) (k : ℕ) (s : Bytes) (len skip : ℕ) : Type 0 where
  pub long : len ≡ length (body (sifted strike k s).kept)
  pub drops : skip ≡ (sifted strike k s).skip
  pub few : skip ≤ k + length s + 1
