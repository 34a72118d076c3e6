-- What it asks to open and to close a file number.
-- Assumes nothing.
use Rattle.std.proofs.Math.Option.{some}
use Rattle.std.specs.Prelude.{◌≡◌, ℕ, ◌<◌}
use Rattle.model.specs.Tree.{Path, file, look}
use Rattle.layout.specs.Numbers.{file_numbers}
use Rattle.layout.specs.Store.{Store, holder, state}

-- it is open
pub record IsOpen (st : Store) (n : ℕ) : Type 0 where
  pub low : n < file_numbers
  pub on : holder st n ≡ 0 → ⊥

-- it is closed, and the entry at the path is a file, which has the slot
pub record MayOpen (st : Store) (n : ℕ) (p : Path) (slot : ℕ) : Type 0 where
  pub closed : holder st n ≡ 0
  pub is_file : look (state st).tree p ≡ some (file slot)
