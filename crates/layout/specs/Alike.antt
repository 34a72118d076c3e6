-- A store and the state that it spells.
-- Assumes nothing.
use Rattle.std.specs.Prelude.{[], ◌≡◌, ℕ}
use Rattle.std.proofs.Math.Option.{some}
use Rattle.model.specs.Tree.{Path, file, look}
use Rattle.model.specs.Calls.States.{State}
use Rattle.model.specs.Alike.{Alike}
use Rattle.layout.specs.Rows.{tree_from}
use Rattle.layout.specs.Store.{Store, rows_of, state}
use Rattle.layout.specs.Lawful.{Lawful}

-- a store that obeys the rules, and what is read back is the state, file numbers apart
pub record Spells (st : Store) (s : State) : Type 0 where
  pub lawful : Lawful st
  pub alike : Alike (state st) s

-- the entry at the path has the slot
abbrev pub HasSlot : Store → Path → ℕ → Type 0
HasSlot st p k = look (tree_from file [] (rows_of st)) p ≡ some (file k)
