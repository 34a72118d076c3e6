-- Records of metadata as they are answered: one, or those of a directory's entries, in front of the lent row.
-- Assumes nothing.
use Rattle.std.specs.Prelude.{List, ◌≡◌, ℕ, ◌*◌, ◌≤◌, ◌<◌, ℤ, length}
use Rattle.std.proofs.Math.Option.{some}
use Rattle.model.specs.Refusals.{short_buffer}
use Rattle.model.specs.Tree.{Path}
use Rattle.model.specs.Prog.{Stat, stat?}
use Rattle.model.specs.Operations.Shows.{stats_of}
use Rattle.model.specs.Calls.States.{State}
use Rattle.model.specs.Buffers.{stat_numbers, row_numbers, in_front}
use Rattle.layout.specs.Store.{Store}
use Rattle.layout.specs.Lent.{Lending}
use Rattle.ask_find.specs.declared.Spot.{Spot}
use Rattle.store.specs.Shows.{Shows, Stands, OfEntry, says}
use Rattle.store.specs.Listing.{listed}

-- the record of the entry at the path stands in front, the rest as it was; or 14, and nothing is changed
pub data RowIs (s : State) (p : Path) (rows after : List ℤ) (r : ℕ) : Type 0 where
  put : (x : Stat) → says (stat? p) s ≡ some x → 7 ≤ length rows → after ≡ in_front (stat_numbers x) rows → r ≡ 0 → RowIs s p rows after r
  short : (x : Stat) → says (stat? p) s ≡ some x → length rows < 7 → after ≡ rows → r ≡ short_buffer → RowIs s p rows after r

-- of every state that a store with the slices shows, and of the path of the entry at the spot
abbrev pub RowAt : Lending → Spot → (rows after : List ℤ) → ℕ → Type 0
RowAt l spot rows after r = OfEntry l spot (λ s p. RowIs s p rows after r)

-- ---- all of a directory's

-- some store that has the slices shows a state, the spot is one of its entries, and the row holds a record of each that is listed
abbrev pub SomeRows : (Store → Store) → Spot → List ℤ → Type 0
SomeRows has spot rows = (st : Store) × (s : State) × (p : Path) × Shows (has st) s × Stands (has st) spot p × (7 * length (listed s p) ≤ length rows)

-- they stand in front, the rest as it was
abbrev pub RowsPut : State → Path → (rows after : List ℤ) → Type 0
RowsPut s p rows after = after ≡ in_front (row_numbers (stats_of (listed s p))) rows
