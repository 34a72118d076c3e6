-- A store in which an entry has been moved with all below it, as its slices show it.
-- Assumes nothing.
use Rattle.std.specs.Prelude.{List, [], ◌∷◌, ◌++◌, ◌≡◌, ◌+◌, ◌≤◌, length}
use Rattle.path.specs.Path.{Name}
use Rattle.model.specs.Tree.{Path}
use Rattle.layout.specs.Rows.{Row, name_total}
use Rattle.layout.specs.Slots.{total, contents}
use Rattle.layout.specs.Store.{Store, room, live, rows_of}
use Rattle.layout.specs.Parts.{deepen}
use Rattle.edit_entry.specs.Growth.{new_row}

-- The entry `row`, with the entries x below it, is taken from between a and b, and put between a₂ and b₂, into which the others
-- fall, as the entry y of the directory q.
pub record Carried (st st' : Store) (root : Row) (a : List Row) (row : Row) (x b a₂ b₂ : List Row) (q : Path) (y : Name) : Type 0 where
  pub words : st'.words ≡ st.words
  pub heads : st'.heads ≡ st.heads
  pub times : st'.times ≡ st.times
  pub paths : st'.paths ≡ st.paths
  pub texts : contents st'.heads st'.bytes ≡ contents st.heads st.bytes
  pub records : length st'.records ≡ length st.records
  pub bytes : length st'.bytes ≡ length st.bytes
  pub old : rows_of st ≡ root ∷ (a ++ (row ∷ (x ++ b)))
  pub parts : root ∷ (a ++ b) ≡ a₂ ++ b₂
  pub new : rows_of st' ≡ a₂ ++ (new_row q y row.slot ∷ (deepen row.depth (length (q ++ (y ∷ []))) x ++ b₂))
  pub fits : name_total (live st') + total st.heads ≤ room st
