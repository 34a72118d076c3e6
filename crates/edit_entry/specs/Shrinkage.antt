-- A store without some of its entries, as its slices show it.
-- Assumes nothing.
use Rattle.std.specs.Prelude.{Bool, true, false, ◌||◌, List, ◌++◌, ◌≡◌, ℕ, ◌-◌, ◌≤◌, ltb, length, get_or}
use Rattle.layout.specs.Numbers.{file_numbers}
use Rattle.layout.specs.Rows.{Row, name_total}
use Rattle.layout.specs.Slots.{total}
use Rattle.layout.specs.Store.{Store, count, live, rows_of, bytes_at}
use Rattle.layout.specs.Lawful.{uses, held_from}
use Rattle.edit_entry.specs.Growth.{Recounted}

-- a slot that one of the entries has, or a file number: "A removed or replaced file keeps its bytes until the last number on it is
-- closed"
abbrev pub stays : Store → List Row → ℕ → Bool
stays st rs k = ltb 0 (uses k rs) || held_from st file_numbers 0 k

-- The entries between a and b are gone, and with them the slots that nothing has any more.
pub record Shrunk (st st' : Store) (a x b : List Row) : Type 0 where
  pub counted : Recounted st st' (count st - length x)
  pub old : rows_of st ≡ a ++ (x ++ b)
  pub new : rows_of st' ≡ a ++ b
  pub kept_head : (k : ℕ) → stays st (a ++ b) k ≡ true → get_or st'.heads k 0 ≡ get_or st.heads k 0
  pub kept_bytes : (k : ℕ) → stays st (a ++ b) k ≡ true → bytes_at st' k ≡ bytes_at st k
  pub freed : (k : ℕ) → stays st (a ++ b) k ≡ false → get_or st'.heads k 0 ≡ 0
  pub times : st'.times ≡ st.times
  pub records : length st'.records ≡ length st.records
  pub bytes : length st'.bytes ≡ length st.bytes
  pub names : name_total (live st') ≤ name_total (live st)
  pub room : total st'.heads ≤ total st.heads
