-- What a change of one slot is to the state.
-- Assumes nothing.
use Rattle.std.specs.Prelude.{◌≡◌, ℕ, suc, ◌+◌, ◌≤◌, ◌<◌, length, get_or}
use Rattle.model.specs.Tree.{Path, Change}
use Rattle.model.specs.Prog.{change, change_held}
use Rattle.layout.specs.Numbers.{file_numbers}
use Rattle.layout.specs.Fields.{len_of, kind_of, head_word}
use Rattle.layout.specs.Rows.{name_total}
use Rattle.layout.specs.Slots.{total}
use Rattle.layout.specs.Store.{Store, room, holder, live, rows_of, kind_at, state}
use Rattle.model.specs.Calls.States.{edited}
use Rattle.layout.specs.Alike.{Spells, HasSlot}

-- the store u is st with what stands in the slot changed, whether the slot is an entry's or an open number's
pub record Changes (c : Change) (st u : Store) (slot : ℕ) : Type 0 where
  pub by_name : (p : Path) → HasSlot st p slot → Spells u (edited (change p c) (state st))
  pub by_number : (n : ℕ) → n < file_numbers → holder st n ≡ suc slot → Spells u (edited (change_held n c) (state st))
  -- the entries and the kinds are as they were
  pub rows : rows_of u ≡ rows_of st
  pub kinds : (k : ℕ) → kind_at u k ≡ kind_at st k

-- n bytes in place of the slot's are within the byte limit
abbrev pub Room : Store → ℕ → ℕ → Type 0
Room st slot n = name_total (live st) + total st.heads + n ≤ room st + len_of (get_or st.heads slot 0)

-- the slot is a file's, and n bytes may stand in it
pub record HasRoom (st : Store) (slot n : ℕ) : Type 0 where
  pub there : slot < length st.heads
  pub is_file : kind_at st slot ≡ 2
  pub room : Room st slot n

-- the word of a slot with another mode
abbrev pub with_mode : ℕ → ℕ → ℕ
with_mode m h = head_word (len_of h) (kind_of h) m
