-- What it asks of a store to put an entry below a new directory in its place, and what that makes of the state.
-- Assumes nothing.
use Rattle.std.specs.Prelude.{[], ◌∷◌, ◌++◌, ◌≡◌, ℕ, suc, ◌+◌, ◌≤◌, ◌<◌, T, length, take}
use Rattle.path.specs.Path.{Name}
use Rattle.model.specs.Tree.{Path}
use Rattle.model.specs.Rules.{name_ok}
use Rattle.layout.specs.Rows.{Row, name_total}
use Rattle.layout.specs.Slots.{total}
use Rattle.layout.specs.Store.{Store, most, room, count, live, rows_of, state}
use Rattle.model.specs.Calls.States.{nested}
use Rattle.layout.specs.Alike.{Spells}
use Rattle.slots.specs.Free.{HasFree}
use Rattle.edit_entry.specs.declared.made.Fresh.{Fresh}
use Rattle.edit_entry.specs.Made.{fresh_meta}
use Rattle.edit_entry.specs.Removal.{Block, EntryPath}

-- the records from i to e are an entry with all below it, the limits allow one entry of the name x more, and a slot is free
pub record MayNest (st : Store) (i e : ℕ) (x : Name) : Type 0 where
  pub block : Block st i e
  pub name : T (name_ok x)
  pub more : count st < most st
  pub fits : name_total (live st) + length x + total st.heads ≤ room st
  pub free : HasFree st.heads

-- what is left: the edited state, in which the new directory has record i and the name of the entry, and the entry the next record
pub record NestedAt (st st' : Store) (i : ℕ) (x : Name) (p : Path) (f : Fresh) : Type 0 where
  pub spells : Spells st' (nested p x (fresh_meta f) (state st))
  pub row : Row
  pub slot : ℕ
  pub old : take (suc i) (rows_of st) ≡ take i (rows_of st) ++ (row ∷ [])
  pub new : take (suc (suc i)) (rows_of st') ≡ take i (rows_of st) ++ (record { depth = row.depth; name = row.name; slot = slot } ∷ (record { depth = suc row.depth; name = x; slot = row.slot } ∷ []))

-- of the path that the entry has
abbrev pub Nested : Store → Store → ℕ → ℕ → Name → Fresh → Type 0
Nested st st' i e x new = MayNest st i e x → (p : Path) → EntryPath st i p → NestedAt st st' i x p new
