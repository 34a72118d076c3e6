-- What an insertion asks of a store, and what it makes of the state.
-- Assumes nothing.
use Rattle.std.specs.Prelude.{[], ◌∷◌, ◌++◌, ◌≡◌, ℕ, suc, ◌+◌, ◌≤◌, ◌<◌, T, length, take, drop}
use Rattle.std.proofs.Math.Option.{none}
use Rattle.path.specs.Path.{Name}
use Rattle.model.specs.Tree.{Path, look}
use Rattle.model.specs.Prog.{make}
use Rattle.model.specs.Rules.{name_ok}
use Rattle.layout.specs.Numbers.{depths, name_lengths}
use Rattle.layout.specs.Rows.{name_total}
use Rattle.layout.specs.Slots.{total}
use Rattle.layout.specs.Store.{Store, most, room, count, live, rows_of, kind_at, state}
use Rattle.model.specs.Calls.States.{edited}
use Rattle.layout.specs.Alike.{Spells}
use Rattle.layout.specs.Parts.{Between}
use Rattle.slots.specs.Free.{HasFree}
use Rattle.edit_entry.specs.declared.made.Fresh.{Fresh}
use Rattle.edit_entry.specs.declared.made.Made.{Made}
use Rattle.edit_entry.specs.Filling.{head_made}
use Rattle.edit_entry.specs.Growth.{new_row, Grown}
use Rattle.edit_entry.specs.Made.{bytes_made, Holds, fresh_meta, insertion}

-- the place before record k is the place of the entry x of the directory q, which is not there
pub record Vacancy (st : Store) (k depth : ℕ) (q : Path) (x : Name) : Type 0 where
  pub first : 0 < k
  pub last : k ≤ count st
  pub deep : depth ≡ suc (length q)
  pub name : T (name_ok x)
  pub gap : Between (kind_at st) (take k (rows_of st)) (drop k (rows_of st)) q x
  pub missing : look (state st).tree (q ++ (x ∷ [])) ≡ none

-- the limits, and what it holds
pub record Insertable (st : Store) (x : Name) (made : Made) : Type 0 where
  pub more : count st < most st
  pub fits : name_total (live st) + length x + total st.heads + length (bytes_made made) ≤ room st
  pub holds : Holds made

-- the entry x of the directory q may be put before record k: it is not there, the limits allow it, and a slot is free
pub record MayInsert (st : Store) (k depth : ℕ) (q : Path) (x : Name) (made : Made) : Type 0 where
  pub vacant : Vacancy st k depth q x
  pub allowed : Insertable st x made
  pub free : HasFree st.heads

-- what is left: the edited state, in which the entry has record k, and the records from there on stand one further
pub record InsertedAt (st st' : Store) (k : ℕ) (q : Path) (x : Name) (made : Made) (new : Fresh) : Type 0 where
  pub spells : Spells st' (edited (insertion made new (q ++ (x ∷ []))) (state st))
  pub slot : ℕ
  pub rows : rows_of st' ≡ take k (rows_of st) ++ (new_row q x slot ∷ drop k (rows_of st))

-- of every directory q of which the place is one for x
abbrev pub Inserted : Store → Store → ℕ → ℕ → Name → Made → Fresh → Type 0
Inserted st st' k depth x made new = (q : Path) → MayInsert st k depth q x made → InsertedAt st st' k q x made new

-- the place is one of those before or behind the entries, of a depth and a name that a record can hold
pub record Placed (st : Store) (k depth : ℕ) (x : Name) : Type 0 where
  pub last : k ≤ count st
  pub small : depth < depths
  pub short : length x < name_lengths

-- an entry of that depth and name may be put before record k, whatever stands there
pub record MayPut (st : Store) (k depth : ℕ) (x : Name) (made : Made) : Type 0 where
  pub place : Placed st k depth x
  pub allowed : Insertable st x made
  pub free : HasFree st.heads

-- what is left: it has a slot that was free, and the slices have grown by it
pub record PutAt (st st' : Store) (k depth : ℕ) (x : Name) (made : Made) (new : Fresh) : Type 0 where
  pub slot : ℕ
  pub grown : Grown st st' (take k (rows_of st)) (drop k (rows_of st)) (record { depth = depth; name = x; slot = slot }) (head_made made new) (bytes_made made) new.time

abbrev pub Put : Store → Store → ℕ → ℕ → Name → Made → Fresh → Type 0
Put st st' k depth x made new = MayPut st k depth x made → PutAt st st' k depth x made new

-- there is no entry, and a slot is free
pub record MayRoot (st : Store) : Type 0 where
  pub empty : count st ≡ 0
  pub free : HasFree st.heads

-- what is left where the root is made
abbrev pub Rooted : Store → Store → Fresh → Type 0
Rooted st st' new = Spells st' (edited (make [] (fresh_meta new)) (state st))
