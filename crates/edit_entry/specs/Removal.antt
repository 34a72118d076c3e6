-- What a removal asks of a store, and what it makes of the state.
-- Assumes nothing.
use Rattle.std.specs.Prelude.{[], ◌++◌, ◌≡◌, ℕ, suc, ◌≤◌, ◌<◌, take, drop, get_or}
use Rattle.model.specs.Tree.{Path}
use Rattle.model.specs.Prog.{remove}
use Rattle.layout.specs.Fields.{depth_of}
use Rattle.layout.specs.Store.{Store, count, rows_of, kind_at, state}
use Rattle.layout.specs.Lawful.{uses}
use Rattle.model.specs.Calls.States.{edited}
use Rattle.layout.specs.Alike.{Spells}
use Rattle.layout.specs.Parts.{path_after, Deeper, NotDeeper}

-- the records from i up to e are an entry that is not the root, and all below it
pub record Block (st : Store) (i e : ℕ) : Type 0 where
  pub first : 0 < i
  pub some : i < e
  pub last : e ≤ count st
  pub below : Deeper (depth_of (get_or st.records i 0)) (drop (suc i) (take e (rows_of st)))
  pub behind : NotDeeper (depth_of (get_or st.records i 0)) (drop e (rows_of st))

-- the path of the entry at record i
abbrev pub EntryPath : Store → ℕ → Path → Type 0
EntryPath st i p = path_after [] (take (suc i) (rows_of st)) ≡ p

-- what is left: the edited state, with the records from e on where the entry's was, and the kinds of all slots that they name
pub record RemovedAt (st st' : Store) (i e : ℕ) (p : Path) : Type 0 where
  pub spells : Spells st' (edited (remove p) (state st))
  pub rows : rows_of st' ≡ take i (rows_of st) ++ drop e (rows_of st)
  pub kinds : (k : ℕ) → 0 < uses k (rows_of st') → kind_at st' k ≡ kind_at st k

-- of the path that the entry has
abbrev pub Removed : Store → Store → ℕ → ℕ → Type 0
Removed st st' i e = (p : Path) → EntryPath st i p → RemovedAt st st' i e p
