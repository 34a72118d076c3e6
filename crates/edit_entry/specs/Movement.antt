-- What a move asks of a store, and what it makes of the state.
-- Assumes nothing.
use Rattle.std.specs.Prelude.{List, [], ◌∷◌, ◌++◌, ◌≡◌, ℕ, suc, ◌+◌, ◌≤◌, T, length}
use Rattle.std.proofs.Math.Option.{none, some}
use Rattle.path.specs.Path.{Name}
use Rattle.model.specs.Tree.{Path, look, behind, cut}
use Rattle.model.specs.Rules.{name_ok}
use Rattle.layout.specs.Rows.{Row, name_total, path_of}
use Rattle.layout.specs.Slots.{total}
use Rattle.layout.specs.Store.{Store, room, live, rows_of, kind_at, state}
use Rattle.model.specs.Calls.States.{moved}
use Rattle.layout.specs.Alike.{Spells}
use Rattle.layout.specs.Parts.{path_after, Between, Deeper, NotDeeper}

-- the place before record p, in front of the records from i to e that move, or behind them
pub data Beside (root : Row) (a b : List Row) (i e p : ℕ) (a₂ b₂ : List Row) : Type 0 where
  front : (c d : List Row) → root ∷ a ≡ c ++ d → p ≡ length c → a₂ ≡ c → b₂ ≡ d ++ b → Beside root a b i e p a₂ b₂
  back : (c d : List Row) → b ≡ c ++ d → p ≡ e + length c → a₂ ≡ (root ∷ a) ++ c → b₂ ≡ d → Beside root a b i e p a₂ b₂

-- The records from i to e, the entry `row` with all below it, may become the entry y of the directory q, before record p.
pub record Movable (st : Store) (i e p depth : ℕ) (y : Name) : Type 0 where
  pub root : Row
  pub a : List Row
  pub row : Row
  pub x : List Row
  pub b : List Row
  pub a₂ : List Row
  pub b₂ : List Row
  pub q : Path
  pub rows : rows_of st ≡ root ∷ (a ++ (row ∷ (x ++ b)))
  pub from : i ≡ suc (length a)
  pub to : e ≡ suc (i + length x)
  pub deeper : Deeper row.depth x
  pub behind_it : NotDeeper row.depth b
  pub place : Beside root a b i e p a₂ b₂
  pub not_first : a₂ ≡ [] → ⊥
  pub deep : depth ≡ suc (length q)
  pub gap : Between (kind_at st) a₂ b₂ q y
  pub name : T (name_ok y)
  pub fits : name_total (live st) + length y + total st.heads ≤ room st + length row.name
  -- nothing stands at the new path or below it once the entry is out
  pub clear : (o r : Path) → behind (q ++ (y ∷ [])) o ≡ some r → look (cut (path_of (path_after [] a) row) (state st).tree) o ≡ none

-- what is left
abbrev pub MovedTo : Store → Store → ℕ → ℕ → ℕ → ℕ → Name → Type 0
MovedTo st st' i e p depth y = (m : Movable st i e p depth y) → Spells st' (moved (path_of (path_after [] m.a) m.row) (m.q ++ (y ∷ [])) (state st))
