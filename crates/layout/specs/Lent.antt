-- Lent slices as a store. A call that is lent all six speaks of one store before it and after it. A function that is lent some of them
-- speaks of every store that has these: as it was, and with these slices as they are left.
-- Assumes nothing.
use Rattle.std.specs.Prelude.{List, ℕ, ℤ}
use Rattle.model.specs.Prog.{Edit}
use Rattle.layout.specs.Store.{Store, lent, state}
use Rattle.layout.specs.Lawful.{Lawful}
use Rattle.model.specs.Calls.States.{edited}
use Rattle.layout.specs.Alike.{Spells}
use Rattle.layout.specs.declared.slices.Slices.{Slices}
use Rattle.layout.specs.declared.slices.Tree.{Tree}

-- ---- all six

-- the store that is lent
abbrev pub lends : List ℕ → List ℕ → List ℕ → List ℤ → List ℕ → List ℕ → Store
lends words records heads times paths bytes = lent words records heads times paths bytes

-- the same, by the slices that travel together
abbrev pub lent_by : Slices → Store
lent_by s = lends s.words.now s.records.now s.heads.now s.times.now s.paths.now s.bytes.now

-- ---- some of them, in any store

-- one after the other
infixr 40 ◌∘◌
abbrev pub ◌∘◌ : (Store → Store) → (Store → Store) → Store → Store
◌∘◌ f g st = f (g st)

-- a store with these words of the state
abbrev pub with_words : List ℕ → Store → Store
with_words words st = lent words st.records st.heads st.times st.paths st.bytes

-- with these words of the records
abbrev pub with_records : List ℕ → Store → Store
with_records records st = lent st.words records st.heads st.times st.paths st.bytes

-- with these words of the slots
abbrev pub with_heads : List ℕ → Store → Store
with_heads heads st = lent st.words st.records heads st.times st.paths st.bytes

-- with these times of the slots
abbrev pub with_times : List ℤ → Store → Store
with_times times st = lent st.words st.records st.heads times st.paths st.bytes

-- with these cells of the kept paths
abbrev pub with_paths : List ℕ → Store → Store
with_paths paths st = lent st.words st.records st.heads st.times paths st.bytes

-- with this byte storage
abbrev pub with_bytes : List ℕ → Store → Store
with_bytes bytes st = lent st.words st.records st.heads st.times st.paths bytes

-- with those that hold the tree
abbrev pub with_tree : Tree → Store → Store
with_tree t = with_words t.words.now ∘ with_records t.records.now ∘ with_heads t.heads.now ∘ with_bytes t.bytes.now

-- ---- the same at a function's two moments, its entry and its exit

-- a store with the slices as they are lent, and as they are left
pub record Lending : Type 0 where
  pub had : Store → Store
  pub has : Store → Store

-- these slices and those
infixr 40 ◌&◌
abbrev pub ◌&◌ : Lending → Lending → Lending
◌&◌ k l = record { had = k.had ∘ l.had; has = k.has ∘ l.has }

-- slices that are lent to be read alone: the same at both moments
abbrev pub still : (Store → Store) → Lending
still f = record { had = f; has = f }

-- the words of the state, old and new
abbrev pub on_words : List ℕ → List ℕ → Lending
on_words old new = record { had = with_words old; has = with_words new }

-- the words of the records
abbrev pub on_records : List ℕ → List ℕ → Lending
on_records old new = record { had = with_records old; has = with_records new }

-- the words of the slots
abbrev pub on_heads : List ℕ → List ℕ → Lending
on_heads old new = record { had = with_heads old; has = with_heads new }

-- the times of the slots
abbrev pub on_times : List ℤ → List ℤ → Lending
on_times old new = record { had = with_times old; has = with_times new }

-- the cells of the kept paths
abbrev pub on_paths : List ℕ → List ℕ → Lending
on_paths old new = record { had = with_paths old; has = with_paths new }

-- the byte storage
abbrev pub on_bytes : List ℕ → List ℕ → Lending
on_bytes old new = record { had = with_bytes old; has = with_bytes new }

-- ---- what a contract says of them

-- some store that has the slices obeys the rules, and P holds of it
abbrev pub SomeLawful : (Store → Store) → (Store → Type 0) → Type 0
SomeLawful has P = (st : Store) × Lawful (has st) × P (has st)

-- of every store that has the slices: P holds of it before and after
abbrev pub On : Lending → (Store → Store → Type 0) → Type 0
On l P = (st : Store) → P (l.had st) (l.has st)

-- the same where it obeys the rules before
abbrev pub OnLawful : Lending → (Store → Store → Type 0) → Type 0
OnLawful l P = On l (λ st u. Lawful st → P st u)

-- what the edit makes of the state is spelt after
abbrev pub Edits : Edit → Store → Store → Type 0
Edits e st u = Spells u (edited e (state st))
