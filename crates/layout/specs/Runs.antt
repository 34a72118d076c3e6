-- Two runs of one job on two stores (01, "The fuller tree"): "Both runs get the same list, with inputs, times and lent buffers fixed
-- beforehand".
-- Assumes nothing.
use Rattle.std.specs.Prelude.{false, List, [], ◌∷◌, ◌++◌, ◌≡◌, ℕ}
use Rattle.text.specs.Utf8.{Bytes}
use Rattle.model.specs.Passable.{Passable}
use Rattle.model.specs.Fuller.{excepted}
use Rattle.model.specs.Buffers.{Outputs}
use Rattle.layout.specs.Store.{Store}
use Rattle.layout.specs.Answers.{Lent, call_of, read_back, Answers}

-- what a call leaves: the store, its outputs, its working buffers, and the number that it returns
pub record Left : Type 0 where
  pub store : Store
  pub outputs : Outputs
  pub first : Bytes
  pub second : Bytes
  pub number : ℕ

-- a call on a store as its contract has it
abbrev pub Does : Lent → Store → Left → Type 0
Does l st e = Answers l st e.store e.outputs e.first e.second e.number

-- one call on both stores, which C can make and demand 3 does not leave out
pub record Both (l : Lent) (a b : Store) (c d : Left) : Type 0 where
  pub passable : Passable (call_of l)
  pub kept : excepted (call_of l) (read_back a) (read_back b) ≡ false
  pub one : Does l a c
  pub two : Does l b d

-- a job on both, each call on what the last one left, from the stores a and b to the stores c and d
pub data Runs (a b : Store) : List Lent → Store → Store → Type 0 where
  start : Runs a b [] a b
  next : {j : List Lent} {c d : Store} {e f : Left} (l : Lent) → Runs a b j c d → Both l c d e f → Runs a b (j ++ (l ∷ [])) e.store f.store
