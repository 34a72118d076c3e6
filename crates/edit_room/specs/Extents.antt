-- How many slots a store has so far (docs/LAYOUT.md, "words", word 101): one more, and no more than are in use.
-- Assumes nothing.
use Rattle.std.specs.Prelude.{◌≡◌, List, ℕ, ◌-◌, ◌≤◌, ◌<◌, length, take, get_or}
use Rattle.layout.specs.Numbers.{extent_at}
use Rattle.layout.specs.Store.{Store, most, count, extent, slots_for, state}
use Rattle.layout.specs.Lawful.{Lawful}
use Rattle.layout.specs.Lent.{◌∘◌, ◌&◌, with_words, with_heads, on_words, on_heads, On}
use Rattle.slots.specs.Free.{HasFree}

-- the store with the words of the slots that it has so far, and none behind them
abbrev pub trim : Store → Store
trim st = record { words = st.words; records = st.records; heads = take (extent st) st.heads; times = st.times; paths = st.paths; bytes = st.bytes }

-- a store, with room for the words of all slots that the limits allow
pub record Roomy (st : Store) : Type 0 where
  pub lawful : Lawful (trim st)
  pub room : slots_for (most st) ≤ length st.heads

-- another number of slots: a store that spells the same state, and no other word is changed
pub record Resized (st st' : Store) : Type 0 where
  pub roomy : Roomy st'
  pub same : state (trim st') ≡ state (trim st)
  pub words : (i : ℕ) → (i ≡ extent_at → ⊥) → get_or st'.words i 0 ≡ get_or st.words i 0

-- below the entry limit a slot is free, and of the slots' words only the one behind those so far may have changed
pub record Reserved (st st' : Store) : Type 0 where
  pub resized : Resized st st'
  pub free : count st < most st → HasFree (trim st').heads
  pub heads : (k : ℕ) → (k ≡ extent st → ⊥) → get_or st'.heads k 0 ≡ get_or st.heads k 0

-- there is no slot, or the last is in use
pub record Released (st st' : Store) : Type 0 where
  pub resized : Resized st st'
  pub tight : 0 < extent st' → get_or st'.heads (extent st' - 1) 0 ≡ 0 → ⊥

-- some store has the words and the words of the slots, with room
abbrev pub SomeRoomy : List ℕ → List ℕ → Type 0
SomeRoomy words heads = (st : Store) × Roomy ((with_words words ∘ with_heads heads) st)

-- of every store that has them, with room: P holds of it before and after
abbrev pub OnSlots : (words words' heads heads' : List ℕ) → (Store → Store → Type 0) → Type 0
OnSlots words words' heads heads' P = On (on_words words words' & on_heads heads heads') (λ st u. Roomy st → P st u)
