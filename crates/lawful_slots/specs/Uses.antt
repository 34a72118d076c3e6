-- Slots that are right, by who uses them.
-- Assumes nothing.
use Rattle.std.specs.Prelude.{Bool, true, false, not, cond, List, [], ◌≡◌, ℕ, zero, suc, ◌+◌, ◌≤◌, ◌<◌, T, eqb, length, get_or, count_by, Option, Some, None}
use Rattle.layout.specs.Numbers.{file_numbers}
use Rattle.layout.specs.Fields.{len_of, kind_of}
use Rattle.layout.specs.Lawful.{slot_by}
use Rattle.slots.specs.Uses.{uses_in, stands_from}

-- every slot is right but for the bytes of a link: `slot_by` takes no bytes as a right target
abbrev pub SlotsRight : List ℕ → List ℕ → List ℕ → Type 0
SlotsRight ws recs heads = (k : ℕ) → k < length heads → T (slot_by (kind_of (get_or heads k 0)) (get_or heads k 0) (uses_in k recs) (stands_from ws file_numbers 0 k) [])

-- ---- slots that are taken

-- the number of elements that are not 0
abbrev pub filled : List ℕ → ℕ
filled xs = count_by (λ x. not (eqb x 0)) xs

-- by its kind, a word that can be that of an entry's slot: a directory has no bytes
abbrev pub entry_by : ℕ → ℕ → Bool
entry_by zero h = false
entry_by (suc zero) h = eqb (len_of h) 0
entry_by (suc (suc zero)) h = true
entry_by (suc (suc (suc zero))) h = true
entry_by (suc (suc (suc (suc k)))) h = false

-- the word of a slot can be that of an entry's
unfoldable pub entry_word : ℕ → Bool
entry_word h = entry_by (kind_of h) h

-- a slot that u records name, of the word h, and the number t that says whether it is taken
pub record Named (u h t : ℕ) : Type 0 where
  pub once : u ≤ 1
  pub taken : t ≡ u
  pub word : 0 < u → T (entry_word h)

-- true: the slots are taken that records name, each by one; false: some slot is wrong, whatever stands on it
abbrev pub NamedBy : List ℕ → List ℕ → List ℕ → Bool → Type 0
NamedBy recs heads taken true = ((k : ℕ) → Named (uses_in k recs) (get_or heads k 0) (get_or taken k 0)) × (filled taken ≡ length recs)
NamedBy recs heads taken false = (ws : List ℕ) → SlotsRight ws recs heads → ⊥

-- a slot that a file number stands on or not, of the word h, which was taken or not and is
pub record Opened (held : Bool) (h t₀ t : ℕ) : Type 0 where
  pub taken : t ≡ cond held 1 t₀
  pub file : T held → kind_of h ≡ 2

-- Some n: the slots are taken too that one of the first j numbers stands on, n more than before; None: some slot is wrong, whoever
-- names it
abbrev pub OpenedBy : List ℕ → List ℕ → List ℕ → List ℕ → ℕ → Option ℕ → Type 0
OpenedBy ws heads taken₀ taken j (Some n) =
    ((k : ℕ) → k < length heads → Opened (stands_from ws j 0 k) (get_or heads k 0) (get_or taken₀ k 0) (get_or taken k 0)) × ((k : ℕ) → length heads ≤ k → get_or taken k 0 ≡ get_or taken₀ k 0) × (filled taken ≡ filled taken₀ + n)
OpenedBy ws heads taken₀ taken j None = (recs : List ℕ) → SlotsRight ws recs heads → ⊥
