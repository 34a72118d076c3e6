-- Sums over entries, and over what lies below one.
-- Assumes nothing.
use Rattle.std.specs.Prelude.{cond, List, [], ◌∷◌, ◌≡◌, ℕ, ◌+◌, ◌≤◌, ◌<◌, leb, eqb, length, drop, get_or}
use Rattle.layout.specs.Numbers.{most_entries}
use Rattle.layout.specs.Fields.{depth_of, nlen_of, slot_of, len_of, kind_of}
use Rattle.layout.specs.Rows.{name_total}
use Rattle.ask_find.specs.Spans.{pick_n, span}
use Rattle.ask_used.specs.declared.Sum.{Sum}

-- the word of an entry's slot
abbrev pub head_of : List ℕ → ℕ → ℕ
head_of hs w = get_or hs (slot_of w) 0

-- each entry's slot is one of the slots
abbrev pub Slotted : List ℕ → List ℕ → Type 0
Slotted hs ws = (j : ℕ) → j < length ws → slot_of (get_or ws j 0) < length hs

-- the bytes of an entry: its name, and its contents or target
abbrev pub entry_bytes : List ℕ → ℕ → ℕ
entry_bytes hs w = nlen_of w + len_of (head_of hs w)

-- the bytes of the first that are deeper than d
unfoldable pub below : List ℕ → ℕ → List ℕ → ℕ
below hs d [] = 0
below hs d (w ∷ ws) = pick_n (leb (depth_of w) d) 0 (entry_bytes hs w + below hs d ws)

-- the bytes in the slots of all entries
unfoldable pub held_total : List ℕ → List ℕ → ℕ
held_total hs [] = 0
held_total hs (w ∷ ws) = len_of (head_of hs w) + held_total hs ws

-- how many entries are links
unfoldable pub link_total : List ℕ → List ℕ → ℕ
link_total hs [] = 0
link_total hs (w ∷ ws) = cond (eqb (kind_of (head_of hs w)) 3) 1 0 + link_total hs ws

-- ---- the records that there are

-- few, with their slots; record i is one of them, or stands behind them
abbrev pub Upto : List ℕ → List ℕ → ℕ → Type 0
Upto ws hs i = (length ws ≤ most_entries) × (i ≤ length ws) × Slotted hs ws

-- record i is one of them
abbrev pub Among : List ℕ → List ℕ → ℕ → Type 0
Among ws hs i = (length ws ≤ most_entries) × (i < length ws) × Slotted hs ws

-- the bytes of the entry of record i with all below it
abbrev pub whole_bytes : List ℕ → List ℕ → ℕ → ℕ
whole_bytes ws hs i = entry_bytes hs (get_or ws i 0) + below hs (depth_of (get_or ws i 0)) (drop (i + 1) ws)

-- the record behind them
abbrev pub whole_end : List ℕ → ℕ → ℕ
whole_end ws i = i + 1 + span (depth_of (get_or ws i 0)) (drop (i + 1) ws)

-- the bytes of all entries
abbrev pub tree_bytes : List ℕ → List ℕ → ℕ
tree_bytes ws hs = name_total ws + held_total hs ws

-- what lies below depth d from record i on
abbrev pub TotalIs : List ℕ → List ℕ → ℕ → ℕ → Sum → Type 0
TotalIs ws hs i d r = (r.bytes ≡ below hs d (drop i ws)) × (r.next ≡ i + span d (drop i ws))

-- the entry of record i with all below it
abbrev pub WholeIs : List ℕ → List ℕ → ℕ → Sum → Type 0
WholeIs ws hs i r = (r.bytes ≡ whole_bytes ws hs i) × (r.next ≡ whole_end ws i)
