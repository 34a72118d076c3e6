-- The entries of a directory among the records behind it, by their spots.
-- Assumes nothing.
use Rattle.std.specs.Prelude.{Bool, cond, List, [], ◌∷◌, ℕ, ◌+◌, nat_lt, nat_eq, drop, get_or}
use Rattle.layout.specs.Fields.{depth_of, nlen_of}
use Rattle.ask_find.specs.declared.Spot.{Spot}
use Rattle.ask_list.specs.declared.entries.Entry.{Entry}

-- the spot behind one, the word of whose record is w
abbrev pub next_spot : Spot → ℕ → Spot
next_spot s w = record { at = s.at + 1; off = s.off + nlen_of w }

-- the entry and those behind it, or these alone
abbrev pub given : Bool → Entry → List Entry → List Entry
given b e es = cond b (e ∷ es) es

-- the entries of depth m among records that stand from a spot on, up to the first that is less deep: what is deeper is passed
unfoldable pub entries_at : ℕ → List ℕ → Spot → List Entry
entries_at m [] s = []
entries_at m (w ∷ ws) s =
    cond (nat_lt (depth_of w) m) [] (given (nat_eq (depth_of w) m) (record { spot = s; size = nlen_of w }) (entries_at m ws (next_spot s w)))

-- those of depth m behind the entry at a spot
abbrev pub entries_behind : List ℕ → Spot → ℕ → List Entry
entries_behind ws s m = entries_at m (drop (s.at + 1) ws) (next_spot s (get_or ws s.at 0))
