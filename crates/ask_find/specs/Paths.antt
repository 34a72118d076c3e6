-- The entry of a record of a store, and its path.
-- Assumes nothing.
use Rattle.std.specs.Prelude.{[], ℕ, suc, take, drop, get_or}
use Rattle.model.specs.Tree.{Path}
use Rattle.layout.specs.Fields.{depth_of, nlen_of, slot_of}
use Rattle.layout.specs.Rows.{Row, name_total}
use Rattle.layout.specs.Store.{Store, live, rows_of}
use Rattle.layout.specs.Parts.{path_after}

-- the slot of record i
abbrev pub slot_at : Store → ℕ → ℕ
slot_at st i = slot_of (get_or st.records i 0)

-- the entry of record i
abbrev pub row_at : Store → ℕ → Row
row_at st i =
    record { depth = depth_of (get_or st.records i 0); name = take (nlen_of (get_or st.records i 0)) (drop (name_total (take i (live st))) st.bytes); slot = slot_at st i }

-- the path of record i
abbrev pub path_at : Store → ℕ → Path
path_at st i = path_after [] (take (suc i) (rows_of st))
