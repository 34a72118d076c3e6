-- The parts of lent slices that the limits ask, with room for the words of all slots.
-- Assumes nothing.
use Rattle.std.specs.Prelude.{◌≡◌, ◌*◌, ◌≤◌, length, take}
use Rattle.layout.specs.Numbers.{word_count, paths_bytes}
use Rattle.layout.specs.Store.{Store, most, room, slots_for}
use Rattle.layout.specs.declared.slices.Slices.{Slices}
use Rattle.layout.specs.declared.slices.Tree.{Tree}
use Rattle.op.specs.declared.parts.Sizes.{Sizes}

-- as much of each slice as the limits ask
abbrev pub cut : Store → Store
cut st =
    record { words = take word_count st.words; records = take (most st) st.records; heads = take (slots_for (most st)) st.heads; times = take (4 * slots_for (most st)) st.times; paths = take paths_bytes st.paths; bytes = take (room st) st.bytes }

-- the lengths of these parts, but for the words of the state and the cells of the kept paths
abbrev pub sizes_of : Store → Sizes
sizes_of st = record { records = most st; heads = slots_for (most st); times = 4 * slots_for (most st); bytes = room st }

-- that is what they are, and the slices are so long
pub record SizesOf (st : Store) (n : Sizes) : Type 0 where
  pub are : n ≡ sizes_of st
  pub words : word_count ≤ length st.words
  pub records : n.records ≤ length st.records
  pub heads : n.heads ≤ length st.heads
  pub times : n.times ≤ length st.times
  pub paths : paths_bytes ≤ length st.paths
  pub bytes : n.bytes ≤ length st.bytes

-- those of the slices that hold the tree
abbrev pub tree_of : Slices → Tree
tree_of s = record { words = s.words; records = s.records; heads = s.heads; bytes = s.bytes }
