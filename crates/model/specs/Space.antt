-- Space: what goes with an entry that leaves the tree, and the answer to 15 and 16 before a call edits anything.
-- Assumes nothing.
use Rattle.std.specs.Prelude.{cond, List, [], ◌∷◌, ℕ, ◌+◌, leb, length}
use Rattle.std.proofs.Math.Option.{Option, none, some}
use Rattle.model.specs.Refusals.{no_entries, no_bytes}
use Rattle.model.specs.Tree.{File, Node, dir, file, link, Entries, Files, Open, file_of, name_length}
use Rattle.model.specs.Calls.{State, entries_used, bytes_used, is_held}

-- the length of a file's contents, if there is the file
unfoldable pub size_of : Option File → ℕ
size_of none = 0
size_of (some f) = length f.bytes

-- the bytes that go with a node: a target, or contents unless a number is open on the file
unfoldable pub freed_by : Files → List Open → Node → ℕ
freed_by fs os (dir m) = 0
freed_by fs os (file i) = cond (is_held os i) 0 (size_of (file_of fs i))
freed_by fs os (link m s) = length s

-- the bytes that go with some entries: their names, and what goes with their nodes
unfoldable pub freed_in : Files → List Open → Entries → ℕ
freed_in fs os [] = 0
freed_in fs os (e ∷ t) = name_length e.0 + freed_by fs os e.1 + freed_in fs os t

-- 15 or 16, where a call would use so many entries more, so many bytes more, and free so many bytes; else 0
unfoldable pub room_for : State → (entries bytes freed : ℕ) → ℕ
room_for s entries bytes freed =
    cond (leb (entries_used s + entries) s.most) (cond (leb (bytes_used s + bytes) (s.room + freed)) 0 no_bytes) no_entries
