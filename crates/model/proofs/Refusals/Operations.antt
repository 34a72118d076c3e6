-- Every operation but rename: its tests stand before its first edit, whatever they are answered.
-- Assumes nothing.
use mathlib.Core.Option.{Option, none, some}
use Prim.Native.Nat.{ℕ}
use Rattle.text.specs.Utf8.{Bytes}
use Rattle.model.specs.Tree.{Path, Time}
use Rattle.model.specs.Prog.{Kind, Prog, ◌>>◌}
use Rattle.model.specs.Operations as O
use Rattle.model.proofs.Refusals.Careful.{Careful, never-ret, never-ask, never-edits, never-bind, careful-ret, careful-edits, careful-bind, careful_then, never-careful}
use Rattle.model.proofs.Refusals.Tests.{tests, never-truncated, never-start_at}

-- ---- parts

-- how a careful program is put together
pub ruleset careful =
    (careful-bind, careful_then, careful-edits, careful-ret, never-bind, never-edits, never-ret, never-ask, never-careful, tests)

-- opening what a walk found, or missed
pub careful-open_entry : (o : O.Opening) (n : ℕ) (t : Time) (p : Path) (k : Option Kind) → Careful (O.open_entry o n t p k)
unfolding O.open_entry ◌>>◌
careful-open_entry o n t p none = search careful depth 12
careful-open_entry o n t p (some k) = search (careful, never-truncated, never-start_at) depth 12

careful-write_entry : (t : Time) (s : Bytes) (p : Path) (o : Option Kind) → Careful (O.write_entry t s p o)
unfolding O.write_entry ◌>>◌
careful-write_entry t s p none = search careful depth 12
careful-write_entry t s p (some k) = search careful depth 12

-- writing
pub careful-write_to : (b : ℕ) (t : Time) (s : Bytes) (p : Path) → Careful (O.write_to b t s p)
unfolding O.write_to ◌>>◌
careful-write_to b t s p = search (careful, careful-write_entry) depth 12

-- removing a file
pub careful-a_file_out : (p : Path) (o : Option Kind) → Careful (O.a_file_out p o)
unfolding O.a_file_out ◌>>◌
careful-a_file_out p o = search careful depth 12

-- a directory
pub careful-a_dir_out : (p : Path) (o : Option Kind) → Careful (O.a_dir_out p o)
unfolding O.a_dir_out ◌>>◌
careful-a_dir_out p o = search careful depth 12

-- a tree
pub careful-a_tree_out : (p : Path) (o : Option Kind) → Careful (O.a_tree_out p o)
unfolding O.a_tree_out ◌>>◌
careful-a_tree_out p none = search careful depth 12
careful-a_tree_out p (some k) = search careful depth 12

-- a removal, with what it does at the entry
pub careful-remove_at : (f : Path → Option Kind → Prog (Unit {0})) (b : ℕ) (p : Path)
    → ((p : Path) (o : Option Kind) → Careful (f p o)) → Careful (O.remove_at f b p)
unfolding O.remove_at ◌>>◌
careful-remove_at f b p k = search careful depth 20
