-- The use of space in the model's words: what a state uses, what goes with one of its entries, and whether a call has room.
-- Assumes nothing.
use Rattle.std.proofs.Math.Option.{some}
use Rattle.std.specs.Prelude.{◌≡◌}
use Rattle.model.specs.Tree.{Path, Node, look, name_length}
use Rattle.model.specs.Calls.States.{State}
use Rattle.model.specs.Space.{freed_by}
use Rattle.store.specs.declared.space.Weight.{Weight}

-- what the entry at the path takes up: its name, and the bytes that go with its node if it leaves the tree
pub record WeightIs (s : State) (p : Path) (r : Weight) : Type 0 where
  pub name : r.name ≡ name_length p
  pub freed : (n : Node) → look s.tree p ≡ some n → r.freed ≡ freed_by s.files s.opens n
