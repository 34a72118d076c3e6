-- The root in the worlds that are asked. There is always a world to ask: the whole one, or the one with the hidden entry taken. A hidden
-- entry that is not the first record is not the root, since two records have two paths, so the root stays in each of these worlds.
-- Assumes nothing.
use mathlib.Core.Bool.{Bool, true, false}
use mathlib.Core.List.{[], ◌∷◌}
use mathlib.Core.Option.{Option, none, some}
use mathlib.Core.Path.{◌≡◌, refl, sym, ap, ◌∙◌}
use Prim.Native.Nat.{ℕ, ◌<◌}
use native.Mathlib.Omega.{arith}
use lib.Dec.{leb}
use borrow.Author.Tests.{leb-true, leb-false}
use Rattle.std.specs.Prelude.{Ok}
use Rattle.model.specs.Tree.{Path, Node, behind}
use Rattle.model.specs.Prog.{World, Kind, kind?, node_kind, on_some, answer, take, apply}
use Rattle.model.specs.Calls.States.{State, world_of}
use Rattle.model.proofs.Entries.{cut_out}
use Rattle.layout.specs.Store.{Store, count, state}
use Rattle.edit_room.specs.Extents.{trim}
use Rattle.ask_find.specs.declared.Spot.{Spot}
use Rattle.ask_find.specs.Paths.{path_at}
use Rattle.ask_find.specs.Spots.{At, nothing}
use Rattle.ask_find.proofs.Children.{path_one, root-found}
use Rattle.ask_entry.proofs.Stats.{kind-told}
use Rattle.store.specs.Shows.{Shows, says, Asked, whole, without, There, RootIs}
use Rattle.store.proofs.Asked.{told}

-- some world is asked
pub some_asked : (st : Store) (s : State) (h : ℕ) → (w : World) × Asked st s h w
some_asked st s h = go (leb (count st) h) refl
  where
    go : (b : Bool) → leb (count st) h ≡ b → (w : World) × Asked st s h w
    go true z = (world_of s, whole (leb-true (count st) h z))
    go false z = (apply (take (path_at (trim st) h)) (world_of s), without (path_at (trim st) h) (leb-false (count st) h z) refl)

-- an empty tree has no root
pub never : (st : Store) (s : State) (h : ℕ) (w : World) → Asked st s h w → says (kind? []) s ≡ none → count st ≡ 0 → answer (kind? []) w ≡ none
never st s h w (whole g) e z = e
never st s h w (without q g y) e z = absurd (omega (arith, g, z))

module _ (st : Store) (s : State) (x : Shows st s) (spot : Spot) (f : RootIs st s (Ok spot)) where
  -- the root is an entry, and has a kind
  root_at : At (trim st) spot []
  root_at = f.0

  root-kind : (k : Kind) × (says (kind? []) s ≡ some k)
  root-kind =
      (_, sym (told st s x (kind? [])) ∙ ap (λ (p : Path). says (kind? p) (state (trim st))) (sym root_at.path) ∙ kind-told (trim st) x.roomy.lawful spot.at root_at.within)

  -- it is the first record's
  first_path : path_at (trim st) 0 ≡ []
  first_path = (root-found (trim st) x.roomy.lawful (omega (arith, root_at.within)) (count st) (state (trim st)).tree (nothing (omega arith) refl)).at.path

  stays : (h : ℕ) (q : Path) → 0 < h → h < count st → path_at (trim st) h ≡ q → answer (kind? []) (apply (take q) (world_of s)) ≡ says (kind? []) s
  unfolding answer apply behind
  stays h [] a g y =
      absurd (omega (arith, a, path_one (trim st) x.roomy.lawful 0 h (omega (arith, g)) g (first_path ∙ sym y)))
  stays h (n ∷ q) a g y = ap (λ (o : Option Node). on_some {B = Kind} o (λ m. some (node_kind m))) (cut_out (n ∷ q) [] (world_of s).at refl)

  pub root_there : (h : ℕ) (w : World) → 0 < h → Asked st s h w → There st s w [] spot
  root_there h w a (whole g) = f.1 h (world_of s) root-kind.0 (whole g) root-kind.1
  root_there h w a (without q g y) =
      f.1 h (apply (take q) (world_of s)) root-kind.0 (without q g y) (stays h q a g y ∙ root-kind.1)
