-- A name that is looked for in a store stands there in each state that the store shows, or is missing there: with an entry out too, since
-- taking an entry keeps states alike.
-- Assumes nothing.
use mathlib.Core.List.{[], ◌∷◌, ◌++◌}
use mathlib.Core.Option.{Option, none, some}
use mathlib.Core.Path.{◌≡◌, refl, sym, ap, ◌∙◌}
use Prim.Native.Nat.{ℕ}
use native.Mathlib.Omega.{arith}
use Rattle.path.specs.Path.{Name}
use Rattle.model.specs.Tree.{Path, Node, Entries, look, behind, cut}
use Rattle.model.specs.Prog.{World, Kind, a_dir, node_kind, target_of, on_some, Ask, kind?, target?, answer, take, apply}
use Rattle.model.specs.Calls.States.{State, world_of}
use Rattle.model.proofs.Alike.Runs.{answer-after}
use Rattle.model.proofs.Entries.{clash}
use Rattle.model.proofs.Sound.Entries.{cut_some}
use Rattle.layout.specs.Store.{Store, count, state}
use Rattle.layout.proofs.Edited.Shapes.{lawful-shape}
use Rattle.edit_room.specs.Extents.{trim}
use Rattle.ask_find.specs.declared.Gap.{Gap}
use Rattle.ask_find.specs.declared.Spot.{Spot}
use Rattle.std.specs.Prelude.{Result, Ok, Err}
use Rattle.ask_find.specs.Spots.{Hides, nothing, entry, Directory, Looks, Rooted}
use Rattle.store.specs.Shows.{Shows, says, Asked, whole, without, LookIs, RootIs}
use Rattle.store.proofs.Asked.{told}

-- ---- the answer by the tree

some_node : (o : Option Node) (k : Kind) → on_some o (λ n. some (node_kind n)) ≡ some k → (n : Node) × (o ≡ some n)
some_node none k e = clash none k refl e
some_node (some n) k e = (n, refl)

no_kind : (w : World) (p : Path) → look w.at p ≡ none → answer (kind? p) w ≡ none
unfolding answer
no_kind w p e = ap (λ (o : Option Node). on_some o (λ n. some (node_kind n))) e

same_kind : (w v : World) (p : Path) → look w.at p ≡ look v.at p → answer (kind? p) w ≡ answer (kind? p) v
unfolding answer
same_kind w v p e = ap (λ (o : Option Node). on_some o (λ n. some (node_kind n))) e

same_target : (w v : World) (p : Path) → look w.at p ≡ look v.at p → answer (target? p) w ≡ answer (target? p) v
unfolding answer
same_target w v p e = ap (λ (o : Option Node). on_some o target_of) e

-- what stands in a tree with an entry out stands in the whole one, and not below the entry
still : (v : World) (q p : Path) (k : Kind) → answer (kind? p) (apply (take q) v) ≡ some k → (behind q p ≡ none) × (look (cut q v.at) p ≡ look v.at p)
unfolding answer apply cut
still v q p k e =
    let a = some_node (look (cut q v.at) p) k e in
    let b = cut_some q v.at p a.0 a.1 in
    (b.0, a.1 ∙ sym b.1)

module _ {u : Store} {s : State} (h : Shows u s) where
  after : (q : Path) (a : Ask) → answer a (apply (take q) (world_of (state (trim u)))) ≡ answer a (apply (take q) (world_of s))
  after q a = answer-after (take q) a (state (trim u)) s (lawful-shape (trim u) h.roomy.lawful) h.shaped h.alike

  -- the tree that is asked, where the path p stands
  record Tree (i : ℕ) (w : World) (p : Path) (k : Kind) : Type 0 where
    tree : Entries
    hides : Hides (trim u) i p tree
    stands : answer (kind? p) (world_of (state (trim u))) ≡ some k
    gone : (r : Path) → look tree r ≡ none → answer (kind? r) w ≡ none
    kinds : (r : Path) → look tree r ≡ look (state (trim u)).tree r → answer (kind? r) w ≡ says (kind? r) s
    targets : (r : Path) → look tree r ≡ look (state (trim u)).tree r → answer (target? r) w ≡ says (target? r) s

  asked : (i : ℕ) (w : World) (p : Path) (k : Kind) → Asked u s i w → answer (kind? p) w ≡ some k → Tree i w p k
  unfolding apply
  asked i w p k (whole g) e =
      record {
        tree = (state (trim u)).tree;
        hides = nothing g refl;
        stands = told u s h (kind? p) ∙ e;
        gone = λ r z. sym (told u s h (kind? r)) ∙ no_kind (world_of (state (trim u))) r z;
        kinds = λ r z. refl;
        targets = λ r z. refl;
      }
  asked i w p k (without q g y) e =
      let x = after q (kind? p) ∙ e in
      let b = still (world_of (state (trim u))) q p k x in
      record {
        tree = cut q (state (trim u)).tree;
        hides = entry q g y b.0 refl;
        stands = sym (same_kind (apply (take q) (world_of (state (trim u)))) (world_of (state (trim u))) p b.1) ∙ x;
        gone = λ r z. sym (after q (kind? r)) ∙ no_kind (apply (take q) (world_of (state (trim u)))) r z;
        kinds = λ r z. sym (after q (kind? r)) ∙ same_kind (apply (take q) (world_of (state (trim u)))) (world_of (state (trim u))) r z ∙ told u s h (kind? r);
        targets = λ r z. sym (after q (target? r)) ∙ same_target (apply (take q) (world_of (state (trim u)))) (world_of (state (trim u))) r z ∙ told u s h (target? r);
      }

  pub child-told : (i : ℕ) (w : World) (p : Path) (x : Name) (a : Result Spot Gap) → Asked u s i w → answer (kind? p) w ≡ some a_dir
      → ((t : Entries) → Hides (trim u) i p t → Directory (trim u) p → Looks (trim u) i t p x a) → LookIs u s w i p x a
  child-told i w p x (Ok k) y e f =
      let t = asked i w p a_dir y e in
      let r = f t.tree t.hides t.stands in
      record { at = r.at; kind = t.kinds (p ++ (x ∷ [])) r.same; target = t.targets (p ++ (x ∷ [])) r.same }
  child-told i w p x (Err g) y e f =
      let t = asked i w p a_dir y e in
      let r = f t.tree t.hides t.stands in
      (t.gone (p ++ (x ∷ [])) r.0, r.1)

  pub root_told : (a : Result Spot Gap) → Rooted (trim u) a → RootIs u s a
  root_told (Ok k) f = (
    (f (count u) (state (trim u)).tree (nothing (omega arith) refl)).at,
    λ i w n y e.
        let t = asked i w [] n y e in
        let r = f i t.tree t.hides in
        record { at = r.at; kind = t.kinds [] r.same; target = t.targets [] r.same },
  )
  root_told (Err g) f = (sym (told u s h (kind? [])) ∙ no_kind (world_of (state (trim u))) [] f.0, f.1)
