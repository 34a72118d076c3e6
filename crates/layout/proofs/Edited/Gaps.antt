-- Where an entry may be put, none has its path: with it the entries are a walk too, and in a walk no path stands twice. A name that
-- no entry may have stands nowhere.
-- Assumes nothing.
use mathlib.Core.List.{List, [], ◌∷◌, ◌++◌}
use mathlib.Core.Option.{Option, none, some}
use mathlib.Core.Path.{◌≡◌, refl, sym, ap, ◌∙◌, subst}
use Prim.Native.Nat.{ℕ, ◌<◌}
use lib.Dec.{T}
use Rattle.path.specs.Path.{Name}
use Rattle.path.proofs.Laws.{and_left}
use Rattle.model.specs.Tree.{Path, Node, Entries, look}
use Rattle.model.specs.Rules.{name_ok, names_ok}
use Rattle.model.proofs.Entries.{clash, look-here, look_past, both_look, or, Apart}
use Rattle.model.proofs.Sound.Entries.{names_right}
use Rattle.layout.specs.Rows.{Row, tree_from}
use Rattle.layout.specs.Lawful.{rows_ok}
use Rattle.layout.proofs.Walks.{look_at}
use Rattle.layout.proofs.Roots.{all_named, all_once}
use Rattle.layout.specs.Parts.{path_after, Between}
use Rattle.layout.proofs.Edited.Parted.{tree_both}
use Rattle.layout.proofs.Edited.Inserting.{tree-new, rows_new}

-- an entry among others whose paths differ
middle-found : (s t : Entries) (p : Path) (n : Node) → look (s ++ ((p, n) ∷ t)) p ≡ none → ⊥
middle-found s t p n e = go (look s p) (sym (both_look s ((p, n) ∷ t) p) ∙ e)
  where
    go : (o : Option Node) → or o (look ((p, n) ∷ t) p) ≡ none → ⊥
    go none z = clash (look ((p, n) ∷ t) p) n z (look-here (p, n) t p refl)
    go (some m) z = clash (some m) m z refl

apart_none : (s t : Entries) (p : Path) (n : Node) → Apart (s ++ ((p, n) ∷ t)) → look (s ++ t) p ≡ none
apart_none [] t p n a = a.0
apart_none (e ∷ s) t p n a =
    look_past e (s ++ t) p (λ z. middle-found s t p n (ap (look (s ++ ((p, n) ∷ t))) (sym z) ∙ a.0)) ∙ apart_none s t p n a.1

module _ (kind : ℕ → ℕ) (n : ℕ) (a b : List Row) (q : Path) (x : Name) (g : Between kind a b q x) (f : ℕ → Node) (t : T (rows_ok kind n (a ++ b))) where
  proper_none : (k : ℕ) → k < n → (a ≡ [] → ⊥) → T (name_ok x) → look (tree_from f [] (a ++ b)) (q ++ (x ∷ [])) ≡ none
  proper_none k l z o =
      ap (λ (u : Entries). look u (q ++ (x ∷ []))) (tree_both f [] a b)
      ∙ apart_none (tree_from f [] a) (tree_from f (path_after [] a) b) (q ++ (x ∷ [])) (f k)
      (subst Apart (tree-new kind a b q x g f k) (all_once kind n f (a ++ (record { depth = _; name = x; slot = k } ∷ b)) (rows_new kind a b q x g n k z l o t)))

  pub gap_none : (k : ℕ) → k < n → (a ≡ [] → ⊥) → look (tree_from f [] (a ++ b)) (q ++ (x ∷ [])) ≡ none
  unfolding names_ok
  gap_none k l z = go (look (tree_from f [] (a ++ b)) (q ++ (x ∷ []))) refl
    where
      go : (o : Option Node) → look (tree_from f [] (a ++ b)) (q ++ (x ∷ [])) ≡ o → look (tree_from f [] (a ++ b)) (q ++ (x ∷ [])) ≡ none
      go none e = e
      go (some m) e =
          let h = look_at f [] (a ++ b) (q ++ (x ∷ [])) m e in
          proper_none k l z (and_left (name_ok x) _ (names_right q (x ∷ []) (all_named kind n (a ++ b) t (q ++ (x ∷ [])) h.0 h.1)))
