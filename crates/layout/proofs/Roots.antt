-- All entries of a store: the root, which has no name and is a directory, and the walk behind it.
-- Assumes nothing.
use mathlib.Core.Bool.{true, ◌&&◌}
use mathlib.Core.List.{List, [], ◌∷◌, ◌++◌}
use mathlib.Core.Logic.{inl, inr}
use mathlib.Core.Option.{some}
use mathlib.Core.Path.{◌≡◌, refl, sym, ap, ◌∙◌, subst}
use Prim.Native.Nat.{ℕ, ◌<◌}
use native.Mathlib.Omega.{arith}
use lib.Dec.{T, eqb, ltb, eqb→eq, ltb→lt}
use lib.ListN.{length}
use Rattle.path.specs.Path.{Name}
use Rattle.path.proofs.Laws.{and_left, and_right}
use Rattle.model.specs.Tree.{Path, Meta, Node, dir, look}
use Rattle.model.specs.Prog.{is_nil}
use Rattle.model.specs.Rules.{names_ok, Once, new_path}
use Rattle.model.proofs.Entries.{clash, some_inj, look-here, look_past, look_none}
use Rattle.model.proofs.Sound.Worlds.{IsDir, Rooted}
use Rattle.model.proofs.Sound.Entries.{snoc-root}
use Rattle.layout.specs.Rows.{Row, path_by, path_of, tree_from}
use Rattle.layout.specs.Lawful.{walk_ok, root_ok, rows_ok}
use Rattle.layout.proofs.Walks.{At, SlotsIn, walk-slots, at_names, walk-climbs, at-look}
use Rattle.layout.proofs.Climbing.{none_below, ascends-apart}
use Rattle.layout.proofs.Homes.{at_home}

nil-length : (x : Name) → T (is_nil x) → length x ≡ 0
nil-length [] t = refl
nil-length (b ∷ x) t = absurd t

module _ (kind : ℕ → ℕ) (n : ℕ) where
  -- the first row, and the walk behind it
  pub record Root (r : Row) (rs : List Row) : Type 0 where
    pub path : path_of [] r ≡ []
    pub nameless : length r.name ≡ 0
    pub slot : r.slot < n
    pub is_dir : kind r.slot ≡ 1
    pub rest : T (walk_ok kind n [] true rs)

  pub root_of : (r : Row) (rs : List Row) → T (rows_ok kind n (r ∷ rs)) → Root r rs
  unfolding rows_ok
  root_of r rs t =
      let a = and_left (root_ok kind n r) (walk_ok kind n [] true rs) t in
      let b = and_right (eqb r.depth 0) (is_nil r.name && (ltb r.slot n && eqb (kind r.slot) 1)) a in
      let c = and_right (is_nil r.name) (ltb r.slot n && eqb (kind r.slot) 1) b in
      record {
        path = ap (λ (k : ℕ). path_by k [] r.name) (eqb→eq r.depth 0 (and_left (eqb r.depth 0) (is_nil r.name && (ltb r.slot n && eqb (kind r.slot) 1)) a));
        nameless = nil-length r.name (and_left (is_nil r.name) (ltb r.slot n && eqb (kind r.slot) 1) b);
        slot = ltb→lt r.slot n (and_left (ltb r.slot n) (eqb (kind r.slot) 1) c);
        is_dir = eqb→eq (kind r.slot) 1 (and_right (ltb r.slot n) (eqb (kind r.slot) 1) c);
        rest = and_right (root_ok kind n r) (walk_ok kind n [] true rs) t;
      }

  -- the walk behind the root's path
  from_root : (r : Row) (rs : List Row) → Root r rs → T (walk_ok kind n (path_of [] r) true rs)
  from_root r rs o = subst (λ (p : Path). T (walk_ok kind n p true rs)) (sym o.path) o.rest

  pub all_slots : (rs : List Row) → T (rows_ok kind n rs) → SlotsIn n rs
  all_slots [] t = tt
  all_slots (r ∷ rs) t = let o = root_of r rs t in (o.slot, walk-slots kind n [] true rs o.rest)

  pub all_named : (rs : List Row) → T (rows_ok kind n rs) → (q : Path) (r : Row) → At [] rs q r → T (names_ok q)
  unfolding names_ok
  all_named [] t q r a = absurd a
  all_named (s ∷ rs) t q r (inl e) = subst (λ (p : Path). T (names_ok p)) (sym (root_of s rs t).path ∙ e.0) tt
  all_named (s ∷ rs) t q r (inr a) =
      let o = root_of s rs t in
      at_names kind n (path_of [] s) true rs (from_root s rs o) (subst (λ (p : Path). T (names_ok p)) (sym o.path) tt) q r a

  module _ (f : ℕ → Node) where
    pub all_once : (rs : List Row) → T (rows_ok kind n rs) → Once new_path (tree_from f [] rs)
    unfolding tree_from
    all_once [] t = tt
    all_once (s ∷ rs) t = ascends-apart (tree_from f [] (s ∷ rs)) (walk-climbs kind n f (path_of [] s) true rs (from_root s rs (root_of s rs t)))

    pub all-look : (rs : List Row) → T (rows_ok kind n rs) → (q : Path) (r : Row) → At [] rs q r → look (tree_from f [] rs) q ≡ some (f r.slot)
    all-look [] t q r a = absurd a
    all-look (s ∷ rs) t q r a = at-look kind n f [] true s rs (from_root s rs (root_of s rs t)) q r a

    module _ (dirs : (k : ℕ) → kind k ≡ 1 → (m : Meta) × (f k ≡ dir m)) where
      pub all-rooted : (rs : List Row) → T (rows_ok kind n rs) → Rooted (tree_from f [] rs)
      unfolding tree_from
      all-rooted [] t m e = clash (look [] []) m (look_none []) e
      all-rooted (s ∷ rs) t m e =
          let o = root_of s rs t in
          let d = dirs s.slot o.is_dir in
          (d.0, sym (some_inj (sym (look-here (path_of [] s, f s.slot) (tree_from f (path_of [] s) rs) [] o.path) ∙ e)) ∙ d.1)

      -- every entry stands in a directory
      pub all-home : (rs : List Row) → T (rows_ok kind n rs) → (q : Path) (x : Name) (r : Row) → At [] rs (q ++ (x ∷ [])) r → IsDir (tree_from f [] rs) q
      unfolding tree_from
      all-home [] t q x r a = absurd a
      all-home (s ∷ rs) t q x r (inl e) = absurd (snoc-root q x (sym e.0 ∙ (root_of s rs t).path))
      all-home (s ∷ rs) t q x r (inr a) =
          let o = root_of s rs t in
          let w = from_root s rs o in
          let d = dirs s.slot o.is_dir in
          let u = tree_from f (path_of [] s) rs in
          at_home kind n f dirs ((path_of [] s, f s.slot) ∷ u) (path_of [] s) true rs w
          (record {
            above = λ k h. absurd (omega (arith, ap length o.path));
            self = λ _. (d.0, look-here (path_of [] s, f s.slot) u (path_of [] s) refl ∙ ap some d.1);
          })
          (λ p m g. look_past (path_of [] s, f s.slot) u p (λ z. clash (look u p) m (none_below (path_of [] s) u (walk-climbs kind n f (path_of [] s) true rs w) p (inl (sym z))) g) ∙ g)
          q x r a
