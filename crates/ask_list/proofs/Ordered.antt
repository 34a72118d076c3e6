-- The entries of a directory stand in the order of their names, so putting them in order changes nothing.
-- Assumes nothing.
use mathlib.Core.Bool.{Bool, true, false, cond}
use mathlib.Core.List.{List, [], ◌∷◌}
use mathlib.Core.Option.{Option, none, some}
use mathlib.Core.Path.{◌≡◌, refl, sym, ap, ◌∙◌, subst}
use Prim.Native.Nat.{ℕ, suc, ◌≤◌, ◌<◌}
use native.Mathlib.Omega.{arith}
use lib.Dec.{T, leb, eqb}
use lib.ListN.{length, get_or}
use lib.Seq.{get_or-take}
use borrow.Author.Tests.{leb-false, eqb-true, eqb-false}
use Rattle.path.specs.Path.{Name}
use Rattle.model.specs.Tree.{Path, Node, keep_if, precedes, insert_by, insert, in_order}
use Rattle.model.specs.Prog.{World, Stat, stat_of, child}
use Rattle.model.proofs.Entries.{is_true}
use Rattle.layout.specs.Rows.{Row, path_by, path_of}
use Rattle.layout.specs.Lawful.{walk_ok}
use Rattle.layout.proofs.Rising.{before_both, Follows, aside, below, next_length}
use Rattle.layout.proofs.Walks.{rest_ok}
use Rattle.layout.proofs.Edited.Blocked.{get_d_last}
use Rattle.layout.proofs.Edited.Removing.{walk-follows, walk-rises, next_keeps}
use Rattle.ask_list.specs.Listed.{entries_in, shown}

-- ---- names that rise

-- each name is before the next, from x on
abbrev Chain : Name → List (Name × Stat) → Type 0
Chain x [] = Unit {0}
Chain x (e ∷ l) = T (precedes x e.0) × Chain e.0 l

chain-lower : (x y : Name) (l : List (Name × Stat)) → T (precedes x y) → Chain y l → Chain x l
chain-lower x y [] t c = tt
chain-lower x y (e ∷ l) t c = (before_both x y e.0 t c.0, c.1)

chain-child : (x y : Name) (o : Option Stat) (l : List (Name × Stat)) → T (precedes x y) → Chain y l → Chain x (child (y ∷ []) o l)
chain-child x y none l t c = chain-lower x y l t c
chain-child x y (some s) l t c = (t, c)

-- the first of them is in its place, and so are all
place_first : (e : Name × Stat) (l : List (Name × Stat)) → Chain e.0 l → insert e l ≡ e ∷ l
unfolding insert
place_first e [] c = refl
place_first e (f ∷ l) c = ap (λ (b : Bool). insert_by b e f l (insert e l)) (is_true (precedes e.0 f.0) c.0)

chain-order : (x : Name) (l : List (Name × Stat)) → Chain x l → in_order l ≡ l
unfolding in_order
chain-order x [] c = refl
chain-order x (e ∷ l) c = ap (insert e) (chain-order e.0 l c.1) ∙ place_first e l c.1

child-order : (x : Name) (o : Option Stat) (l : List (Name × Stat)) → Chain x l → in_order (child (x ∷ []) o l) ≡ child (x ∷ []) o l
unfolding in_order
child-order x none l c = chain-order x l c
child-order x (some s) l c = ap (insert (x, s)) (chain-order x l c) ∙ place_first (x, s) l c

-- ---- the entries of a walk

-- the name behind so many of a path
-- a greater name than the one at its place
greater : (p : Path) (d : Bool) (x : Name) (m k : ℕ) → k ≡ suc m → m < length p → Follows p d x k → T (precedes (get_or p m []) x)
greater p d x m k e h (aside j a t) = let g : j ≡ m = omega (arith, e) in subst (λ (i : ℕ). T (precedes (get_or p i []) x)) g t
greater p d x m k e h (below b) = absurd (omega (arith, e, h))

pub low : (p : Path) (d : Bool) (x : Name) (k : ℕ) → Follows p d x k → k ≤ suc (length p)
low p d x k (aside j a t) = omega arith
low p d x k (below b) = omega arith

module _ (kind : ℕ → ℕ) (n : ℕ) (world : World) (f : ℕ → Node) where
  -- behind an entry of a directory of m names
  chain_on : (m : ℕ) (p : Path) (d : Bool) (r : Row) (rs : List Row) → m < length p → T (walk_ok kind n p d (r ∷ rs))
      → (m < length (path_of p r) → Chain (get_or (path_of p r) m []) (shown world f (entries_in m rs)))
      → Chain (get_or p m []) (shown world f (entries_in m (r ∷ rs)))
  unfolding entries_in shown
  chain_on m p d r rs h t ih = one (leb r.depth m) refl
    where
      long : length (path_of p r) ≡ r.depth
      long = next_length p d r.name r.depth (walk-rises kind n p d r rs t)

      two : m < r.depth → (b : Bool) → eqb r.depth (suc m) ≡ b → Chain (get_or p m []) (shown world f (keep_if b r (entries_in m rs)))
      two l true e =
          let g = eqb-true r.depth (suc m) e in
          let z : get_or (path_of p r) m [] ≡ r.name = ap (λ (k : ℕ). get_or (path_by k p r.name) m []) g ∙ get_d_last m p r.name (omega (arith, h)) in
          chain-child (get_or p m []) r.name (stat_of world (f r.slot)) (shown world f (entries_in m rs)) (greater p d r.name m r.depth g h (walk-rises kind n p d r rs t))
          (subst (λ (x : Name). Chain x (shown world f (entries_in m rs))) z (ih (omega (arith, long, l))))
      two l false e =
          let k = next_keeps kind n (suc m) p d r r.depth refl (omega (arith, l, eqb-false r.depth (suc m) e)) (walk-follows kind n p d r rs t) in
          let z : get_or (path_of p r) m [] ≡ get_or p m [] =
          sym (get_or-take (suc m) (path_of p r) m [] (omega arith)) ∙ (ap (λ (o : Path). get_or o m []) k ∙ get_or-take (suc m) p m [] (omega arith)) in
          subst (λ (x : Name). Chain x (shown world f (entries_in m rs))) z (ih (omega (arith, long, l)))

      one : (b : Bool) → leb r.depth m ≡ b → Chain (get_or p m []) (shown world f (cond b [] (keep_if (eqb r.depth (suc m)) r (entries_in m rs))))
      one true e = tt
      one false e = two (leb-false r.depth m e) (eqb r.depth (suc m)) refl

  chain_of : (m : ℕ) (p : Path) (d : Bool) (rs : List Row) → m < length p → T (walk_ok kind n p d rs) → Chain (get_or p m []) (shown world f (entries_in m rs))
  unfolding entries_in shown
  chain_of m p d [] h t = tt
  chain_of m p d (r ∷ rs) h t = chain_on m p d r rs h t (λ g. chain_of m (path_of p r) (eqb (kind r.slot) 1) rs g (rest_ok kind n p d r rs t))

  -- behind the directory
  pub in_order_lem : (p : Path) (d : Bool) (rs : List Row) → T (walk_ok kind n p d rs) → in_order (shown world f (entries_in (length p) rs)) ≡ shown world f (entries_in (length p) rs)
  unfolding entries_in shown in_order
  in_order_lem p d [] t = refl
  in_order_lem p d (r ∷ rs) t = one (leb r.depth (length p)) refl
    where
      m : ℕ
      m = length p

      rest : List (Name × Stat)
      rest = shown world f (entries_in m rs)

      chained : r.depth ≡ suc m → Chain r.name rest
      chained g =
          let z : get_or (path_of p r) m [] ≡ r.name = ap (λ (k : ℕ). get_or (path_by k p r.name) m []) g ∙ get_d_last m p r.name (omega arith) in
          subst (λ (x : Name). Chain x rest) z
          (chain_of m (path_of p r) (eqb (kind r.slot) 1) rs (omega (arith, g, next_length p d r.name r.depth (walk-rises kind n p d r rs t))) (rest_ok kind n p d r rs t))

      two : m < r.depth → (b : Bool) → eqb r.depth (suc m) ≡ b → in_order (shown world f (keep_if b r (entries_in m rs))) ≡ shown world f (keep_if b r (entries_in m rs))
      two l true e = child-order r.name (stat_of world (f r.slot)) rest (chained (eqb-true r.depth (suc m) e))
      two l false e = absurd (omega (arith, l, eqb-false r.depth (suc m) e, low p d r.name r.depth (walk-rises kind n p d r rs t)))

      one : (b : Bool) → leb r.depth m ≡ b
          → in_order (shown world f (cond b [] (keep_if (eqb r.depth (suc m)) r (entries_in m rs)))) ≡ shown world f (cond b [] (keep_if (eqb r.depth (suc m)) r (entries_in m rs)))
      one true e = refl
      one false e = two (leb-false r.depth m e) (eqb r.depth (suc m)) refl
