-- A new entry between two parts of a walk: the entries behind it keep their paths, since none of them lies below it, and so the
-- tree is the old one with one entry more.
-- Assumes nothing.
use mathlib.Core.Bool.{Bool, true, false, false≢true}
use mathlib.Core.List.{List, [], ◌∷◌, ◌++◌}
use mathlib.Core.Option.{Option, none, some}
use mathlib.Core.Path.{◌≡◌, refl, sym, ap, ◌∙◌, subst}
use Prim.Native.Nat.{ℕ, suc, ◌≤◌, ◌<◌}
use native.Mathlib.Omega.{arith}
use lib.Dec.{T, eqb, ltb, eqb→eq}
use lib.ListN.{length, length-append, length-take, take, get_or}
use lib.Seq.{take-append-le, take-take, take-length, get_or-take}
use borrow.Author.Tests.{lt-ltb}
use Rattle.path.specs.Path.{Name}
use Rattle.path.proofs.Laws.{and_left, and_right, and_both}
use Rattle.model.specs.Tree.{Path, Node, Entries, precedes, look}
use Rattle.model.specs.Rules.{name_ok}
use Rattle.model.specs.Prog.{is_nil}
use Rattle.model.proofs.Entries.{clash, is_true, of_true, or, path-dec, look-here, look_past, both_look}
use Rattle.layout.specs.Rows.{Row, path_by, path_of, tree_from}
use Rattle.layout.specs.Lawful.{follows, entry_ok, walk_ok, root_ok, rows_ok}
use Rattle.layout.proofs.Rising.{Follows, aside, below, follows_by, by_follows}
use Rattle.layout.specs.Parts.{path_after, dir_after, Behind, Between}
use Rattle.layout.proofs.Edited.Parted.{tree_both, walk_both, SameStart, MayStand, tree-start, walk_start}

-- ---- the path of the new entry

-- what may stand behind a path that is no directory stands behind every path that begins with it, and has one path behind both
module _ (q e : Path) (keeps : take (length q) e ≡ q) where
  long : length q ≤ length e
  long = omega (arith, sym (length-take (length q) e) ∙ ap length keeps)

  stand_by : (d : Bool) (k : ℕ) (x : Name) → Follows q false x k → T (follows e d k x)
  stand_by d n x (aside k h t) =
      let u : get_or q k [] ≡ get_or e k [] = ap (λ (o : Path). get_or o k []) (sym keeps) ∙ get_or-take (length q) e k [] h in
      by_follows e d (suc k) x (aside k (omega (arith, h, long)) (subst (λ (m : Name). T (precedes m x)) u t))
  stand_by d n x (below z) = absurd (false≢true z)

  start_by : (k : ℕ) (x : Name) → Follows q false x k → path_by k q x ≡ path_by k e x
  start_by n x (aside k h t) = ap (λ (o : Path). o ++ (x ∷ [])) (ap (take k) (sym keeps) ∙ take-take k (length q) e (omega arith))
  start_by n x (below z) = absurd (false≢true z)

  pub stand-below : (d : Bool) (c : List Row) → Behind q c → MayStand e d c
  stand-below d [] h = tt
  stand-below d (r ∷ c) h = stand_by d r.depth r.name (follows_by q false r.depth r.name h)

  pub start-below : (c : List Row) → Behind q c → SameStart q e c
  start-below [] h = tt
  start-below (r ∷ c) h = start_by r.depth r.name (follows_by q false r.depth r.name h)

-- the root has no name and is a directory
pub root_is : (kind : ℕ → ℕ) (n : ℕ) (r : Row) → T (root_ok kind n r) → (r.depth ≡ 0) × (eqb (kind r.slot) 1 ≡ true)
root_is kind n r t =
    let u = and_right (eqb r.depth 0) _ t in
    let v = and_right (is_nil r.name) _ u in
    (eqb→eq r.depth 0 (and_left (eqb r.depth 0) _ t), is_true _ (and_right (ltb r.slot n) (eqb (kind r.slot) 1) v))

pub none_left : (o u : Option Node) → or o u ≡ none → o ≡ none
none_left none u e = refl
none_left (some y) u e = clash (some y) y e refl

module _ (kind : ℕ → ℕ) (a b : List Row) (q : Path) (x : Name) (g : Between kind a b q x) where
  pub new-length : length (q ++ (x ∷ [])) ≡ suc (length q)
  new-length = length-append q (x ∷ []) ∙ omega arith

  -- the names that both paths have
  pub shared : (k : ℕ) → k ≤ length q → take k (q ++ (x ∷ [])) ≡ take k (path_after [] a)
  shared k h =
      take-append-le k q (x ∷ []) h ∙ (ap (take k) (sym g.within) ∙ take-take k (length q) (path_after [] a) h)

  start-new : (r : Row) (k : ℕ) → r.depth ≡ k → Follows (q ++ (x ∷ [])) false r.name k → path_by k (path_after [] a) r.name ≡ path_by k (q ++ (x ∷ [])) r.name
  start-new r n e (aside k h y) = ap (λ (p : Path). p ++ (r.name ∷ [])) (sym (shared k (omega (arith, h, new-length))))
  start-new r n e (below z) = absurd (false≢true z)

  pub same_start : (c : List Row) → Behind (q ++ (x ∷ [])) c → SameStart (path_after [] a) (q ++ (x ∷ [])) c
  same_start [] h = tt
  same_start (r ∷ c) h = start-new r r.depth refl (follows_by (q ++ (x ∷ [])) false r.depth r.name h)

  may-stand : (d : Bool) (c : List Row) → Behind (q ++ (x ∷ [])) c → MayStand (q ++ (x ∷ [])) d c
  may-stand d c h = stand-below (q ++ (x ∷ [])) (q ++ (x ∷ [])) (take-length (q ++ (x ∷ []))) d c h

  -- the new entry
  abbrev new : ℕ → Row
  new k = record { depth = suc (length q); name = x; slot = k }

  pub new-path : (k : ℕ) → path_of (path_after [] a) (new k) ≡ q ++ (x ∷ [])
  new-path k = ap (λ (p : Path). p ++ (x ∷ [])) g.within

  pub tree-new : (f : ℕ → Node) (k : ℕ) → tree_from f [] (a ++ (new k ∷ b)) ≡ tree_from f [] a ++ ((q ++ (x ∷ []), f k) ∷ tree_from f (path_after [] a) b)
  unfolding tree_from
  tree-new f k =
      tree_both f [] a (new k ∷ b)
      ∙ ap (λ (t : Entries). tree_from f [] a ++ t) (ap (λ (p : Path). (p, f k) ∷ tree_from f p b) (new-path k) ∙ ap (λ (t : Entries). (q ++ (x ∷ []), f k) ∷ t) (sym (tree-start f (path_after [] a) (q ++ (x ∷ [])) b (same_start b g.behind))))

  -- ---- the rules

  walk-new : (n k : ℕ) (p : Path) (d : Bool) (c : List Row) → path_after p c ≡ path_after [] a → dir_after kind d c ≡ dir_after kind false a → k < n → T (name_ok x)
      → T (walk_ok kind n p d (c ++ b)) → T (walk_ok kind n p d (c ++ (new k ∷ b)))
  unfolding walk_ok
  walk-new n k p d c e f h m t =
      let old = subst T (walk_both kind n p d c b) t in
      let end = and_right (walk_ok kind n p d c) _ old in
      subst T (sym (walk_both kind n p d c (new k ∷ b)))
      (and_both (walk_ok kind n p d c) _ (and_left (walk_ok kind n p d c) _ old)
      (rw (e, f)
      (and_both (entry_ok n (path_after [] a) (dir_after kind false a) (new k)) _
      (and_both (ltb k n) _ (of_true (lt-ltb k n h)) (and_both (name_ok x) _ m g.follows))
      (subst (λ (o : Path). T (walk_ok kind n o (eqb (kind k) 1) b)) (sym (new-path k))
      (walk_start kind n (path_after [] a) (q ++ (x ∷ [])) (dir_after kind false a) (eqb (kind k) 1) b (same_start b g.behind) (may-stand (eqb (kind k) 1) b g.behind)
      (subst (λ (o : Path). T (walk_ok kind n o (dir_after kind false a) b)) e (subst (λ (o : Bool). T (walk_ok kind n (path_after p c) o b)) f end)))))))

  rows-go : (n k : ℕ) → k < n → T (name_ok x) → (r : Row) (c : List Row) → path_after [] (r ∷ c) ≡ path_after [] a → dir_after kind false (r ∷ c) ≡ dir_after kind false a
      → T (rows_ok kind n (r ∷ (c ++ b))) → T (rows_ok kind n (r ∷ (c ++ (new k ∷ b))))
  unfolding rows_ok path_after dir_after
  rows-go n k h m r c e f t =
      let i = and_left (root_ok kind n r) _ t in
      let root = root_is kind n r i in
      and_both (root_ok kind n r) _ i
      (walk-new n k [] true c (ap (λ (d : ℕ). path_after (path_by d [] r.name) c) (sym root.0) ∙ e) (ap (λ (d : Bool). dir_after kind d c) (sym root.1) ∙ f) h m (and_right (root_ok kind n r) _ t))

  pub rows_new : (n k : ℕ) → (a ≡ [] → ⊥) → k < n → T (name_ok x) → T (rows_ok kind n (a ++ b)) → T (rows_ok kind n (a ++ (new k ∷ b)))
  rows_new n k z h m t = go a z refl refl t
    where
      go : (c : List Row) → (c ≡ [] → ⊥) → path_after [] c ≡ path_after [] a → dir_after kind false c ≡ dir_after kind false a → T (rows_ok kind n (c ++ b)) → T (rows_ok kind n (c ++ (new k ∷ b)))
      go [] z e f t = absurd (z refl)
      go (r ∷ c) z e f t = rows-go n k h m r c e f t

-- ---- looking

-- an entry that stands nowhere else may stand anywhere
pub look-new : (s t : Entries) (p : Path) (n : Node) (o : Path) → look (s ++ t) p ≡ none → look (s ++ ((p, n) ∷ t)) o ≡ look ((p, n) ∷ (s ++ t)) o
look-new s t p n o e = go (path-dec p o)
  where
    go : Dec (p ≡ o) → look (s ++ ((p, n) ∷ t)) o ≡ look ((p, n) ∷ (s ++ t)) o
    go (yes y) =
        both_look s ((p, n) ∷ t) o
        ∙ (rw (look-here (p, n) t o y, none_left (look s o) (look t o) (sym (both_look s t o) ∙ (ap (look (s ++ t)) (sym y) ∙ e)))
        (sym (look-here (p, n) (s ++ t) o y)))
    go (no y) =
        both_look s ((p, n) ∷ t) o ∙ (ap (or (look s o)) (look_past (p, n) t o y) ∙ (sym (both_look s t o) ∙ sym (look_past (p, n) (s ++ t) o y)))
