-- The place of a record with all below it is a place for an entry of its path: what stands before the block does not change, and what
-- stands behind it may stand behind an entry of that path in which nothing lies.
-- Assumes nothing.
use mathlib.Core.Bool.{Bool, false}
use mathlib.Core.List.{List, [], ◌∷◌, ◌++◌}
use mathlib.Core.Path.{◌≡◌, sym, ap, ◌∙◌, subst}
use Prim.Native.Nat.{ℕ, zero, suc, ◌-◌, ◌≤◌, ◌<◌}
use native.Mathlib.Omega.{arith}
use lib.Dec.{T, eqb}
use lib.ListN.{length, take, drop, get_or, length-append, length-take}
use lib.Seq.{take-length, get_or-take, get_or-append_seam}
use Rattle.path.specs.Path.{Name}
use Rattle.model.specs.Tree.{Path, precedes}
use Rattle.model.proofs.Sound.Entries.{snoc-equal, snoc-root}
use Rattle.layout.specs.Rows.{Row}
use Rattle.layout.specs.Store.{Store, count, rows_of, kind_at}
use Rattle.layout.specs.Lawful.{follows, walk_ok, Lawful}
use Rattle.layout.specs.Parts.{path_after, dir_after, Behind, Between, Deeper, NotDeeper}
use Rattle.layout.proofs.Rising.{Follows, aside, below, by_follows}
use Rattle.layout.proofs.Edited.Blocked.{at_path, at_length, below-ok, behind-ok}
use Rattle.layout.proofs.Edited.Removing.{walk-follows, walk-rises, below-keeps}
use Rattle.layout.proofs.Edited.Taking.{one_deep}
use Rattle.ask_find.specs.Paths.{row_at, path_at}
use Rattle.ask_find.specs.Spots.{block_end}
use Rattle.ask_find.proofs.Blocks.{block, Block, block-parts, rest_is}
use Rattle.ask_find.proofs.Records.{rest_at, path_next, root-path, walk-behind}

-- what stands behind a path and all below it may stand behind the path alone
behind_of : (kind : ℕ → ℕ) (n : ℕ) (o end : Path) (dir : Bool) (m : ℕ) (b : List Row) → length o ≡ m → take m end ≡ o → NotDeeper m b → T (walk_ok kind n end dir b) → Behind o b
behind_of kind n o end dir m [] e k nb w = tt
behind_of kind n o end dir m (r ∷ b) e k nb w = go r.depth nb (walk-rises kind n end dir r b w)
  where
    long : m ≤ length end
    long = omega (arith, e, ap length k, length-take m end)

    go : (d : ℕ) → d ≤ m → Follows end dir r.name d → T (follows o false d r.name)
    go d h (aside j y z) =
        let g : get_or end j [] ≡ get_or o j [] = sym (get_or-take m end j [] (omega (arith, h))) ∙ ap (λ (q : Path). get_or q j []) k in
        by_follows o false (suc j) r.name (aside j (omega (arith, h, e)) (subst (λ (y : Name). T (precedes y r.name)) g z))
    go d h (below y) = absurd (omega (arith, h, long))

-- the last name of a path
last_equal : (p q : Path) (x y : Name) → p ++ (x ∷ []) ≡ q ++ (y ∷ []) → x ≡ y
last_equal p q x y e =
    let s = snoc-equal p q x y e in
    sym (get_or-append_seam p x [] []) ∙ ap (λ (u : Path). get_or u (length p) []) e ∙ ap (λ (u : Path). get_or (q ++ (y ∷ [])) (length u) []) s ∙ get_or-append_seam q y [] []

module _ (st : Store) (l : Lawful st) (h : ℕ) (a : h < count st) (p : Path) (x : Name) (z : path_at st h ≡ p ++ (x ∷ [])) where
  abbrev kinds : ℕ → ℕ
  kinds = kind_at st

  abbrev slots : ℕ
  slots = length st.heads

  abbrev row : Row
  row = row_at st h

  abbrev up : Path
  up = path_after [] (take h (rows_of st))

  abbrev dir : Bool
  dir = dir_after kinds false (take h (rows_of st))

  abbrev e : ℕ
  e = block_end st h

  -- it is not the root
  pub not_root : 0 < h
  unfolding path_after
  not_root = go h a z
    where
      go : (k : ℕ) → k < count st → path_at st k ≡ p ++ (x ∷ []) → 0 < k
      go zero b y = absurd (snoc-root p x (sym y ∙ path_next st l zero b ∙ root-path st l b))
      go (suc k) b y = omega arith

  parts : Block st h e
  parts = block-parts st l h a not_root

  walk : T (walk_ok kinds slots up dir (row ∷ (block st h e ++ drop e (rows_of st))))
  walk =
      let k : suc (h - 1) ≡ h = omega (arith, not_root) in
      subst (λ (rs : List Row). T (walk_ok kinds slots up dir rs)) (rest_at st l h a ∙ ap (λ (rs : List Row). row ∷ rs) (rest_is st l h a))
      (subst (λ (k : ℕ). T (walk_ok kinds slots (path_after [] (take k (rows_of st))) (dir_after kinds false (take k (rows_of st))) (drop k (rows_of st)))) k (walk-behind st l (h - 1)))

  first : T (follows up dir row.depth row.name)
  first = walk-follows kinds slots up dir row (block st h e ++ drop e (rows_of st)) walk

  deep : (j : ℕ) × (row.depth ≡ suc j)
  deep = one_deep up dir row.depth row.name first

  abbrev d : ℕ
  d = deep.0

  dx : Deeper (suc d) (block st h e)
  dx = subst (λ (k : ℕ). Deeper k (block st h e)) deep.1 parts.deeper

  nb : NotDeeper (suc d) (drop e (rows_of st))
  nb = subst (λ (k : ℕ). NotDeeper k (drop e (rows_of st))) deep.1 parts.beyond

  abbrev at : Path
  at = take d up ++ (row.name ∷ [])

  at_is : at ≡ p ++ (x ∷ [])
  at_is = sym (at_path kinds slots up dir row (block st h e) (drop e (rows_of st)) d deep.1 dx nb walk) ∙ sym (path_next st l h a) ∙ z

  at_long : length at ≡ suc d
  at_long = at_length kinds slots up dir row (block st h e) (drop e (rows_of st)) d deep.1 dx nb walk

  d_is : d ≡ length p
  d_is = omega (arith, at_long, ap length at_is, length-append p (x ∷ []))

  end-keeps : take (suc d) (path_after at (block st h e)) ≡ at
  end-keeps =
      below-keeps kinds slots (suc d) at (eqb (kinds row.slot) 1) (block st h e) dx (below-ok kinds slots up dir row (block st h e) (drop e (rows_of st)) d deep.1 dx nb walk)
      ∙ ap (λ (k : ℕ). take k at) (sym at_long) ∙ take-length at

  pub gap-instead : Between kinds (take h (rows_of st)) (drop e (rows_of st)) p x
  gap-instead =
      record {
        within = ap (λ (k : ℕ). take k up) (sym d_is) ∙ snoc-equal (take d up) p row.name x at_is;
        follows = subst (λ (k : ℕ). T (follows up dir (suc k) x)) d_is (subst (λ (y : Name). T (follows up dir (suc d) y)) (last_equal (take d up) p row.name x at_is) (subst (λ (k : ℕ). T (follows up dir k row.name)) deep.1 first));
        behind = subst (λ (o : Path). Behind o (drop e (rows_of st))) at_is
            (behind_of kinds slots at (path_after at (block st h e)) (dir_after kinds (eqb (kinds row.slot) 1) (block st h e)) (suc d) (drop e (rows_of st)) at_long end-keeps nb
            (behind-ok kinds slots up dir row (block st h e) (drop e (rows_of st)) d deep.1 dx nb walk));
      }
