-- Sums over the entries of two trees: an edit of both adds no more to the second than to the first, so the second's free space
-- stays no less.
-- Assumes nothing.
use mathlib.Core.Bool.{Bool, true, false, not}
use mathlib.Core.List.{[], ◌∷◌, ◌++◌, append-nil}
use mathlib.Core.Option.{Option, none, some}
use mathlib.Core.Path.{◌≡◌, refl, sym, ap, ◌∙◌}
use Prim.Native.Nat.{ℕ, ◌+◌, ◌≤◌}
use native.Mathlib.Omega.{arith}
use Rattle.path.specs.Path.{Name}
use Rattle.model.specs.Tree.{Path, Node, Entries, or_else, keep_if, same_path, look, behind, less, put, unless_behind, cut, if_behind, under, graft}
use Rattle.model.proofs.Entries.{clash, some_inj, path-dec, path-equal, of_true, behind_is, behind-self, look-here, look_past, less_past, less_none, under_look, graft_in, graft_out, Apart, apart-less, apart_under}

-- of something by the last name, that a path before it does not change, and something by the node
module _ (d : Path → ℕ) (c : Node → ℕ) where
  unfoldable pub total : Entries → ℕ
  total [] = 0
  total (e ∷ t) = d e.0 + c e.1 + total t

  -- the second has what the first has, of the same weight
  abbrev pub Has : Entries → Entries → Type 0
  Has t u = (q : Path) (n : Node) → look t q ≡ some n → (m : Node) × (look u q ≡ some m) × (c n ≡ c m)

  pub total_both : (s t : Entries) → total (s ++ t) ≡ total s + total t
  unfolding total
  total_both [] t = omega arith
  total_both (e ∷ s) t = omega (arith, total_both s t)

  pub total-cut : (p : Path) (t : Entries) → total t ≡ total (cut p t) + total (graft p (under p t))
  unfolding total cut under graft
  total-cut p [] = refl
  total-cut p (e ∷ t) = go (behind p e.0) refl (total-cut p t)
    where
      go : (o : Option Path) → behind p e.0 ≡ o → total t ≡ total (cut p t) + total (graft p (under p t))
          → d e.0 + c e.1 + total t ≡ total (unless_behind o e (cut p t)) + total (graft p (if_behind o e.1 (under p t)))
      go none b ih = omega arith
      go (some r) b ih = omega (arith, ap d (behind_is p e.0 r b))

  pub total-less : (p : Path) (n : Node) (t : Entries) → Apart t → look t p ≡ some n → total t ≡ d p + c n + total (less p t)
  unfolding total less look
  total-less p n [] a h = clash none n refl h
  total-less p n (e ∷ t) a h = go (same_path e.0 p) refl (total-less p n t a.1) h
    where
      go : (b : Bool) → same_path e.0 p ≡ b → (look t p ≡ some n → total t ≡ d p + c n + total (less p t)) → or_else b e.1 (look t p) ≡ some n
          → d e.0 + c e.1 + total t ≡ d p + c n + total (keep_if (not b) e (less p t))
      go true k ih h =
          let y : e.0 ≡ p = path-equal e.0 p (of_true k) in
          rw (less_none p t (ap (look t) (sym y) ∙ a.0)) (omega (arith, ap d y, ap c (some_inj h)))
      go false k ih h = omega (arith, ih h)

  pub less-le : (p : Path) (t : Entries) → total (less p t) ≤ total t
  unfolding total less
  less-le p [] = omega arith
  less-le p (e ∷ t) = go (same_path e.0 p) (less-le p t)
    where
      go : (b : Bool) → total (less p t) ≤ total t → total (keep_if (not b) e (less p t)) ≤ d e.0 + c e.1 + total t
      go true ih = omega arith
      go false ih = omega arith

  has_rest : (e : Path × Node) (t u : Entries) → look t e.0 ≡ none → Has (e ∷ t) u → Has t (less e.0 u)
  has_rest e t u a h q n k = go (path-dec e.0 q)
    where
      go : Dec (e.0 ≡ q) → (m : Node) × (look (less e.0 u) q ≡ some m) × (c n ≡ c m)
      go (yes y) = clash (look t q) n (ap (look t) (sym y) ∙ a) k
      go (no y) = let g = h q n (look_past e t q y ∙ k) in (g.0, less_past e.0 q u y ∙ g.1, g.2)

  pub total_has : (t u : Entries) → Apart t → Apart u → Has t u → total t ≤ total u
  unfolding total
  total_has [] u a b h = omega arith
  total_has (e ∷ t) u a b h =
      let g = h e.0 e.1 (look-here e t e.0 refl) in
      omega (arith, total-less e.0 g.0 u b g.1, g.2, total_has t (less e.0 u) a.1 (apart-less e.0 u b) (has_rest e t u a.0 h))

  -- ---- what is put behind a path

  apart-graft : (p : Path) (h : Entries) → Apart h → Apart (graft p h)
  unfolding graft
  apart-graft p [] a = tt
  apart-graft p (e ∷ h) a = (graft_in p (p ++ e.0) e.0 h (behind-self p e.0) ∙ a.0, apart-graft p h a.1)

  has_under : (p : Path) (t u : Entries) → Has t u → Has (under p t) (under p u)
  has_under p t u h q n k = let g = h (p ++ q) n (sym (under_look p q t) ∙ k) in (g.0, under_look p q u ∙ g.1, g.2)

  has_graft : (p : Path) (t u : Entries) → Has t u → Has (graft p t) (graft p u)
  has_graft p t u h q n k = go (behind p q) refl
    where
      go : (o : Option Path) → behind p q ≡ o → (m : Node) × (look (graft p u) q ≡ some m) × (c n ≡ c m)
      go none b = clash (look (graft p t) q) n (graft_out p q t b) k
      go (some r) b = let g = h r n (sym (graft_in p q r t b) ∙ k) in (g.0, graft_in p q r u b ∙ g.1, g.2)

  graft-le : (p : Path) (t u : Entries) → Apart t → Apart u → Has t u → total (graft p (under p t)) ≤ total (graft p (under p u))
  graft-le p t u a b h =
      total_has (graft p (under p t)) (graft p (under p u)) (apart-graft p (under p t) (apart_under p t a)) (apart-graft p (under p u) (apart_under p u b))
      (has_graft p (under p t) (under p u) (has_under p t u h))

  -- what a path adds to the entry that is put at it
  abbrev pub crown : Path → Option Node → ℕ
  crown p none = 0
  crown p (some n) = d p

  module _ (unnamed : d [] ≡ 0) (last : (p : Path) (x : Name) (r : Path) → d (p ++ (x ∷ r)) ≡ d (x ∷ r)) where
    not_root : {x : Name} {r : Path} → ◌≡◌ {A = Path} (x ∷ r) [] → ⊥
    not_root e = let z : ◌≡◌ {A = ℕ} 0 1 = cc in omega arith

    pub total-graft : (p : Path) (h : Entries) → Apart h → total (graft p h) ≡ crown p (look h []) + total h
    unfolding total graft
    total-graft p [] a = unfold look in refl
    total-graft p (e ∷ h) a = go e.0 refl (total-graft p h a.1)
      where
        go : (l : Path) → e.0 ≡ l → total (graft p h) ≡ crown p (look h []) + total h
            → d (p ++ e.0) + c e.1 + total (graft p h) ≡ crown p (look (e ∷ h) []) + (d e.0 + c e.1 + total h)
        go [] y ih =
            let n : look h [] ≡ none = ap (look h) (sym y) ∙ a.0 in
            rw (look-here e h [] y, y, append-nil) (omega (arith, unnamed, ih ∙ ap (λ (o : Option Node). crown p o + total h) n))
        go (x ∷ r) y ih = rw (look_past e h [] (λ k. not_root (sym y ∙ k)), y, last p x r) (omega arith)

    crown-has : (p : Path) (h i : Entries) → Has h i → crown p (look h []) ≤ crown p (look i [])
    crown-has p h i a = go (look h []) refl
      where
        go : (o : Option Node) → look h [] ≡ o → crown p (look h []) ≤ crown p (look i [])
        go none y = rw y (omega arith)
        go (some n) y = let g = a [] n y in rw (y, g.1) (omega arith)

    crown-lacks : (p : Path) (h i : Entries) → (look h [] ≡ none → look i [] ≡ none) → crown p (look i []) ≤ crown p (look h [])
    crown-lacks p h i l = go (look h []) refl
      where
        two : (o : Option Node) → crown p o ≤ d p
        two none = omega arith
        two (some m) = omega arith

        go : (o : Option Node) → look h [] ≡ o → crown p (look i []) ≤ crown p (look h [])
        go none y = rw (y, l y) (omega arith)
        go (some n) y = rw y (two (look i []))

    -- ---- the edits: t and h are the first tree and hand, u and i the second

    module _ (t h u i : Entries) (at : Apart t) (ah : Apart h) (au : Apart u) (ai : Apart i) (has : Has t u) (held : Has h i) where
      pub put-used : (p : Path) (n m : Node) → c n ≡ c m → (total (put p m u) + total i) + (total t + total h) ≤ (total (put p n t) + total h) + (total u + total i)
      unfolding put total
      put-used p n m e = go (look t p) refl
        where
          go : (o : Option Node) → look t p ≡ o → ((d p + c m + total (less p u)) + total i) + (total t + total h) ≤ ((d p + c n + total (less p t)) + total h) + (total u + total i)
          go none k = rw (less_none p t k) (omega (arith, less-le p u))
          go (some a) k = let g = has p a k in omega (arith, total-less p a t at k, total-less p g.0 u au g.1, g.2)

      pub cut-used : (p : Path) → (total (cut p u) + total i) + (total t + total h) ≤ (total (cut p t) + total h) + (total u + total i)
      cut-used p = omega (arith, total-cut p t, total-cut p u, graft-le p t u at au has)

      pub take-used : (p : Path) → (total (cut p u) + total (under p u)) + (total t + total h) ≤ (total (cut p t) + total (under p t)) + (total u + total i)
      take-used p =
          omega (
            arith,
            total-cut p t,
            total-cut p u,
            total-graft p (under p t) (apart_under p t at),
            total-graft p (under p u) (apart_under p u au),
            crown-has p (under p t) (under p u) (has_under p t u has),
            total_has h i ah ai held,
          )

      pub give-used : (p : Path) → (look h [] ≡ none → look i [] ≡ none)
          → (total (graft p i ++ cut p u) + total []) + (total t + total h) ≤ (total (graft p h ++ cut p t) + total []) + (total u + total i)
      give-used p l =
          omega (
            arith,
            total-cut p t,
            total-cut p u,
            total_both (graft p h) (cut p t),
            total_both (graft p i) (cut p u),
            total-graft p h ah,
            total-graft p i ai,
            crown-lacks p h i l,
            graft-le p t u at au has,
          )
