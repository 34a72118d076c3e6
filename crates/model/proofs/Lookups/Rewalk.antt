-- A lookup ends by a walk that met no link before the last name, and that walk took the whole path that the lookup tells. So to
-- look that path up is the same walk once more: directories up to the entry, or up to the name that is missing.
-- Assumes nothing.
use mathlib.Core.List.Memᴰ
use mathlib.Core.List.{List, [], ◌∷◌, ◌++◌, append-nil, append_assoc, Memᴰ}
use mathlib.Core.Logic.{inl, inr}
use mathlib.Core.Option.{Option, none, some}
use mathlib.Core.Path.{◌≡◌, refl, sym, ap, ◌∙◌}
use Prim.Native.Nat.{ℕ, zero, suc, ◌+◌, ◌*◌}
use native.Mathlib.Omega.{arith}
use Rattle.path.specs.Path.{Name}
use Rattle.model.specs.Tree.{Path, Meta, Node, dir, file, link, look}
use Rattle.model.specs.Prog.{World, Kind, a_dir, aFile, a_link, kind?, node_kind, on_some, answer, Prog, ◌>>=◌, done, run}
use Rattle.model.specs.Lookup.{End, found, missing, ends, onward, until_symlink, Walked, ended, no_follow, most_links, Where, reached, following, lookup}
use Rattle.model.proofs.Running.{tells-done, tells_then}
use Rattle.model.proofs.Lookups.Walking.{at_end, Link, until-tells, no_follow_then, Tracks, walk-stands, following-tells}

module _ (w : World) where
  ended-run : (q : Path) (m : End) (ls : List Path) (f : Path → List Name → Prog Walked) → run (until_symlink [] q) w ≡ done (ends m) w →
      run (until_symlink [] q >>= λ m. ended ls m f) w ≡ done (record { end = m; links = ls }) w
  unfolding ended run
  ended-run q m ls f h = tells_then (until_symlink [] q) _ w _ (until-tells w [] q) ∙ rw h

  -- a no-follow lookup of a path whose walk meets no link before the last name
  pub no_follow-straight : (k : ℕ) (q : Path) (m : End) (ls : List Path) → run (until_symlink [] q) w ≡ done (ends m) w →
      run (no_follow k q ls) w ≡ done (record { end = m; links = ls }) w
  unfolding no_follow
  no_follow-straight zero q m ls h = ended-run q m ls _ h
  no_follow-straight (suc k) q m ls h = ended-run q m ls _ h

  -- a lookup of a path whose walk meets no link
  pub straight : (b : ℕ) (q : Path) (o : Option Kind) → run (until_symlink [] q) w ≡ done (ends (at_end q o)) w → run (lookup b q) w ≡ done (record { path = q; kind = o; links = [] }) w
  unfolding following reached run
  straight zero q none h = no_follow_then w q [] _ ∙ rw (no_follow-straight most_links q (missing q) [] h)
  straight zero q (some k) h = no_follow_then w q [] _ ∙ rw (no_follow-straight most_links q (found q k) [] h)
  straight (suc b) q none h = no_follow_then w q [] _ ∙ rw (no_follow-straight most_links q (missing q) [] h)
  straight (suc b) q (some k) h = no_follow_then w q [] _ ∙ rw (no_follow-straight most_links q (found q k) [] h)

  -- ---- what a lookup tells

  module _ (b : ℕ) (p : Path) (v : Where) (u : World) (ran : run (lookup b p) w ≡ done v u) where
    -- all at once
    pub tracks : (u ≡ w) × Tracks w [] (40 * (b + 1) + b) v
    tracks = tells-done (lookup b p) w _ (following-tells w b p [] [] (40 * (b + 1) + b) (omega arith) (λ d i. inl i)) v u ran

    -- a lookup edits nothing
    pub lookup-leaves : u ≡ w
    lookup-leaves = tracks.0

    -- "A found path re-walks to its entry through no link", and a missing one to the same missing name
    pub re-walks : (c : ℕ) → run (lookup c v.path) w ≡ done (record { path = v.path; kind = v.kind; links = [] }) w
    re-walks c = straight c v.path v.kind tracks.1.again

    -- the links listed are links
    pub lists-links : (d : Path) → Memᴰ d v.links → Link w d
    lists-links d i = elim (tracks.1.listed d i) [ inl j ↦ absurd (Memᴰ.not-nil j) | inr j ↦ j ]

    -- what is found stands, and is no link
    pub found-stands : (k : Kind) → v.kind ≡ some k → (answer (kind? v.path) w ≡ some k) × ¬ (k ≡ a_link)
    found-stands k e = walk-stands w v.path (ends (found v.path k)) (rw e at tracks.1.again)

  -- ---- the names before the last

  -- a directory stands at d ++ a, or on the way there a name is missing
  pub data Way (d a : Path) : Type 0 where
    through : answer (kind? (d ++ a)) w ≡ some a_dir → Way d a
    lacking : (c e : Path) → a ≡ c ++ e → answer (kind? (d ++ c)) w ≡ none → Way d a

  way_on : (d a : Path) (x : Name) → Way (d ++ (x ∷ [])) a → Way d (x ∷ a)
  way_on d a x (through h) = through (rw append_assoc at h)
  way_on d a x (lacking c e y h) = lacking (x ∷ c) e (ap (◌∷◌ x) y) (rw append_assoc at h)

  -- a walk that meets no link before the last name
  pub ways : (a : Path) (x : Name) (r d : Path) (m : End) → run (until_symlink d (a ++ (x ∷ r))) w ≡ done (ends m) w → Way d a
  unfolding until_symlink onward ◌>>=◌ run
  ways [] x r d m h = go (answer (kind? d) w) refl h
    where
      go : (k : Option Kind) → answer (kind? d) w ≡ k → run (onward d (x ∷ r) k) w ≡ done (ends m) w → Way d []
      go none y h = lacking [] [] refl (rw append-nil y)
      go (some a_dir) y h = through (rw append-nil y)
      go (some aFile) y h = absurd (let z : ◌≡◌ {A = ℕ} 0 1 = cc in omega arith)
      go (some a_link) y h = absurd (let z : ◌≡◌ {A = ℕ} 0 1 = cc in omega arith)
  ways (c ∷ a) x r d m h = go (answer (kind? d) w) refl h (ways a x r (d ++ (c ∷ [])) m)
    where
      go : (k : Option Kind) → answer (kind? d) w ≡ k → run (onward d (c ∷ (a ++ (x ∷ r))) k) w ≡ done (ends m) w →
          (run (until_symlink (d ++ (c ∷ [])) (a ++ (x ∷ r))) w ≡ done (ends m) w → Way (d ++ (c ∷ [])) a) → Way d (c ∷ a)
      go none y h ih = lacking [] (c ∷ a) refl (rw append-nil y)
      go (some a_dir) y h ih = way_on d a c (ih h)
      go (some aFile) y h ih = absurd (let z : ◌≡◌ {A = ℕ} 0 1 = cc in omega arith)
      go (some a_link) y h ih = absurd (let z : ◌≡◌ {A = ℕ} 0 1 = cc in omega arith)

  -- where only directories have entries
  module _ (parents : (p : Path) (x : Name) (n : Node) → look w.at (p ++ (x ∷ [])) ≡ some n → (m : Meta) × (look w.at p ≡ some (dir m))) where
    above : (a r : Path) (n : Node) → look w.at (a ++ r) ≡ some n → (m : Node) × (look w.at a ≡ some m)
    above a [] n h = (n, rw append-nil at h)
    above a (x ∷ r) n h =
        let k = above (a ++ (x ∷ [])) r n (rw append_assoc h) in
        let j = parents a x k.0 k.1 in
        (dir j.0, j.1)

    -- of what a lookup tells, found or missing, each name before the last is a directory if it stands
    pub directories : (b : ℕ) (p : Path) (v : Where) (u : World) → run (lookup b p) w ≡ done v u → (a : Path) (x : Name) (r : Path) → v.path ≡ a ++ (x ∷ r) →
        (n : Node) → look w.at a ≡ some n → (m : Meta) × (n ≡ dir m)
    unfolding answer node_kind
    directories b p v u ran a x r e n y = go (ways a x r [] _ (ap (λ (q : Path). run (until_symlink [] q) w) (sym e) ∙ (tracks b p v u ran).1.again))
      where
        is-dir : (n : Node) → node_kind n ≡ a_dir → (m : Meta) × (n ≡ dir m)
        is-dir (dir m) h = (m, refl)
        is-dir (file i) h = absurd (let z : ◌≡◌ {A = ℕ} 0 1 = cc in omega arith)
        is-dir (link m s) h = absurd (let z : ◌≡◌ {A = ℕ} 0 1 = cc in omega arith)

        go : Way [] a → (m : Meta) × (n ≡ dir m)
        go (through h) = is-dir n (let z = rw (y, on_some) at h in cc)
        go (lacking c l k h) = absurd (let z = rw ((above c l n (rw (← k) y)).1, on_some) at h in let z : ◌≡◌ {A = ℕ} 0 1 = cc in omega arith)
