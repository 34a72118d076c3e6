-- Where a lookup leads: every name on the way to its answer that stands in the tree is a directory. A walk goes through
-- directories only, and below a missing name nothing stands.
-- Assumes nothing.
use mathlib.Core.List.{List, [], ◌∷◌, ◌++◌, append-nil, append_assoc}
use mathlib.Core.Logic.{◌⊎◌, inl, inr}
use mathlib.Core.Option.{Option, none, some}
use mathlib.Core.Path.{◌≡◌, refl, sym, ap, ◌∙◌, subst}
use Prim.Native.Nat.{ℕ, zero, suc}
use native.Mathlib.Omega.{arith}
use lib.ListN.{length, length-append}
use Rattle.path.specs.Path.{Name}
use Rattle.model.specs.Tree.{Path, Meta, Node, dir, file, link, Entries, look}
use Rattle.model.specs.Prog.{World, Kind, node_kind, Prog, ◌>>=◌, done, run}
use Rattle.model.specs.Lookup.{End, found, missing, last_link, Met, ends, mid_link, arrived, onward, until_symlink, behind_link, Where, reached, following, lookup}
use Rattle.model.proofs.Entries.{clash, some_inj}
use Rattle.model.proofs.Lookups.Pure.{no_answer, same_answer, bind_done, pure-behind, chain}
use Rattle.model.proofs.Lookups.Beside.{kind_in, until-step, until_end}
use Rattle.model.proofs.Lookups.Counting.{goes-ends, following_first}

-- ---- where the walk of a lookup ends

-- what the last walk of a lookup met
abbrev pub met_at : Path → Option Kind → End
met_at p none = missing p
met_at p (some k) = found p k

-- the answer is where the walk of some path ends
abbrev pub Ends : World → Where → Type 0
Ends w y = (q : Path) × (run (until_symlink [] q) w ≡ done (ends (met_at y.path y.kind)) w)

reached-ends : (w : World) (m : End) (ls : List Path) (f : Path → Prog Where) {y : Where} {v : World} (q : Path)
    → run (until_symlink [] q) w ≡ done (ends m) w
    → run (reached m ls f) w ≡ done y v → ((d : Path) → run (f d) w ≡ done y v → Ends w y) → Ends w y
unfolding reached run
reached-ends w (found d k) ls f {y} q r h on =
    (q, r ∙ ap (λ (u : Where). done (ends (met_at u.path u.kind)) w) (same_answer h))
reached-ends w (missing d) ls f {y} q r h on =
    (q, r ∙ ap (λ (u : Where). done (ends (met_at u.path u.kind)) w) (same_answer h))
reached-ends w (last_link d) ls f q r h on = on d h

-- of every lookup that is not refused
pub lookup-ends : (w : World) (b : ℕ) (p : Path) (ls : List Path) {y : Where} {v : World}
    → run (following b p ls) w ≡ done y v → Ends w y
unfolding run
lookup-ends w zero p ls h =
    let a = following_first w 0 p ls h in
    let e = goes-ends a.1.goes in
    reached-ends w a.0.end a.0.links (chain 0 a.0.links) e.0 e.1 a.2 λ d i. no_answer i
lookup-ends w (suc b) p ls h =
    let a = following_first w (suc b) p ls h in
    let e = goes-ends a.1.goes in
    let us : List Path = a.0.links in
    reached-ends w a.0.end us (chain (suc b) us) e.0 e.1 a.2 λ d i.
    let c = bind_done (behind_link d []) (λ q. following b q (us ++ (d ∷ []))) w (pure-behind d []) i in
    lookup-ends w b c.0 (us ++ (d ∷ [])) c.2

-- ---- the names on the way

-- the entries of a tree stand in directories
abbrev pub Parents : Entries → Type 0
Parents t = (p : Path) (x : Name) (n : Node) → look t (p ++ (x ∷ [])) ≡ some n → (m : Meta) × (look t p ≡ some (dir m))

-- every proper front of the path that stands is a directory
abbrev pub Passes : Entries → Path → Type 0
Passes t p = (z : Path) (y : Name) (e : Path) (n : Node) → p ≡ z ++ (y ∷ e) → look t z ≡ some n → (m : Meta) × (n ≡ dir m)

-- of two fronts of a path one is a front of the other
fronts : (d r z e : Path) → d ++ r ≡ z ++ e → ((f : Path) × (z ≡ d ++ f)) ⊎ ((y : Name) × (f : Path) × (d ≡ z ++ (y ∷ f)))
fronts [] r z e h = inl (z, refl)
fronts (a ∷ d) r [] e h = inr (a, d, refl)
fronts (a ∷ d) r (b ∷ z) e h = let i : a ≡ b = cc in let j : d ++ r ≡ z ++ e = cc in go i (fronts d r z e j)
  where
    go : a ≡ b → ((f : Path) × (z ≡ d ++ f)) ⊎ ((y : Name) × (f : Path) × (d ≡ z ++ (y ∷ f)))
        → ((f : Path) × (b ∷ z ≡ (a ∷ d) ++ f)) ⊎ ((y : Name) × (f : Path) × (a ∷ d ≡ (b ∷ z) ++ (y ∷ f)))
    go i (inl o) = let j : z ≡ d ++ o.0 = o.1 in inl (o.0, cc)
    go i (inr o) = let j : d ≡ z ++ (o.0 ∷ o.1) = o.2 in inr (o.0, o.1, cc)

module _ (t : Entries) where
  passes-nil : Passes t []
  passes-nil [] y e n h l = absurd (let z : ◌≡◌ {A = ℕ} 0 1 = cc in omega arith)
  passes-nil (a ∷ z) y e n h l = absurd (let z : ◌≡◌ {A = ℕ} 0 1 = cc in omega arith)

  passes-snoc : (d : Path) (x : Name) (a : Meta) → look t d ≡ some (dir a) → Passes t d → Passes t (d ++ (x ∷ []))
  passes-snoc d x a s p z y e n h l = go (fronts d (x ∷ []) z (y ∷ e) h)
    where
      at : (f : Path) → z ≡ d ++ f → (m : Meta) × (n ≡ dir m)
      at [] i = (a, some_inj (sym l ∙ ap (look t) (i ∙ append-nil d) ∙ s))
      at (c ∷ f) i = absurd (omega (arith, simp length-append at (ap length h), simp length-append at (ap length i)))

      go : ((f : Path) × (z ≡ d ++ f)) ⊎ ((y : Name) × (f : Path) × (d ≡ z ++ (y ∷ f))) → (m : Meta) × (n ≡ dir m)
      go (inl o) = at o.0 o.1
      go (inr o) = p z o.0 o.1 n o.2 l

  -- what stands, stands in what stands
  stands_in : Parents t → (d f : Path) (n : Node) → look t (d ++ f) ≡ some n → (m : Node) × (look t d ≡ some m)
  stands_in up d [] n l = (n, rw append-nil at l)
  stands_in up d (a ∷ f) n l =
      let i = stands_in up (d ++ (a ∷ [])) f n (ap (look t) (append_assoc d (a ∷ []) f) ∙ l) in
      let j = up d a i.0 i.1 in
      (dir j.0, j.1)

  passes-missing : Parents t → (d r : Path) → look t d ≡ none → Passes t d → Passes t (d ++ r)
  passes-missing up d r s p z y e n h l = go (fronts d r z (y ∷ e) h)
    where
      go : ((f : Path) × (z ≡ d ++ f)) ⊎ ((y : Name) × (f : Path) × (d ≡ z ++ (y ∷ f))) → (m : Meta) × (n ≡ dir m)
      go (inl o) = let i = stands_in up d o.0 n (ap (look t) (sym o.1) ∙ l) in clash (look t d) i.0 s i.1
      go (inr o) = p z o.0 o.1 n o.2 l

  -- below a missing name nothing stands
  none_below : Parents t → (d r : Path) → look t d ≡ none → look t (d ++ r) ≡ none
  none_below up d r s = go (look t (d ++ r)) refl
    where
      go : (o : Option Node) → look t (d ++ r) ≡ o → look t (d ++ r) ≡ none
      go none e = e
      go (some n) e = let i = stands_in up d r n e in clash (look t d) i.0 s i.1

-- an answer with the way to it: the kind is that of what stands there
pub record Reaches (t : Entries) (p : Path) (k : Option Kind) : Type 0 where
  pub passes : Passes t p
  pub kind : kind_in (look t p) ≡ k

-- what a walk met, if it ended at no link
abbrev MetReaches : Entries → Met → Type 0
MetReaches t (ends (found d k)) = Reaches t d (some k)
MetReaches t (ends (missing d)) = Reaches t d none
MetReaches t (ends (last_link d)) = Unit {0}
MetReaches t (mid_link d r) = Unit {0}

module _ (w : World) (up : Parents w.at) where
  until-reaches : (d : Path) (r : List Name) {m : Met} {v : World} → Passes w.at d
      → run (until_symlink d r) w ≡ done m v → MetReaches w.at m
  unfolding arrived until_symlink onward run ◌>>=◌ node_kind
  until-reaches d [] {m} {v} p h =
      subst (MetReaches w.at) (same_answer (sym (until_end w d refl) ∙ h)) (go (look w.at d) refl)
    where
      go : (o : Option Node) → look w.at d ≡ o → MetReaches w.at (ends (arrived d (kind_in o)))
      go none l = record { passes = p; kind = ap kind_in l }
      go (some (dir a)) l = record { passes = p; kind = ap kind_in l }
      go (some (file j)) l = record { passes = p; kind = ap kind_in l }
      go (some (link a s)) l = tt
  until-reaches d (x ∷ r) {m} {v} p h =
      go (look w.at d) refl (sym (until-step w d x r refl) ∙ h) (until-reaches (d ++ (x ∷ [])) r)
    where
      go : (o : Option Node) → look w.at d ≡ o → run (onward d (x ∷ r) (kind_in o)) w ≡ done m v
          → (Passes w.at (d ++ (x ∷ [])) → run (until_symlink (d ++ (x ∷ [])) r) w ≡ done m v → MetReaches w.at m)
          → MetReaches w.at m
      go none l e ih = subst (MetReaches w.at) (same_answer e) (record {
        passes = passes-missing w.at up d (x ∷ r) l p;
        kind = ap kind_in (none_below w.at up d (x ∷ r) l);
      })
      go (some (dir a)) l e ih = ih (passes-snoc w.at d x a l p) e
      go (some (file j)) l e ih = no_answer e
      go (some (link a s)) l e ih = subst (MetReaches w.at) (same_answer e) tt

  -- the answer of a lookup has the kind of what stands there, and directories before it
  pub lookup-reaches : (b : ℕ) (p : Path) {y : Where} {v : World}
      → run (lookup b p) w ≡ done y v → Reaches w.at y.path y.kind
  lookup-reaches b p {y} h = let e = lookup-ends w b p [] h in go y.kind (until-reaches [] e.0 (passes-nil w.at) e.1)
    where
      go : (k : Option Kind) → MetReaches w.at (ends (met_at y.path k)) → Reaches w.at y.path k
      go none m = m
      go (some k) m = m
