-- Rename: once the old entry is out nothing is refused. The one lookup that follows is that of the new path without its last
-- name, in the tree without the old entry, and the new path's own walk was not refused.
-- Assumes nothing.
use mathlib.Core.Bool.{Bool, true, false, ◌&&◌, not}
use mathlib.Core.List.{[], ◌∷◌, ◌++◌, drop_last, append_assoc}
use mathlib.Core.Logic.{◌⊎◌, inl, inr}
use mathlib.Core.Option.{Option, none, some}
use mathlib.Core.Path.{◌≡◌, refl, sym, ap, ◌∙◌}
use Prim.Native.Nat.{ℕ, ◌≤◌}
use native.Mathlib.Omega.{arith}
use Rattle.text.specs.Utf8.{Bytes}
use Rattle.path.specs.Path.{Name, last_name}
use Rattle.model.specs.Tree.{Path, Time, Meta, dir, Entries, same_path, look, behind, cut, links_in}
use Rattle.model.specs.Prog.{World, a_dir, take, give, edits, apply, Prog, ◌>>=◌, ◌>>◌, done, run}
use Rattle.model.specs.Lookup.{Where, lookup}
use Rattle.model.specs.Operations as O
use Rattle.model.proofs.Entries.{clash, behind-self, behind_is, cut_in, cut_out}
use Rattle.model.proofs.Lookups.Pure.{no_answer, same_answer, bind-run, pure-need}
use Rattle.model.proofs.Lookups.Beside.{Within}
use Rattle.model.proofs.Lookups.Counting.{following_first}
use Rattle.model.proofs.Lookups.LinkCount.{links-cut}
use Rattle.model.proofs.Lookups.Landing.{Lands, parent-lands}
use Rattle.model.proofs.Lookups.Passing.{Parents, Reaches, lookup-reaches}
use Rattle.model.proofs.Refusals.Careful.{is_refused, late, NeverStops, never-ret, never-edits, never-bind, never-refused, refused_then, accepted-never-late, late-bind}
use Rattle.model.proofs.Refusals.Tests.{pure-lookup, pure-absolute, pure-parted, pure-leads, pure-last_entry, pure-replaces, never-make_missing}

-- ---- the tree without an entry and all below it

within_cut : (p : Path) (t : Entries) → Within (cut p t) t
within_cut p t z = go (behind p z) refl
  where
    go : (o : Option Path) → behind p z ≡ o → (look (cut p t) z ≡ none) ⊎ (look (cut p t) z ≡ look t z)
    go none e = inr (cut_out p z t e)
    go (some r) e = inl (cut_in p z r t e)

-- its entries stand in directories too
pub parents-cut : (p : Path) (t : Entries) → Parents t → Parents (cut p t)
parents-cut p t up z x n l = outer (behind p (z ++ (x ∷ []))) refl
  where
    inner : behind p (z ++ (x ∷ [])) ≡ none → (m : Meta) → look t z ≡ some (dir m) → (o : Option Path) → behind p z ≡ o
        → look (cut p t) z ≡ some (dir m)
    inner e m k none i = cut_out p z t i ∙ k
    inner e m k (some r) i =
        let j : z ++ (x ∷ []) ≡ p ++ (r ++ (x ∷ [])) = ap (λ (y : Path). y ++ (x ∷ [])) (behind_is p z r i) ∙ append_assoc p r (x ∷ []) in
        clash (behind p (z ++ (x ∷ []))) (r ++ (x ∷ [])) e (ap (behind p) j ∙ behind-self p (r ++ (x ∷ [])))

    outer : (o : Option Path) → behind p (z ++ (x ∷ [])) ≡ o → (m : Meta) × (look (cut p t) z ≡ some (dir m))
    outer none e = let u = up z x n (sym (cut_out p (z ++ (x ∷ [])) t e) ∙ l) in (u.0, inner e u.0 u.1 (behind p z) refl)
    outer (some r) e = clash (look (cut p t) (z ++ (x ∷ []))) n (cut_in p (z ++ (x ∷ [])) r t e) l

-- ---- the lookup after the take

last_apart : (x : Name) (p : Path) → x ∷ p ≡ drop_last (x ∷ p) ++ (last_name (x ∷ p) ∷ [])
unfolding last_name
last_apart x [] = refl
last_apart x (y ∷ p) = ap (◌∷◌ x) (last_apart y p)

-- a path is its front and its last name
pub parted_is : (q : Path) (w : World) {m : O.Parted} {v : World}
    → run (O.parted q) w ≡ done m v → q ≡ m.before ++ (m.name ∷ [])
unfolding O.parted run
parted_is [] w h = no_answer h
parted_is (x ∷ p) w {m} h =
    last_apart x p ∙ ap (λ (u : O.Parted). u.before ++ (u.name ∷ [])) (same_answer h)

-- a directory, or missing
abbrev pub NoFile : Where → Type 0
NoFile y = (y.kind ≡ none) ⊎ (y.kind ≡ some a_dir)

module _ (w : World) (b : ℕ) (few : links_in w.at ≤ b) (q : Path) {m : O.Parted} (cut_at : run (O.parted q) w ≡ done m w)
    {y : Where} (walk : run (lookup b q) w ≡ done y w) (old : Path) where
  -- it is not refused and ends at no file
  pub take-lands : Lands (apply (take old) w) NoFile (lookup b m.before)
  unfolding apply
  take-lands =
      let a = following_first w b (m.before ++ (m.name ∷ [])) [] (rw (parted_is q w cut_at) at walk) in
      parent-lands w (apply (take old) w) a.0.end m.name (within_cut old w.at)
      NoFile (λ r z n ls g e. inl refl) (λ r d n ls g e. inr refl)
      b m.before a.1.count a.1.goes a.1.few (omega (arith, links-cut old w.at))

  -- and every front of its answer that stands, proper or not, is a directory
  pub rename-lands : Parents w.at
      → (l : Lands (apply (take old) w) NoFile (lookup b m.before))
      × Reaches (apply (take old) w).at l.found.path l.found.kind
  unfolding apply
  rename-lands up = (take-lands, lookup-reaches (apply (take old) w) (parents-cut old w.at up) b m.before take-lands.runs)

  -- once the old entry is out nothing is refused
  pub take-goes_on : (t : Time) → is_refused (run (O.take_then_make b old m t) w) ≡ false
  unfolding run O.take_then_make ◌>>=◌ ◌>>◌
  take-goes_on t = ap is_refused (bind-run (lookup b m.before) rest v v take-lands.runs) ∙ never-refused (rest at) v steady
    where
      v : World
      v = apply (take old) w

      at : Where
      at = take-lands.found

      rest : Where → Prog (Unit {0})
      rest u = O.make_missing (O.fresh_dir t) [] u.path >> edits (give (u.path ++ (m.name ∷ [])))

      steady : NeverStops (rest at)
      steady = never-bind _ _ (never-make_missing (O.fresh_dir t) [] at.path) (λ _. never-edits (give (at.path ++ (m.name ∷ []))))

-- ---- the whole call

late-apart : (b : ℕ) (t : Time) (p q : Path) (w : World) → links_in w.at ≤ b → late (O.rename_apart b t p q) w ≡ false
unfolding O.rename_apart ◌>>◌
late-apart b t p q w few =
    late-bind _ _ w (pure-parted p) λ _ _.
    late-bind _ _ w (pure-parted q) λ m cut_at.
    late-bind _ _ w (pure-leads b p) λ v _.
    late-bind _ _ w (pure-need (not (O.is_dir v.kind && O.is_some (behind p q))) 11) λ _ _.
    late-bind _ _ w (pure-lookup b q) λ y walk.
    late-bind _ _ w (pure-replaces v.kind y.path y.kind) λ _ _.
    late-bind _ _ w (pure-last_entry b p) λ o _.
    accepted-never-late _ w (refused_then _ _ w (take-goes_on w b few q cut_at walk o.path t) λ _. never-ret _)

-- no refusal comes after an edit
pub late-rename : (b : ℕ) (s d : Bytes) (t : Time) (w : World) → links_in w.at ≤ b → late (O.on_paths s d (O.rename_at b t)) w ≡ false
unfolding O.on_paths O.rename_at O.rename_by late
late-rename b s d t w few =
    late-bind _ _ w (pure-absolute s) λ p _. late-bind _ _ w (pure-absolute d) λ q _. go p q (same_path p q)
  where
    go : (p q : Path) (e : Bool) → late (O.rename_by e b t p q) w ≡ false
    go p q true = refl
    go p q false = late-apart b t p q w few
