-- Rename's edits are allowed where they are made. The walk of the new path was not refused, so its directory, in the tree without
-- the old entry, is one, or is missing and made: at a file the walk would have stopped.
-- Assumes nothing.
use mathlib.Core.Bool.{Bool, true, false, ◌&&◌, not}
use mathlib.Core.List.{[], ◌∷◌, ◌++◌}
use mathlib.Core.Option.{Option, some}
use mathlib.Core.Path.{◌≡◌, refl, ap, ◌∙◌, subst}
use Prim.Native.Nat.{ℕ}
use lib.Dec.{T}
use Rattle.model.specs.Tree.{Path, Time, Node, look, same_path, behind}
use Rattle.model.specs.Prog.{World, Kind, a_dir, aFile, a_link, take, give, apply, ◌>>=◌, ◌>>◌, done, run}
use Rattle.model.specs.Lookup.{Where, lookup}
use Rattle.model.specs.Operations.{Parted, fresh_dir, is_dir, is_some, take_then_make, rename_apart, rename_by, rename_at}
use Rattle.model.specs.Rules.{path_ok}
use Rattle.model.specs.Passable.{Signed64}
use Rattle.model.proofs.Sound.Worlds.{IsDir, Sound}
use Rattle.model.proofs.Sound.Entries.{cut_some, snoc-root, names_both}
use Rattle.model.proofs.Sound.Edits.{sound-edit}
use Rattle.model.proofs.Sound.Paths.{path_names}
use Rattle.model.proofs.Sound.Lookups.{lookup-says}
use Rattle.model.proofs.Sound.Parts.{Fine, dir-ok, below-dir, need-quiet, replaces-quiet, Parts, parted-says, found-says, leads-says, last_entry-says, made}
use Rattle.model.proofs.Lookups.Lands.{Barred, lands}
use Rattle.model.proofs.Sound.Meets.{gives, edited, then, bind, also, told}

-- an entry that is no file and no link is a directory
no_other : (o : Option Kind) → (o ≡ some a_link → ⊥) → (o ≡ some aFile → ⊥) → (k : Kind) → o ≡ some k → k ≡ a_dir
no_other o l f a_dir e = refl
no_other o l f aFile e = absurd (f e)
no_other o l f a_link e = absurd (l e)

module _ (w : World) (s : Sound w) (b : ℕ) (t : Time) (tk : Signed64 t) where
  -- q is the new path, whose walk gave a
  take_then_make-fine : (old q : Path) (m : Parted) → Parts q m → (a : Where) → run (lookup b q) w ≡ done a w → Fine (take_then_make b old m t) w
  unfolding take_then_make apply ◌>>◌ ◌>>=◌
  take_then_make-fine old q m e a r =
      edited {e = take old} tt
      (then (also (found-says v u b m.before e.before) (lands v w sees m.name b m.before)) λ c z.
      bind (made (fresh_dir t) c.path v (dir-ok t tk) c.kind z.0) λ _ o i.
      let d : IsDir o.at c.path = i (no_other c.kind z.0.no_link (λ y. barred (z.1 y b))) in
      edited {e = give (c.path ++ (m.name ∷ []))} (
        names_both c.path (m.name ∷ []) (path_names c.path z.0.path) e.name,
        snoc-root c.path m.name,
        below-dir o.at c.path m.name d,
      ) (gives tt))
    where
      v : World
      v = apply (take old) w

      u : Sound v
      u = sound-edit (take old) w s tt

      sees : (k : Path) (n : Node) → look v.at k ≡ some n → look w.at k ≡ some n
      sees k n y = (cut_some old w.at k n y).1

      barred : Barred (run (lookup b (m.before ++ (m.name ∷ []))) w) → ⊥
      barred h = subst Barred (ap (λ (k : Path). run (lookup b k) w) e.all ∙ r) h

  rename_apart-fine : (p q : Path) → T (path_ok p) → T (path_ok q) → Fine (rename_apart b t p q) w
  unfolding rename_apart ◌>>◌
  rename_apart-fine p q pk qk =
      then (parted-says w p pk) λ _ _.
      then (parted-says w q qk) λ m f.
      then (leads-says w s b p) λ c _.
      then (need-quiet w (not (is_dir c.kind && is_some (behind p q))) 11) λ _ _.
      then (told (lookup-says w s b q)) λ a z.
      then (replaces-quiet w c.kind a.path a.kind) λ _ _.
      then (last_entry-says w s b p pk) λ o _.
      bind (take_then_make-fine o.path q m f a z.1) λ _ _ _.
      gives tt

  -- rename's edits: the old entry is out, directories are made, and the entry is put below one
  pub rename-fine : (p q : Path) → T (path_ok p) → T (path_ok q) → Fine (rename_at b t p q) w
  unfolding rename_at rename_by
  rename-fine p q pk qk = go (same_path p q)
    where
      go : (c : Bool) → Fine (rename_by c b t p q) w
      go true = gives tt
      go false = rename_apart-fine p q pk qk
