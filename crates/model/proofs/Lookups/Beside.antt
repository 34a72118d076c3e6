-- A path's walk without its last name, in a tree with fewer entries: name by name it stands where the walk of the whole path
-- stands in the whole tree, until a name is missing. A file on the way, or at its end, would have stopped the whole path's walk.
-- Assumes nothing.
use mathlib.Core.List.{List, [], ◌∷◌, ◌++◌}
use mathlib.Core.Logic.{◌⊎◌, inl, inr}
use mathlib.Core.Option.{Option, none, some}
use mathlib.Core.Path.{◌≡◌, refl, sym, ap, ◌∙◌}
use Rattle.text.specs.Utf8.{Bytes}
use Rattle.path.specs.Path.{Name}
use Rattle.model.specs.Tree.{Path, Meta, Node, dir, file, link, Entries, look}
use Rattle.model.specs.Prog.{World, Kind, a_dir, on_some, node_kind, answer, ◌>>=◌, done, run}
use Rattle.model.specs.Lookup.{found, missing, last_link, Met, ends, mid_link, arrived, onward, until_symlink}
use Rattle.model.proofs.Lookups.Pure.{no_answer}

-- the first tree has no entry that the second has not
abbrev pub Within : Entries → Entries → Type 0
Within u t = (z : Path) → (look u z ≡ none) ⊎ (look u z ≡ look t z)

-- where the shorter walk ended, in the tree u, beside where the whole one did
pub data Beside (u : Entries) (x : Name) (whole shorter : Met) : Type 0 where
  gone : (z : Path) → shorter ≡ ends (missing z) → Beside u x whole shorter
  stands : (d : Path) → shorter ≡ ends (found d a_dir) → Beside u x whole shorter
  last : (d : Path) (a : Meta) (s : Bytes) → look u d ≡ some (link a s)
      → whole ≡ mid_link d (x ∷ []) → shorter ≡ ends (last_link d) → Beside u x whole shorter
  mid : (d : Path) (g : List Name) (a : Meta) (s : Bytes) → look u d ≡ some (link a s)
      → whole ≡ mid_link d (g ++ (x ∷ [])) → shorter ≡ mid_link d g → Beside u x whole shorter

-- the shorter walk is not refused
pub record Follows (v : World) (x : Name) (d : Path) (g : List Name) (whole : Met) : Type 0 where
  pub met : Met
  pub runs : run (until_symlink d g) v ≡ done met v
  pub beside : Beside v.at x whole met

-- the kind of what a look finds
abbrev pub kind_in : Option Node → Option Kind
kind_in o = on_some o (λ n. some (node_kind n))

-- a step of a walk, by what stands at its place
pub until-step : (w : World) (d : Path) (x : Name) (r : List Name) {o : Option Node} → look w.at d ≡ o
    → run (until_symlink d (x ∷ r)) w ≡ run (onward d (x ∷ r) (kind_in o)) w
unfolding until_symlink run ◌>>=◌ answer
until-step w d x r l = ap (λ (o : Option Node). run (onward d (x ∷ r) (kind_in o)) w) l

-- the end of a walk, likewise
pub until_end : (w : World) (d : Path) {o : Option Node} → look w.at d ≡ o
    → run (until_symlink d []) w ≡ done (ends (arrived d (kind_in o))) w
unfolding until_symlink onward run ◌>>=◌ answer
until_end w d l = ap (λ (o : Option Node). done (ends (arrived d (kind_in o))) w) l

module _ (w v : World) (x : Name) (within : Within v.at w.at) where
  -- at the end of the shorter path
  at-end : (d : Path) {m : Met} {z : World} (o : Option Node) → look v.at d ≡ o
      → run (onward d (x ∷ []) (kind_in o)) w ≡ done m z → Follows v x d [] m
  unfolding run onward arrived node_kind
  at-end d none l h = record { met = ends (missing d); runs = until_end v d l; beside = gone d refl }
  at-end d (some (dir a)) l h = record { met = ends (found d a_dir); runs = until_end v d l; beside = stands d refl }
  at-end d (some (file i)) l h = no_answer h
  at-end d (some (link a s)) l h = record { met = ends (last_link d); runs = until_end v d l; beside = last d a s l (cc) refl }

  -- before it
  on_way : (d : Path) (y : Name) (g : List Name) {m : Met} {z : World} (o : Option Node) → look v.at d ≡ o
      → run (onward d (y ∷ (g ++ (x ∷ []))) (kind_in o)) w ≡ done m z
      → (run (until_symlink (d ++ (y ∷ [])) (g ++ (x ∷ []))) w ≡ done m z → Follows v x (d ++ (y ∷ [])) g m)
      → Follows v x d (y ∷ g) m
  unfolding run until_symlink onward ◌>>=◌ node_kind
  on_way d y g none l h ih = record { met = ends (missing (d ++ (y ∷ g))); runs = until-step v d y g l; beside = gone (d ++ (y ∷ g)) refl }
  on_way d y g (some (dir a)) l h ih =
      let f = ih h in record { met = f.met; runs = until-step v d y g l ∙ f.runs; beside = f.beside }
  on_way d y g (some (file i)) l h ih = no_answer h
  on_way d y g (some (link a s)) l h ih =
      record { met = mid_link d (y ∷ g); runs = until-step v d y g l; beside = mid d (y ∷ g) a s l (cc) refl }

  -- one walk, to the first link or the end
  pub follows : (d : Path) (g : List Name) {m : Met} {z : World}
      → run (until_symlink d (g ++ (x ∷ []))) w ≡ done m z → Follows v x d g m
  unfolding run onward arrived
  follows d [] {m} h = go (within d)
    where
      go : (look v.at d ≡ none) ⊎ (look v.at d ≡ look w.at d) → Follows v x d [] m
      go (inl e) = record { met = ends (missing d); runs = until_end v d e; beside = gone d refl }
      go (inr e) = at-end d (look v.at d) refl (sym (until-step w d x [] (sym e)) ∙ h)
  follows d (y ∷ g) {m} {z} h = go (within d) (follows (d ++ (y ∷ [])) g)
    where
      go : (look v.at d ≡ none) ⊎ (look v.at d ≡ look w.at d)
          → (run (until_symlink (d ++ (y ∷ [])) (g ++ (x ∷ []))) w ≡ done m z → Follows v x (d ++ (y ∷ [])) g m) → Follows v x d (y ∷ g) m
      go (inl e) ih = record { met = ends (missing (d ++ (y ∷ g))); runs = until-step v d y g e; beside = gone (d ++ (y ∷ g)) refl }
      go (inr e) ih = on_way d y g (look v.at d) refl (sym (until-step w d y (g ++ (x ∷ [])) (sym e)) ∙ h) ih
