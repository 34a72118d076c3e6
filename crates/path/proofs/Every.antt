-- A property of every name of a list: what holds of the pieces of a text and of a directory's names holds of the path's.
-- Assumes nothing.
use mathlib.Core.Bool.{Bool, true, false, cond}
use mathlib.Core.List.{List, [], ◌∷◌, ◌++◌, drop_last}
use Rattle.path.specs.Path.{Name, vanishes, is_up, keep, norm}

-- a property of every name of a list
abbrev pub Every : (Name → Type 0) → List Name → Type 0
Every P [] = Unit {0}
Every P (n ∷ ns) = P n × Every P ns

module _ (P : Name → Type 0) where
  pub every_append : (x y : List Name) → Every P x → Every P y → Every P (x ++ y)
  every_append [] y h k = k
  every_append (n ∷ x) y h k = (h.0, every_append x y h.1 k)

  -- what holds of every name of both parts, and only that, holds of every name of the whole
  pub every_first : (x y : List Name) → Every P (x ++ y) → Every P x
  every_first [] y h = tt
  every_first (n ∷ x) y h = (h.0, every_first x y h.1)

  pub every-second : (x y : List Name) → Every P (x ++ y) → Every P y
  every-second [] y h = h
  every-second (n ∷ x) y h = every-second x y h.1

  pub every-drop_last : (ns : List Name) → Every P ns → Every P (drop_last ns)
  every-drop_last [] h = tt
  every-drop_last (n ∷ []) h = tt
  every-drop_last (n ∷ m ∷ ns) h = (h.0, every-drop_last (m ∷ ns) h.1)

  -- what holds of the pieces holds of the names
  pub every-keep : (ns : List Name) → Every P ns → Every P (keep ns)
  unfolding keep
  every-keep [] h = tt
  every-keep (n ∷ ns) h = every_append (cond (vanishes n) [] (n ∷ [])) (keep ns) (go (vanishes n)) (every-keep ns h.1)
    where
      go : (t : Bool) → Every P (cond t [] (n ∷ []))
      go true = tt
      go false = (h.0, tt)

  -- and of the names behind a directory of whose names it holds
  pub every-norm : (base ns : List Name) → Every P base → Every P ns → Every P (norm base ns)
  unfolding norm
  every-norm base [] b h = b
  every-norm base (n ∷ ns) b h = every-norm (cond (is_up n) (drop_last base) (base ++ (n ∷ []))) ns (go (is_up n)) h.1
    where
      go : (t : Bool) → Every P (cond t (drop_last base) (base ++ (n ∷ [])))
      go true = every-drop_last base b
      go false = every_append base (n ∷ []) b (h.0, tt)
