-- The kind of a piece, by its length and its first two bytes.
-- Assumes nothing.
use mathlib.Core.Bool.{Bool, true, false, ◌&&◌}
use mathlib.Core.List.{[], ◌∷◌}
use mathlib.Core.Path.{◌≡◌, refl}
use Prim.Native.Nat.{◌<◌}
use native.Mathlib.Omega.{arith}
use lib.Dec.{eqb}
use lib.ListN.{length, get_or}
use borrow.Author.Tests.{ne_eqb}
use Rattle.path.specs.Path.{Name, same, vanishes, is_up}
use Rattle.path.specs.Backward.{kind_by, kind_of}
use Rattle.path.specs.declared.pieces.Piece.TheVariants as kind

module _ (strike : Bool) where
  pub kind_none : (n : Name) → length n ≡ 0 → kind_of strike n ≡ kind.Vanishes
  unfolding kind_of vanishes same
  kind_none [] h = refl
  kind_none (b ∷ n) h = absurd (omega arith)

  pub kind-long : (n : Name) → 2 < length n → kind_of strike n ≡ kind.Name
  unfolding kind_of vanishes is_up same
  kind-long [] l = absurd (omega arith)
  kind-long (b ∷ []) l = absurd (omega arith)
  kind-long (b ∷ c ∷ []) l = absurd (omega arith)
  kind-long (b ∷ c ∷ d ∷ n) l = go (eqb b 46) (eqb c 46)
    where
      go : (t u : Bool) → kind_by strike (t && false) (t && (u && false)) ≡ kind.Name
      go true true = refl
      go true false = refl
      go false u = refl

  pub kind_other : (n : Name) → 0 < length n → (get_or n 0 0 ≡ 46 → ⊥) → kind_of strike n ≡ kind.Name
  unfolding kind_of vanishes is_up same
  kind_other [] l h = absurd (omega arith)
  kind_other (b ∷ []) l h = rw (ne_eqb b 46 h)
  kind_other (b ∷ c ∷ n) l h = rw (ne_eqb b 46 h)

  pub kind-dot : (n : Name) → length n ≡ 1 → get_or n 0 0 ≡ 46 → kind_of strike n ≡ kind.Vanishes
  unfolding kind_of vanishes is_up same
  kind-dot [] l h = absurd (omega arith)
  kind-dot (b ∷ []) l h = rw h
  kind-dot (b ∷ c ∷ n) l h = absurd (omega arith)

  pub kind_two : (n : Name) → length n ≡ 2 → (get_or n 1 0 ≡ 46 → ⊥) → kind_of strike n ≡ kind.Name
  unfolding kind_of vanishes is_up same
  kind_two [] l k = absurd (omega arith)
  kind_two (b ∷ []) l k = absurd (omega arith)
  kind_two (b ∷ c ∷ []) l k = rw (ne_eqb c 46 k) (go (eqb b 46))
    where
      go : (t : Bool) → kind_by strike (t && false) (t && false) ≡ kind.Name
      go true = refl
      go false = refl
  kind_two (b ∷ c ∷ d ∷ n) l k = absurd (omega arith)

  kind_up : (n : Name) → length n ≡ 2 → get_or n 0 0 ≡ 46 → get_or n 1 0 ≡ 46 → kind_of strike n ≡ kind_by strike false true
  unfolding kind_of vanishes is_up same
  kind_up [] l h k = absurd (omega arith)
  kind_up (b ∷ []) l h k = absurd (omega arith)
  kind_up (b ∷ c ∷ []) l h k = rw (h, k)
  kind_up (b ∷ c ∷ d ∷ n) l h k = absurd (omega arith)

pub kind-struck : (strike : Bool) (n : Name) → length n ≡ 2 → get_or n 0 0 ≡ 46 → get_or n 1 0 ≡ 46 → strike ≡ true → kind_of strike n ≡ kind.Drops
kind-struck strike n l h k e = rw e (kind_up true n l h k)

pub kind-named : (strike : Bool) (n : Name) → length n ≡ 2 → get_or n 0 0 ≡ 46 → get_or n 1 0 ≡ 46 → strike ≡ false → kind_of strike n ≡ kind.Name
kind-named strike n l h k e = rw e (kind_up false n l h k)

pub up_length : (strike : Bool) (n : Name) → kind_of strike n ≡ kind.Drops → length n ≡ 2
unfolding kind_of vanishes is_up same
up_length strike [] h = absurd cc
up_length strike (b ∷ []) h = absurd (go strike (eqb b 46) h)
  where
    go : (s t : Bool) → kind_by s (t && true) (t && false) ≡ kind.Drops → ⊥
    go s true e = cc
    go s false e = cc
up_length strike (b ∷ c ∷ []) h = refl
up_length strike (b ∷ c ∷ d ∷ n) h = absurd (cc (kind-long strike (b ∷ c ∷ d ∷ n) (omega arith)))

-- what a piece is, by what it is seen to begin with
pub ruleset kinds = (kind_none, kind-long, kind_other, kind-dot, kind_two, kind-struck, kind-named)
