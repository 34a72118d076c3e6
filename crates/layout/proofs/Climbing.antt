-- Entries whose paths rise: none of them has the path before the first, nor one before that, so each path stands once.
-- Assumes nothing.
use mathlib.Core.List.{[], ◌∷◌}
use mathlib.Core.Logic.{◌⊎◌, inl, inr}
use mathlib.Core.Option.{none}
use mathlib.Core.Path.{◌≡◌, refl, sym, ◌∙◌, subst}
use Rattle.model.specs.Tree.{Path, Entries, look}
use Rattle.model.proofs.Entries.{look_past, look_none, Apart}
use Rattle.layout.proofs.Rising.{Rises, rise-apart, rise_both}

-- each path is before the next, from that of p on
abbrev pub Climbs : Path → Entries → Type 0
Climbs p [] = Unit {0}
Climbs p (e ∷ t) = Rises p e.0 × Climbs e.0 t

abbrev pub Ascends : Entries → Type 0
Ascends [] = Unit {0}
Ascends (e ∷ t) = Climbs e.0 t

pub none_below : (p : Path) (t : Entries) → Climbs p t → (q : Path) → (q ≡ p) ⊎ Rises q p → look t q ≡ none
none_below p [] c q h = look_none q
none_below p (e ∷ t) c q h = look_past e t q (λ k. rise-apart q e.0 (up h) (sym k)) ∙ none_below e.0 t c.1 q (inr (up h))
  where
    up : (q ≡ p) ⊎ Rises q p → Rises q e.0
    up (inl k) = subst (λ (o : Path). Rises o e.0) (sym k) c.0
    up (inr r) = rise_both q p e.0 r c.0

pub climbs-apart : (p : Path) (t : Entries) → Climbs p t → Apart t
climbs-apart p [] c = tt
climbs-apart p (e ∷ t) c = (none_below e.0 t c.1 e.0 (inl refl), climbs-apart e.0 t c.1)

pub ascends-apart : (t : Entries) → Ascends t → Apart t
ascends-apart [] a = tt
ascends-apart (e ∷ t) a = (none_below e.0 t a e.0 (inl refl), climbs-apart e.0 t a)
