-- Another number of entries in word 2: file numbers, kept paths, umask and limits are as they were.
-- Assumes nothing.
use mathlib.Core.List.{List}
use mathlib.Core.Path.{◌≡◌, refl, ap, ◌∙◌}
use Prim.Native.Nat.{ℕ, suc, ◌+◌, ◌*◌, ◌<◌}
use native.Mathlib.Omega.{arith}
use lib.Dec.{T, eqb}
use lib.ListN.{length, get_or}
use lib.Seq.{get_or-set_same, get_or-set_other}
use Rattle.path.specs.Path.{names}
use Rattle.layout.specs.Store.{Store, most, room, count, extent, mask, here_length, holder, kept_length, cell, opens_from}
use Rattle.layout.specs.Lawful.{held_from, kept_ok, number_ok}
use Rattle.layout.proofs.Edited.Numbers.{held_same, opens_same}
use Rattle.edit_entry.specs.Growth.{Recounted}

module _ {st st' : Store} {c : ℕ} (r : Recounted st st' c) where
  -- a word that is not word 2
  other : (i : ℕ) → (i ≡ 2 → ⊥) → get_or st'.words i 0 ≡ get_or st.words i 0
  other i h = ap (λ (ws : List ℕ). get_or ws i 0) r.words ∙ get_or-set_other st.words 2 i c 0 h

  pub same_most : most st' ≡ most st
  same_most = other 0 (λ e. omega arith)

  pub same_room : room st' ≡ room st
  same_room = other 1 (λ e. omega arith)

  pub same_extent : extent st' ≡ extent st
  same_extent = other 101 (λ e. omega arith)

  pub same_mask : mask st' ≡ mask st
  same_mask = other 3 (λ e. omega arith)

  same_here-length : here_length st' ≡ here_length st
  same_here-length = other 4 (λ e. omega arith)

  pub same_holder : (n : ℕ) → holder st' n ≡ holder st n
  same_holder n = other (5 + 3 * n) (λ e. omega arith)

  same_kept : (n : ℕ) → kept_length st' n ≡ kept_length st n
  same_kept n = other (7 + 3 * n) (λ e. omega arith)

  pub new-count : 2 < length st.words → count st' ≡ c
  new-count h = ap (λ (ws : List ℕ). get_or ws 2 0) r.words ∙ get_or-set_same st.words 2 c 0 h

  pub same_opens : opens_from st' 32 0 ≡ opens_from st 32 0
  same_opens = opens_same st st' (λ i l h. other i (λ e. omega arith)) r.paths

  pub same_held : (n i k : ℕ) → held_from st' n i k ≡ held_from st n i k
  same_held n i k = held_same st st' k (λ j. ap (λ (h : ℕ). eqb h (suc k)) (same_holder j)) n i

  pub same_here : names (cell st' 0 (here_length st')) ≡ names (cell st 0 (here_length st))
  same_here = rw (same_here-length, r.paths) refl

  pub here-ok : T (kept_ok st 0 (here_length st)) → T (kept_ok st' 0 (here_length st'))
  here-ok t = rw (same_here-length, r.paths) t

  pub number_ok_lem : (n : ℕ) → T (number_ok st n) → T (number_ok st' n)
  number_ok_lem n t = rw (same_holder n, same_kept n, r.paths, r.slots) t
