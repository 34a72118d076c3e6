-- Lists by what stands at each place.
-- Assumes nothing.
use mathlib.Core.List.{List, [], ◌∷◌}
use mathlib.Core.Path.{◌≡◌, refl, ap, ◌∙◌}
use Prim.Native.Nat.{ℕ, zero, suc, ◌+◌, ◌<◌}
use native.Mathlib.Omega.{arith}
use lib.ListN.{length, get_or}

module _ {A : Type 0} where
  -- n elements, from place k on
  unfoldable pub tab : (ℕ → A) → ℕ → ℕ → List A
  tab f zero k = []
  tab f (suc n) k = f k ∷ tab f n (suc k)

  pub tab-length : (f : ℕ → A) (n k : ℕ) → length (tab f n k) ≡ n
  unfolding tab
  tab-length f zero k = refl
  tab-length f (suc n) k = ap suc (tab-length f n (suc k))

  tab_from : (f : ℕ → A) (n k i : ℕ) (d : A) → i < n → get_or (tab f n k) i d ≡ f (k + i)
  unfolding tab
  tab_from f zero k i d h = absurd (omega arith)
  tab_from f (suc n) k zero d h = ap f (omega arith)
  tab_from f (suc n) k (suc i) d h = tab_from f n (suc k) i d (omega arith) ∙ ap f (omega arith)

  pub tab_at : (f : ℕ → A) (n i : ℕ) (d : A) → i < n → get_or (tab f n 0) i d ≡ f i
  tab_at f n i d h = tab_from f n 0 i d h ∙ ap f (omega arith)

  -- what holds of each element and of the default holds at each place
  tab_all_from : (P : A → Type 0) (f : ℕ → A) (n k i : ℕ) (d : A) → ((j : ℕ) → P (f j)) → P d → P (get_or (tab f n k) i d)
  unfolding tab
  tab_all_from P f zero k i d a b = b
  tab_all_from P f (suc n) k zero d a b = a k
  tab_all_from P f (suc n) k (suc i) d a b = tab_all_from P f n (suc k) i d a b

  pub tab_all : (P : A → Type 0) (f : ℕ → A) (n i : ℕ) (d : A) → ((j : ℕ) → P (f j)) → P d → P (get_or (tab f n 0) i d)
  tab_all P f n i d a b = tab_all_from P f n 0 i d a b
