-- The lowest free slot: the search goes on behind each word that is not 0.
-- Assumes nothing.
use mathlib.Core.Path.{◌≡◌, refl, ap, ◌∙◌}
use mathlib.Core.List.{List, [], ◌∷◌}
use Prim.Native.Nat.{ℕ, zero, suc, ◌+◌, ◌≤◌, ◌<◌}
use native.Mathlib.Numerals.{add-one}
use native.Mathlib.Omega.{arith}
use lib.ListN.{length, drop, get_or, drop_of_length-le}
use lib.Seq.{drop-cons}
use lib.Dec.{eqb-suc-zero}
use borrow.Author.Tests.{eq-eqb, ne_eqb}
use Rattle.std.proofs.Common.{Some, None}
use Rattle.slots.specs.Free.{free_from}

pub free_on : (hs : List ℕ) (i k : ℕ) → i < length hs → (get_or hs i 0 ≡ 0 → ⊥) → free_from (drop i hs) k ≡ free_from (drop (suc i) hs) (suc k)
free_on hs i k h n = rw (drop-cons hs i 0 h, ne_eqb (get_or hs i 0) 0 n, add-one k)

pub free-here : (hs : List ℕ) (i k : ℕ) → i < length hs → get_or hs i 0 ≡ 0 → free_from (drop i hs) k ≡ Some k
free-here hs i k h n = rw (drop-cons hs i 0 h, eq-eqb (get_or hs i 0) 0 n)

pub free-end : (hs : List ℕ) (i k : ℕ) → length hs ≤ i → free_from (drop i hs) k ≡ None
free-end hs i k h = rw (drop_of_length-le hs h)

found_from : (hs : List ℕ) (k s : ℕ) → free_from hs k ≡ Some s → (i : ℕ) × (s ≡ k + i) × (i < length hs) × (get_or hs i 0 ≡ 0)
found_from [] k s e = let z : ◌≡◌ {A = ℕ} 0 1 = cc in absurd (omega arith)
found_from (zero ∷ hs) k s e = let q : s ≡ k = cc in (0, omega arith, omega arith, refl)
found_from (suc x ∷ hs) k s e =
    let f = found_from hs (k + 1) s (rw (eqb-suc-zero x) at e) in
    (suc f.0, omega (arith, f.1), omega (arith, f.2), f.3)

-- a slot that is found is one of them, and free
pub found : (hs : List ℕ) (s : ℕ) → free_from hs 0 ≡ Some s → (s < length hs) × (get_or hs s 0 ≡ 0)
found hs s e =
    let f = found_from hs 0 s e in
    let q : s ≡ f.0 = omega (arith, f.1) in
    (omega (arith, q, f.2), ap (λ (i : ℕ). get_or hs i 0) q ∙ f.3)

-- where none is found, none is free
pub full : (hs : List ℕ) (k i : ℕ) → free_from hs k ≡ None → i < length hs → get_or hs i 0 ≡ 0 → ⊥
full [] k i e h z = omega arith
full (zero ∷ hs) k i e h z = let y : ◌≡◌ {A = ℕ} 0 1 = cc in omega arith
full (suc x ∷ hs) k zero e h z = omega arith
full (suc x ∷ hs) k (suc i) e h z = full hs (k + 1) i (rw (eqb-suc-zero x) at e) (omega arith) z
