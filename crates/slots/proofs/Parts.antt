-- The bytes of the slots as blocks: the byte storage ends in their join, and each block is as long as its word says, so the words
-- read them back.
-- Assumes nothing.
use mathlib.Core.Path.{◌≡◌, refl, sym, ap, ◌∙◌}
use mathlib.Core.List.{List, [], ◌∷◌, ◌++◌, append_assoc}
use Prim.Native.Nat.{ℕ, zero, suc, ◌-◌, ◌≤◌, ◌<◌}
use native.Mathlib.Omega.{arith}
use lib.ListN.{length, take, drop, get_or, set, length-append, length-drop, take-append-drop}
use lib.Seq.{length-take-le, take_at, drop_at, set-get_or}
use Rattle.layout.specs.Fields.{len_of}
use Rattle.layout.specs.Slots.{total, split, contents}

-- the blocks, one behind the other
unfoldable pub join : List (List ℕ) → List ℕ
join [] = []
join (c ∷ cs) = c ++ join cs

-- each of cs is as long as the slot of hs says
unfoldable pub Fit : List ℕ → List (List ℕ) → Type 0
Fit [] [] = Unit
Fit [] (c ∷ cs) = ⊥
Fit (h ∷ hs) [] = ⊥
Fit (h ∷ hs) (c ∷ cs) = (length c ≡ len_of h) × Fit hs cs

pub split-fit : (hs s : List ℕ) → total hs ≤ length s → Fit hs (split hs s)
unfolding Fit split total
split-fit [] s h = tt
split-fit (x ∷ hs) s h = (length-take-le (len_of x) s (omega arith), split-fit hs (drop (len_of x) s) (rw length-drop (omega arith)))

pub join-split : (hs s : List ℕ) → total hs ≡ length s → join (split hs s) ≡ s
unfolding join split total
join-split [] [] h = refl
join-split [] (x ∷ s) h = absurd (omega arith)
join-split (x ∷ hs) s h =
    ap (λ (l : List ℕ). take (len_of x) s ++ l) (join-split hs (drop (len_of x) s) (rw length-drop (omega arith))) ∙ take-append-drop (len_of x) s

pub fit-split : (hs : List ℕ) (cs : List (List ℕ)) → Fit hs cs → split hs (join cs) ≡ cs
unfolding Fit join split
fit-split [] [] f = refl
fit-split [] (c ∷ cs) f = absurd f
fit-split (h ∷ hs) [] f = absurd f
fit-split (h ∷ hs) (c ∷ cs) f =
    let a : take (len_of h) (c ++ join cs) ≡ c = take_at c (join cs) (len_of h) f.0 in
    let b : split hs (drop (len_of h) (c ++ join cs)) ≡ cs = ap (split hs) (drop_at c (join cs) (len_of h) f.0) ∙ fit-split hs cs f.1 in
    λ i. a i ∷ b i

pub fit-total : (hs : List ℕ) (cs : List (List ℕ)) → Fit hs cs → length (join cs) ≡ total hs
unfolding Fit join total
fit-total [] [] f = refl
fit-total [] (c ∷ cs) f = absurd f
fit-total (h ∷ hs) [] f = absurd f
fit-total (h ∷ hs) (c ∷ cs) f = length-append c (join cs) ∙ omega (arith, f.0, fit-total hs cs f.1)

pub fit-set : (hs : List ℕ) (cs : List (List ℕ)) (k h : ℕ) (c : List ℕ) → Fit hs cs → length c ≡ len_of h → Fit (set hs k h) (set cs k c)
unfolding Fit
fit-set [] [] k h c f e = tt
fit-set [] (d ∷ cs) k h c f e = absurd f
fit-set (x ∷ hs) [] k h c f e = absurd f
fit-set (x ∷ hs) (d ∷ cs) zero h c f e = (e, f.1)
fit-set (x ∷ hs) (d ∷ cs) (suc k) h c f e = (f.0, fit-set hs cs k h c f.1 e)

pub fit-take : (hs : List ℕ) (cs : List (List ℕ)) (k : ℕ) → Fit hs cs → Fit (take k hs) (take k cs)
unfolding Fit
fit-take hs cs zero f = tt
fit-take [] [] (suc k) f = tt
fit-take [] (d ∷ cs) (suc k) f = absurd f
fit-take (x ∷ hs) [] (suc k) f = absurd f
fit-take (x ∷ hs) (d ∷ cs) (suc k) f = (f.0, fit-take hs cs k f.1)

pub fit_at : (hs : List ℕ) (cs : List (List ℕ)) (k : ℕ) → Fit hs cs → length (get_or cs k []) ≡ len_of (get_or hs k 0)
unfolding Fit
fit_at [] [] k f = refl
fit_at [] (d ∷ cs) k f = absurd f
fit_at (x ∷ hs) [] k f = absurd f
fit_at (x ∷ hs) (d ∷ cs) zero f = f.0
fit_at (x ∷ hs) (d ∷ cs) (suc k) f = fit_at hs cs k f.1

-- the join with x in the k-th place
pub join-set : (cs : List (List ℕ)) (k : ℕ) (x : List ℕ) → k < length cs → join (set cs k x) ≡ join (take k cs) ++ (x ++ join (drop (suc k) cs))
unfolding join
join-set [] k x h = absurd (omega arith)
join-set (c ∷ cs) zero x h = refl
join-set (c ∷ cs) (suc k) x h = ap (λ (l : List ℕ). c ++ l) (join-set cs k x (omega arith)) ∙ sym (append_assoc c (join (take k cs)) (x ++ join (drop (suc k) cs)))

-- the join around the k-th
pub join_at : (cs : List (List ℕ)) (k : ℕ) → k < length cs → join cs ≡ join (take k cs) ++ (get_or cs k [] ++ join (drop (suc k) cs))
join_at cs k h = ap join (sym (set-get_or cs k [])) ∙ join-set cs k (get_or cs k []) h

-- the blocks are read back where the bytes end in their join
pub read : (hs p : List ℕ) (cs : List (List ℕ)) → Fit hs cs → contents hs (p ++ join cs) ≡ cs
read hs p cs f =
    let e : length (p ++ join cs) - total hs ≡ length p = omega (arith, length-append p (join cs), fit-total hs cs f) in
    ap (λ (n : ℕ). split hs (drop n (p ++ join cs))) e ∙ ap (split hs) (drop_at p (join cs) (length p) refl) ∙ fit-split hs cs f
