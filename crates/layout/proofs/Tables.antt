-- The files and the open numbers that are read back from a store: a slot of kind 2 is a file, a number with a holder is open, and
-- each stands once, since the slots and the numbers are gone through once.
-- Assumes nothing.
use mathlib.Core.Bool.{Bool, true, false, not, ◌||◌}
use mathlib.Core.List.{List, [], ◌∷◌}
use mathlib.Core.Logic.{◌⊎◌, inl, inr}
use mathlib.Core.Option.{none, some}
use mathlib.Core.Path.{◌≡◌, refl, sym, ap, ◌∙◌, subst}
use Prim.Native.Nat.{ℕ, zero, suc, ◌+◌, ◌-◌, ◌≤◌, ◌<◌}
use native.Mathlib.Decide.{ℕ_discrete}
use native.Mathlib.Omega.{arith}
use lib.Dec.{T, eqb, eqb→eq}
use borrow.Author.Tests.{eqb-true, eqb-false, eq-eqb, ne_eqb, not-true}
use Rattle.path.specs.Path.{names}
use Rattle.model.specs.Tree.{File, Files, Open, or_else, keep_if, file_of, open_of}
use Rattle.model.specs.Calls.States.{is_held}
use Rattle.model.specs.Rules.{Once, new_file, new_number}
use Rattle.model.proofs.Demand.Contents.{or_elim, or_left, or_right}
use Rattle.layout.specs.Store.{Store, holder, position, kept_length, cell, meta_at, bytes_at, kind_at, files_from, opens_from}
use Rattle.layout.specs.Lawful.{held_from}
use Rattle.layout.proofs.Numbered.{find, keep_from, found, present, each-once}

-- ---- the two tables are lists by number

abbrev by_id : ℕ × File → ℕ
by_id f = f.0

abbrev by_num : Open → ℕ
by_num o = o.num

find-file : (fs : Files) (i : ℕ) → file_of fs i ≡ find by_id (λ f. f.1) fs i
unfolding file_of find
find-file [] i = refl
find-file (f ∷ fs) i = ap (or_else (eqb f.0 i) f.1) (find-file fs i)

find-open : (os : List Open) (i : ℕ) → open_of os i ≡ find by_num (λ o. o) os i
unfolding open_of find
find-open [] i = refl
find-open (o ∷ os) i = ap (or_else (eqb o.num i) o) (find-open os i)

-- what stands once in the one sense does in the other
once_by : {A : Type 0} (new old : List A → A → Type 0) → ((l : List A) (a : A) → old l a → new l a) → (l : List A) → Once old l → Once new l
once_by new old f [] h = tt
once_by new old f (a ∷ l) h = (f l a h.0, once_by new old f l h.1)

module _ (st : Store) where
  -- ---- files

  -- the file of a slot
  abbrev pub file_at : ℕ → File
  file_at k = record { meta = meta_at st k; bytes = bytes_at st k }

  -- a slot whose file stands in the table
  pub record IsFile (n k i : ℕ) (f : File) : Type 0 where
    pub low : k ≤ i
    pub high : i < k + n
    pub kind : kind_at st i ≡ 2
    pub file : f ≡ file_at i

  abbrev is_file : ℕ → Bool
  is_file k = eqb (kind_at st k) 2

  abbrev entry_at : ℕ → ℕ × File
  entry_at k = (k, file_at k)

  files-kept : (n k : ℕ) → files_from st n k ≡ keep_from by_id (λ f. f.1) is_file entry_at (λ _. refl) n k
  unfolding files_from keep_from
  files-kept zero k = refl
  files-kept (suc n) k = ap (keep_if (is_file k) (entry_at k)) (files-kept n (suc k))

  file-find : (n k i : ℕ) → file_of (files_from st n k) i ≡ find by_id (λ f. f.1) (keep_from by_id (λ f. f.1) is_file entry_at (λ _. refl) n k) i
  file-find n k i = find-file (files_from st n k) i ∙ ap (λ (fs : Files). find by_id (λ f. f.1) fs i) (files-kept n k)

  pub file-found : (n k i : ℕ) (f : File) → file_of (files_from st n k) i ≡ some f → IsFile n k i f
  file-found n k i f e =
      let h = found by_id (λ f. f.1) is_file entry_at (λ _. refl) n k i f (sym (file-find n k i) ∙ e) in
      record { low = h.low; high = h.high; kind = eqb-true (kind_at st i) 2 h.passes; file = h.value }

  pub file_there : (n k i : ℕ) → k ≤ i → i < k + n → kind_at st i ≡ 2 → file_of (files_from st n k) i ≡ some (file_at i)
  file_there n k i a b e = file-find n k i ∙ present by_id (λ f. f.1) is_file entry_at (λ _. refl) n k i a b (eq-eqb (kind_at st i) 2 e)

  pub files-once : (n k : ℕ) → Once new_file (files_from st n k)
  files-once n k =
      once_by new_file (λ fs f. find by_id (λ g. g.1) fs f.0 ≡ none) (λ fs f h. find-file fs f.0 ∙ h) (files_from st n k)
      (subst (Once (λ fs f. find by_id (λ g. g.1) fs f.0 ≡ none)) (sym (files-kept n k)) (each-once by_id (λ f. f.1) is_file entry_at (λ _. refl) n k))

  -- ---- open numbers

  -- what is open under a number
  abbrev pub open_at : ℕ → Open
  open_at k = record { num = k; id = holder st k - 1; pos = position st k; kept = names (cell st (suc k) (kept_length st k)) }

  -- a number that is open
  pub record IsOpen (n k i : ℕ) (o : Open) : Type 0 where
    pub low : k ≤ i
    pub high : i < k + n
    pub holds : holder st i ≡ 0 → ⊥
    pub number : o ≡ open_at i

  abbrev is_open : ℕ → Bool
  is_open k = not (eqb (holder st k) 0)

  opens_kept : (n k : ℕ) → opens_from st n k ≡ keep_from by_num (λ o. o) is_open open_at (λ _. refl) n k
  unfolding opens_from keep_from
  opens_kept zero k = refl
  opens_kept (suc n) k = ap (keep_if (is_open k) (open_at k)) (opens_kept n (suc k))

  open-find : (n k i : ℕ) → open_of (opens_from st n k) i ≡ find by_num (λ o. o) (keep_from by_num (λ o. o) is_open open_at (λ _. refl) n k) i
  open-find n k i = find-open (opens_from st n k) i ∙ ap (λ (os : List Open). find by_num (λ o. o) os i) (opens_kept n k)

  pub open-found : (n k i : ℕ) (o : Open) → open_of (opens_from st n k) i ≡ some o → IsOpen n k i o
  open-found n k i o e =
      let h = found by_num (λ o. o) is_open open_at (λ _. refl) n k i o (sym (open-find n k i) ∙ e) in
      record { low = h.low; high = h.high; holds = eqb-false (holder st i) 0 (not-true (eqb (holder st i) 0) h.passes); number = h.value }

  pub open_there : (n k i : ℕ) → k ≤ i → i < k + n → (holder st i ≡ 0 → ⊥) → open_of (opens_from st n k) i ≡ some (open_at i)
  open_there n k i a b e = open-find n k i ∙ present by_num (λ o. o) is_open open_at (λ _. refl) n k i a b (ap not (ne_eqb (holder st i) 0 e))

  pub opens-once : (n k : ℕ) → Once new_number (opens_from st n k)
  opens-once n k =
      once_by new_number (λ os o. find by_num (λ a. a) os o.num ≡ none) (λ os o h. find-open os o.num ∙ h) (opens_from st n k)
      (subst (Once (λ os o. find by_num (λ a. a) os o.num ≡ none)) (sym (opens_kept n k)) (each-once by_num (λ o. o) is_open open_at (λ _. refl) n k))

  -- ---- the slot that a number stands on

  pub held_by : (n i j k : ℕ) → i ≤ j → j < i + n → holder st j ≡ suc k → T (held_from st n i k)
  unfolding held_from
  held_by zero i j k a b e = absurd (omega arith)
  held_by (suc n) i j k a b e = go (ℕ_discrete i j) (held_by n (suc i) j k)
    where
      go : Dec (i ≡ j) → (suc i ≤ j → j < suc i + n → holder st j ≡ suc k → T (held_from st n (suc i) k)) → T (eqb (holder st i) (suc k) || held_from st n (suc i) k)
      go (yes z) ih = or_left (eqb (holder st i) (suc k)) (held_from st n (suc i) k) (rw (eq-eqb (holder st i) (suc k) (ap (holder st) z ∙ e)) tt)
      go (no z) ih = or_right (eqb (holder st i) (suc k)) (held_from st n (suc i) k) (ih (omega arith) (omega arith) e)

  pub held_number : (n i k : ℕ) → T (held_from st n i k) → (j : ℕ) × (j < i + n) × (holder st j ≡ suc k)
  unfolding held_from
  held_number zero i k t = absurd t
  held_number (suc n) i k t = go (or_elim (eqb (holder st i) (suc k)) (held_from st n (suc i) k) t) (held_number n (suc i) k)
    where
      go : T (eqb (holder st i) (suc k)) ⊎ T (held_from st n (suc i) k) → (T (held_from st n (suc i) k) → (j : ℕ) × (j < suc i + n) × (holder st j ≡ suc k))
          → (j : ℕ) × (j < i + suc n) × (holder st j ≡ suc k)
      go (inl u) ih = (i, omega arith, eqb→eq (holder st i) (suc k) u)
      go (inr u) ih = let h = ih u in (h.0, omega (arith, h.1), h.2)

  -- a slot that is held has an open number
  pub held-open : (n i k : ℕ) → T (held_from st n i k) → T (is_held (opens_from st n i) k)
  unfolding held_from opens_from is_held
  held-open zero i k t = absurd t
  held-open (suc n) i k t = go (or_elim (eqb (holder st i) (suc k)) (held_from st n (suc i) k) t) (held-open n (suc i) k) (eqb (holder st i) 0) refl
    where
      go : T (eqb (holder st i) (suc k)) ⊎ T (held_from st n (suc i) k) → (T (held_from st n (suc i) k) → T (is_held (opens_from st n (suc i)) k)) → (b : Bool) → eqb (holder st i) 0 ≡ b → T (is_held (keep_if (not b) (open_at i) (opens_from st n (suc i))) k)
      go (inl u) ih true x = absurd (omega (arith, eqb→eq (holder st i) (suc k) u, eqb-true (holder st i) 0 x))
      go (inl u) ih false x =
          or_left (eqb (holder st i - 1) k) (is_held (opens_from st n (suc i)) k)
          (rw (eq-eqb (holder st i - 1) k (omega (arith, eqb→eq (holder st i) (suc k) u))) tt)
      go (inr u) ih true x = ih u
      go (inr u) ih false x = or_right (eqb (holder st i - 1) k) (is_held (opens_from st n (suc i)) k) (ih u)
