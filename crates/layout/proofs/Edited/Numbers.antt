-- The numbers of two stores: what one that is as it was keeps, and the list of the open ones by what became of each.
-- Assumes nothing.
use mathlib.Core.Bool.{Bool, true, false, not, ◌||◌, ◌&&◌}
use mathlib.Core.List.{List, [], ◌∷◌}
use mathlib.Core.Logic.{◌⊎◌, inl, inr}
use mathlib.Core.Path.{◌≡◌, refl, sym, ap, ◌∙◌, subst}
use Prim.Native.Nat.{ℕ, zero, suc, ◌+◌, ◌*◌, ◌-◌, ◌≤◌, ◌<◌}
use native.Mathlib.Omega.{arith}
use lib.Dec.{T, eqb, leb, leb→le}
use lib.ListN.{length, take, drop, get_or}
use borrow.Author.Tests.{eq-eqb, eqb-false}
use Rattle.text.specs.Utf8.{Bytes}
use Rattle.path.specs.Path.{names}
use Rattle.path.proofs.Laws.{and_left, and_right, and_both}
use Rattle.model.specs.Tree.{Open, keep_if}
use Rattle.model.specs.Prog.{close_num}
use Rattle.model.proofs.Demand.Contents.{or_elim, or_left, or_right}
use Rattle.layout.specs.Store.{Store, holder, position, kept_length, cell, opens_from}
use Rattle.layout.specs.Lawful.{held_from, cell_ok, kept_ok, number_ok, Lawful}
use Rattle.layout.proofs.Tables.{open_at}
use Rattle.layout.proofs.Entered.{stood}

module _ (st st' : Store) where
  -- a number's word and kept path as they were
  pub record SameNumber (j : ℕ) : Type 0 where
    pub word : holder st' j ≡ holder st j
    pub long : kept_length st' j ≡ kept_length st j
    pub path : kept_length st j ≤ 1024 → cell st' (suc j) (kept_length st j) ≡ cell st (suc j) (kept_length st j)

  -- ---- kept paths

  pub kept_same : (i m k : ℕ) → k ≡ m → (m ≤ 1024 → cell st' i m ≡ cell st i m) → T (kept_ok st i m) → T (kept_ok st' i k)
  kept_same i m k e h t =
      let a = and_left (leb m 1024) (cell_ok (cell st i m)) t in
      let b = and_right (leb m 1024) (cell_ok (cell st i m)) t in
      subst (λ (n : ℕ). T (kept_ok st' i n)) (sym e)
      (and_both (leb m 1024) (cell_ok (cell st' i m)) a (subst (λ (s : Bytes). T (cell_ok s)) (sym (h (leb→le m 1024 a))) b))

  pub number_same : (j : ℕ) → length st'.heads ≡ length st.heads → SameNumber j → T (number_ok st j) → T (number_ok st' j)
  number_same j e s t = go (or_elim (eqb (holder st j) 0) (leb (holder st j) (length st.heads) && kept_ok st (suc j) (kept_length st j)) t)
    where
      go : T (eqb (holder st j) 0) ⊎ T (leb (holder st j) (length st.heads) && kept_ok st (suc j) (kept_length st j)) → T (number_ok st' j)
      go (inl a) =
          or_left (eqb (holder st' j) 0) (leb (holder st' j) (length st'.heads) && kept_ok st' (suc j) (kept_length st' j))
          (subst (λ (h : ℕ). T (eqb h 0)) (sym s.word) a)
      go (inr a) =
          let b = and_left (leb (holder st j) (length st.heads)) (kept_ok st (suc j) (kept_length st j)) a in
          let c = and_right (leb (holder st j) (length st.heads)) (kept_ok st (suc j) (kept_length st j)) a in
          or_right (eqb (holder st' j) 0) (leb (holder st' j) (length st'.heads) && kept_ok st' (suc j) (kept_length st' j))
          (and_both (leb (holder st' j) (length st'.heads)) (kept_ok st' (suc j) (kept_length st' j))
          (subst T (λ i. leb (sym s.word i) (sym e i)) b)
          (kept_same (suc j) (kept_length st j) (kept_length st' j) s.long s.path c))

  -- ---- the slot that a number stands on

  pub held_same : (k : ℕ) → ((j : ℕ) → eqb (holder st' j) (suc k) ≡ eqb (holder st j) (suc k)) → (c i : ℕ) → held_from st' c i k ≡ held_from st c i k
  unfolding held_from
  held_same k h zero i = refl
  held_same k h (suc c) i = λ a. h i a || held_same k h c (suc i) a

  -- ---- the open numbers

  module _ (w : (i : ℕ) → 5 ≤ i → i < 101 → get_or st'.words i 0 ≡ get_or st.words i 0) (e : st'.paths ≡ st.paths) where
    opens-from : (c i : ℕ) → i + c ≤ 32 → opens_from st' c i ≡ opens_from st c i
    unfolding opens_from
    opens-from zero i h = refl
    opens-from (suc c) i h =
        let x = w (5 + 3 * i) (omega arith) (omega arith) in
        let y = w (6 + 3 * i) (omega arith) (omega arith) in
        let z = w (7 + 3 * i) (omega arith) (omega arith) in
        λ j. keep_if (not (eqb (x j) 0)) (record { num = i; id = x j - 1; pos = y j; kept = names (take (z j) (drop (1024 * suc i) (e j))) }) (opens-from c (suc i) (omega arith) j)

    -- the words of the numbers and the kept paths are as they were
    pub opens_same : opens_from st' 32 0 ≡ opens_from st 32 0
    opens_same = opens-from 32 0 (omega arith)

  -- where no word is changed
  module _ (w : st'.words ≡ st.words) where
    pub held_kept : (c i k : ℕ) → held_from st' c i k ≡ held_from st c i k
    held_kept c i k = held_same k (λ j. ap (λ (ws : List ℕ). eqb (get_or ws (5 + 3 * j) 0) (suc k)) w) c i

    pub opens_kept : st'.paths ≡ st.paths → opens_from st' 32 0 ≡ opens_from st 32 0
    opens_kept = opens_same (λ i l h. ap (λ (ws : List ℕ). get_or ws i 0) w)

  -- one number: what F makes of the list with it is what F makes of the rest, with what it became
  abbrev pub Turn : (List Open → List Open) → ℕ → Type 0
  Turn F j = (os : List Open) → keep_if (not (eqb (holder st' j) 0)) (open_at st' j) (F os) ≡ F (keep_if (not (eqb (holder st j) 0)) (open_at st j) os)

  pub opens_by : (F : List Open → List Open) → F [] ≡ [] → ((j : ℕ) → j < 32 → Turn F j) → (c i : ℕ) → i + c ≤ 32 → opens_from st' c i ≡ F (opens_from st c i)
  unfolding opens_from
  opens_by F z h zero i l = sym z
  opens_by F z h (suc c) i l =
      ap (λ (os : List Open). keep_if (not (eqb (holder st' i) 0)) (open_at st' i) os) (opens_by F z h c (suc i) (omega arith))
      ∙ h i (omega arith) (opens_from st c (suc i))

  module _ (l : Lawful st) where
    -- the path of an open number
    pub path-same : (j : ℕ) → j < 32 → SameNumber j → (holder st j ≡ 0 → ⊥) → names (cell st' (suc j) (kept_length st' j)) ≡ names (cell st (suc j) (kept_length st j))
    path-same j h s x =
        let t = (stood st l j h x).kept in
        let b = leb→le (kept_length st j) 1024 (and_left (leb (kept_length st j) 1024) (cell_ok (cell st (suc j) (kept_length st j))) t) in
        ap (λ (m : ℕ). names (cell st' (suc j) m)) s.long ∙ ap names (s.path b)

    -- a number that is open as before, at that position
    pub turn-same : (F : List Open → List Open) (j p : ℕ) → j < 32 → SameNumber j → position st' j ≡ p
        → ((os : List Open) → F (open_at st j ∷ os) ≡ (record { num = j; id = holder st j - 1; pos = p; kept = names (cell st (suc j) (kept_length st j)) }) ∷ F os) → Turn F j
    turn-same F j p h s q f os =
        ap (λ (k : ℕ). keep_if (not (eqb k 0)) (open_at st' j) (F os)) s.word ∙ go (eqb (holder st j) 0) refl
      where
        go : (b : Bool) → eqb (holder st j) 0 ≡ b → keep_if (not b) (open_at st' j) (F os) ≡ F (keep_if (not b) (open_at st j) os)
        go true e = refl
        go false e =
            let c = path-same j h s (eqb-false (holder st j) 0 e) in
            (λ i. (record { num = j; id = s.word i - 1; pos = q i; kept = c i }) ∷ F os) ∙ sym (f os)

  -- a number that is open no more
  pub turn-closed : (n : ℕ) → holder st' n ≡ 0 → Turn (close_num n) n
  unfolding close_num
  turn-closed n e os = ap (λ (k : ℕ). keep_if (not (eqb k 0)) (open_at st' n) (close_num n os)) e ∙ go (eqb (holder st n) 0)
    where
      go : (b : Bool) → close_num n os ≡ close_num n (keep_if (not b) (open_at st n) os)
      go true = refl
      go false = sym (ap (λ (b : Bool). keep_if (not b) (open_at st n) (close_num n os)) (eq-eqb n n refl))
