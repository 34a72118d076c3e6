-- Slots that are taken, one record or one file number further; and what the number of words that are not 0 says then.
-- Assumes nothing.
use mathlib.Core.Bool.{Bool, true, false, ◌||◌, cond, or-false, or-true}
use mathlib.Core.List.{List, [], ◌∷◌}
use mathlib.Core.Path.{◌≡◌, refl, sym, ap, ◌∙◌, subst}
use Prim.Native.Nat.{ℕ, zero, suc, ◌+◌, ◌-◌, ◌*◌, ◌≤◌, ◌<◌}
use native.Mathlib.Numerals.{add-one}
use native.Mathlib.Omega.{arith}
use lib.Dec.{T, eqb, ltb}
use lib.ListN.{length, take, get_or, set, get_or-eq_default}
use lib.Seq.{get_or-set_same, get_or-set_other}
use borrow.Author.Tests.{eq-eqb, ne_eqb, eqb-true, eqb-false, ltb-true, ltb-false}
use Rattle.std.specs.Prelude.{Some, None}
use Rattle.model.proofs.Entries.{is_false}
use Rattle.layout.specs.Fields.{slot_of, kind_of}
use Rattle.layout.specs.Lawful.{slot_by}
use Rattle.lawful_limits.specs.Settles.{Settles}
use Rattle.slots.specs.Uses.{uses_in, stands_from, Within}
use Rattle.lawful_slots.specs.Uses.{SlotsRight, filled, entry_by, entry_word, Named, NamedBy, Opened, OpenedBy}
use Rattle.lawful_slots.proofs.ByKind.{twice-wrong, word-wrong, number-wrong, slot-used, slot_right}
use Rattle.slots.proofs.Counting.{uses_more, uses_most, Said, said_more, said-twice, stands_next}
use Rattle.lawful_slots.proofs.Filled.{filled-set, filled-le, filled-free}

-- ---- records

-- the slots are taken that the first i records name
abbrev pub NamedTo : List ℕ → List ℕ → List ℕ → ℕ → Type 0
NamedTo recs heads taken i = (k : ℕ) → Named (uses_in k (take i recs)) (get_or heads k 0) (get_or taken k 0)

pub named_none : (recs heads taken : List ℕ) → ((k : ℕ) → get_or taken k 0 ≡ 0) → NamedTo recs heads taken 0
unfolding uses_in
named_none recs heads taken z k = record { once = omega arith; taken = z k; word = λ h. absurd (omega arith) }

-- a record names its slot
pub uses_at : (recs : List ℕ) (i : ℕ) → i < length recs → 1 ≤ uses_in (slot_of (get_or recs i 0)) recs
uses_at recs i h =
    let s = slot_of (get_or recs i 0) in
    let a : uses_in s (take (suc i) recs) ≡ uses_in s (take i recs) + cond (eqb s s) 1 0 = uses_more s recs i h in
    let b : ◌≡◌ {A = ℕ} (cond (eqb s s) 1 0) 1 = ap (λ (t : Bool). cond t 1 0) (eq-eqb s s refl) in
    omega (arith, uses_most s recs (suc i))

-- records that name the first slots name no other
pub uses_none : (n k : ℕ) (recs : List ℕ) → Within n recs → n ≤ k → uses_in k recs ≡ 0
unfolding uses_in
uses_none n k [] w l = refl
uses_none n k (r ∷ recs) w l =
    let e : ◌≡◌ {A = ℕ} (cond (eqb (slot_of r) k) 1 0) 0 = ap (λ (t : Bool). cond t 1 0) (ne_eqb (slot_of r) k (λ q. omega (arith, w 0 (omega arith)))) in
    omega (arith, uses_none n k recs (λ i h. w (suc i) (omega arith)) l)

module _ (recs heads taken : List ℕ) (i : ℕ) (h : i < length recs) where
  abbrev slot : ℕ
  slot = slot_of (get_or recs i 0)

  module _ (l : slot < length taken) (w : NamedTo recs heads taken i) where
    said : Said recs taken i
    said k = ((w k).taken, (w k).once)

    -- a slot that is not taken
    pub named_more : get_or taken slot 0 ≡ 0 → T (entry_word (get_or heads slot 0)) → NamedTo recs heads (set taken slot 1) (i + 1)
    named_more z e k =
        let m = said_more recs taken i h l said z k in
        record { once = m.1; taken = m.0; word = λ p. go (eqb slot k) refl p }
      where
        go : (t : Bool) → eqb slot k ≡ t → 0 < uses_in k (take (i + 1) recs) → T (entry_word (get_or heads k 0))
        go true q p = subst (λ (x : ℕ). T (entry_word (get_or heads x 0))) (eqb-true slot k q) e
        go false q p =
            let u : uses_in k (take (suc i) recs) ≡ uses_in k (take i recs) + 0 = uses_more k recs i h ∙ ap (λ (t : Bool). uses_in k (take i recs) + cond t 1 0) q in
            let v : 0 < uses_in k (take (suc i) recs) = rw add-one at p in
            (w k).word (omega arith)

    pub named-filled : get_or taken slot 0 ≡ 0 → filled taken ≡ i → filled (set taken slot 1) ≡ i + 1
    named-filled z e = omega (arith, filled-set taken slot l z)

    module _ (within : Within (length heads) recs) where
      -- one that is
      pub named-twice : (get_or taken slot 0 ≡ 0 → ⊥) → NamedBy recs heads taken false
      named-twice z ws right = twice-wrong (kind_of (get_or heads slot 0)) (get_or heads slot 0) (uses_in slot recs) (stands_from ws 32 0 slot) (said-twice recs taken i h l said z) (right slot (within i h))

      -- one whose word is none of an entry's
      pub named-wrong : entry_word (get_or heads slot 0) ≡ false → NamedBy recs heads taken false
      named-wrong e ws right = word-wrong (get_or heads slot 0) (uses_in slot recs) (stands_from ws 32 0 slot) e (uses_at recs i h) (right slot (within i h))

-- ---- file numbers

-- the number j of n from i on stands on its slot
pub stands_at : (ws : List ℕ) (n i j k : ℕ) → i ≤ j → j < i + n → get_or ws (5 + 3 * j) 0 ≡ suc k → stands_from ws n i k ≡ true
unfolding stands_from
stands_at ws zero i j k l h e = absurd (omega arith)
stands_at ws (suc n) i j k l h e = go (eqb (get_or ws (5 + 3 * i) 0) (suc k)) refl (λ a. stands_at ws n (suc i) j k a (omega arith) e)
  where
    go : (t : Bool) → eqb (get_or ws (5 + 3 * i) 0) (suc k) ≡ t → (suc i ≤ j → stands_from ws n (suc i) k ≡ true) → t || stands_from ws n (suc i) k ≡ true
    go true q r = refl
    go false q r = r (later (eqb i j) refl)
      where
        later : (t : Bool) → eqb i j ≡ t → suc i ≤ j
        later true p = absurd (eqb-false (get_or ws (5 + 3 * i) 0) (suc k) q (ap (λ (x : ℕ). get_or ws (5 + 3 * x) 0) (eqb-true i j p) ∙ e))
        later false p = omega (arith, eqb-false i j p)

pub opened_none : (ws heads taken : List ℕ) → OpenedBy ws heads taken taken 0 (Some 0)
unfolding stands_from
opened_none ws heads taken = (λ k h. record { taken = refl; file = λ t. absurd t }, λ k h. refl, omega arith)

module _ (ws heads t₀ t : List ℕ) (j n : ℕ) where
  abbrev number : ℕ
  number = get_or ws (5 + 3 * j) 0

  -- a number that stands on no file
  pub opened-wrong : j < 32 → 0 < number → number ≤ length heads → (kind_of (get_or heads (number - 1) 0) ≡ 2 → ⊥) → OpenedBy ws heads t₀ t 32 None
  opened-wrong h p l f recs right =
      let k = number - 1 in
      let e : stands_from ws 32 0 k ≡ true = stands_at ws 32 0 j k (omega arith) (omega arith) (omega arith) in
      number-wrong (get_or heads k 0) (uses_in k recs) f (subst (λ (b : Bool). T (slot_by (kind_of (get_or heads k 0)) (get_or heads k 0) (uses_in k recs) b [])) e (right k (omega arith)))

  module _ (w : OpenedBy ws heads t₀ t j (Some n)) where
    -- a number that stands on no slot
    other : (k : ℕ) → k < length heads → eqb number (suc k) ≡ false → Opened (stands_from ws (j + 1) 0 k) (get_or heads k 0) (get_or t₀ k 0) (get_or t k 0)
    other k h e = subst (λ (b : Bool). Opened b (get_or heads k 0) (get_or t₀ k 0) (get_or t k 0)) (sym (stands_next ws j k false e ∙ or-false (stands_from ws j 0 k))) (w.0 k h)

    pub opened-closed : number ≡ 0 → OpenedBy ws heads t₀ t (j + 1) (Some n)
    opened-closed z = (λ k h. other k h (ne_eqb number (suc k) (λ e. omega arith)), w.1, w.2)

    pub opened-far : length heads < number → OpenedBy ws heads t₀ t (j + 1) (Some n)
    opened-far l = (λ k h. other k h (ne_eqb number (suc k) (λ e. omega arith)), w.1, w.2)

    module _ (p : 0 < number) (l : number ≤ length heads) (f : kind_of (get_or heads (number - 1) 0) ≡ 2) where
      -- one that stands on a file
      file : (k : ℕ) → eqb number (suc k) ≡ true → kind_of (get_or heads k 0) ≡ 2
      file k e = let s : number - 1 ≡ k = omega (arith, eqb-true number (suc k) e) in rw s at f

      here : (k m : ℕ) → eqb number (suc k) ≡ true → m ≡ 1 → Opened (stands_from ws (j + 1) 0 k) (get_or heads k 0) (get_or t₀ k 0) m
      here k m e q = subst (λ (b : Bool). Opened b (get_or heads k 0) (get_or t₀ k 0) m) (sym (stands_next ws j k true e ∙ or-true (stands_from ws j 0 k))) (record { taken = q; file = λ u. file k e })

      -- a slot that is taken already
      pub opened-again : ((k : ℕ) → get_or t₀ k 0 ≤ 1) → (get_or t (number - 1) 0 ≡ 0 → ⊥) → OpenedBy ws heads t₀ t (j + 1) (Some n)
      opened-again few z = (λ k h. go k h (eqb number (suc k)) refl, w.1, w.2)
        where
          one : (b : Bool) (x y : ℕ) → x ≤ 1 → y ≡ cond b 1 x → (y ≡ 0 → ⊥) → y ≡ 1
          one true x y l e z = e
          one false x y l e z = omega (arith, z)

          go : (k : ℕ) → k < length heads → (b : Bool) → eqb number (suc k) ≡ b → Opened (stands_from ws (j + 1) 0 k) (get_or heads k 0) (get_or t₀ k 0) (get_or t k 0)
          go k h true e =
              let s : number - 1 ≡ k = omega (arith, eqb-true number (suc k) e) in
              here k (get_or t k 0) e (one (stands_from ws j 0 k) (get_or t₀ k 0) (get_or t k 0) (few k) (w.0 k h).taken (rw s at z))
          go k h false e = other k h e

      -- one that is not
      pub opened-more : number - 1 < length t → get_or t (number - 1) 0 ≡ 0 → OpenedBy ws heads t₀ (set t (number - 1) 1) (j + 1) (Some (n + 1))
      opened-more i z = (λ k h. go k h (eqb number (suc k)) refl, λ k h. get_or-set_other t (number - 1) k 1 0 (λ e. omega arith) ∙ w.1 k h, omega (arith, filled-set t (number - 1) i z, w.2))
        where
          go : (k : ℕ) → k < length heads → (b : Bool) → eqb number (suc k) ≡ b → Opened (stands_from ws (j + 1) 0 k) (get_or heads k 0) (get_or t₀ k 0) (get_or (set t (number - 1) 1) k 0)
          go k h true e =
              let s : number - 1 ≡ k = omega (arith, eqb-true number (suc k) e) in
              here k (get_or (set t (number - 1) 1) k 0) e (ap (λ (x : ℕ). get_or (set t (number - 1) 1) x 0) (sym s) ∙ get_or-set_same t (number - 1) 1 0 i)
          go k h false e =
              let o : get_or (set t (number - 1) 1) k 0 ≡ get_or t k 0 = get_or-set_other t (number - 1) k 1 0 (λ y. eqb-false number (suc k) e (omega arith)) in
              subst (λ (m : ℕ). Opened (stands_from ws (j + 1) 0 k) (get_or heads k 0) (get_or t₀ k 0) m) (sym o) (other k h e)

-- ---- all slots

is_none : (u : ℕ) → (0 < u → ⊥) → u ≡ 0
is_none zero n = refl
is_none (suc u) n = absurd (n (omega arith))

-- the word of no entry's slot is 0
no-entry : (h : ℕ) → h ≡ 0 → T (entry_word h) → ⊥
unfolding entry_word
no-entry h z t = subst (λ (x : ℕ). T (entry_by (kind_of x) x)) z t

-- a slot that is not taken
taken_none : (b : Bool) (x y : ℕ) → y ≡ cond b 1 x → y ≡ 0 → (b ≡ false) × (x ≡ 0)
taken_none true x y e z = absurd (omega arith)
taken_none false x y e z = (refl, omega arith)

module _ (ws recs heads t₁ t₂ : List ℕ) (n : ℕ) (within : Within (length heads) recs) (a : NamedBy recs heads t₁ true) (b : OpenedBy ws heads t₁ t₂ 32 (Some n)) where
  -- nothing takes it: no record, no number
  untaken : (k : ℕ) → k < length heads → uses_in k recs ≡ 0 → stands_from ws 32 0 k ≡ false → get_or t₂ k 0 ≡ 0
  untaken k h u e = (b.0 k h).taken ∙ ap (λ (t : Bool). cond t 1 (get_or t₁ k 0)) e ∙ (a.0 k).taken ∙ u

  -- a slot whose word is 0 is not taken
  free-word : (k : ℕ) → get_or heads k 0 ≡ 0 → get_or t₂ k 0 ≡ 0
  free-word k z = go (ltb k (length heads)) refl
    where
      go : (t : Bool) → ltb k (length heads) ≡ t → get_or t₂ k 0 ≡ 0
      go true q =
          let h : k < length heads = ltb-true k (length heads) q in
          untaken k h (is_none (uses_in k recs) (λ p. no-entry (get_or heads k 0) z ((a.0 k).word p))) (is_false (stands_from ws 32 0 k) (λ t. omega (arith, (b.0 k h).file t)))
      go false q =
          let h : length heads ≤ k = ltb-false k (length heads) q in
          b.1 k h ∙ (a.0 k).taken ∙ uses_none (length heads) k recs within h

  -- where all slots are right, a slot that is not taken has the word 0
  word-free : SlotsRight ws recs heads → (k : ℕ) → get_or t₂ k 0 ≡ 0 → get_or heads k 0 ≡ 0
  word-free right k z = go (ltb k (length heads)) refl
    where
      go : (t : Bool) → ltb k (length heads) ≡ t → get_or heads k 0 ≡ 0
      go true q =
          let h : k < length heads = ltb-true k (length heads) q in
          let m = taken_none (stands_from ws 32 0 k) (get_or t₁ k 0) (get_or t₂ k 0) (b.0 k h).taken z in
          slot-used (get_or heads k 0) (uses_in k recs) (stands_from ws 32 0 k) (right k h) (sym (a.0 k).taken ∙ m.1) m.0
      go false q = get_or-eq_default heads 0 (ltb-false k (length heads) q)

  -- as many words are not 0 as slots are taken
  pub slots-counted : (r : Bool) → r ≡ eqb (filled heads) (length recs + n) → Settles r (SlotsRight ws recs heads)
  slots-counted true e =
      let q : filled heads ≡ length recs + n = eqb-true (filled heads) (length recs + n) (sym e) in
      let free = filled-free t₂ heads free-word (omega (arith, a.1, b.2)) in
      λ k h. slot_right (get_or heads k 0) (uses_in k recs) (stands_from ws 32 0 k) (a.0 k).once (a.0 k).word (b.0 k h).file (λ u z. free k (untaken k h u z))
  slots-counted false e = λ right.
      eqb-false (filled heads) (length recs + n) (sym e) (omega (arith, a.1, b.2, filled-le t₂ heads free-word, filled-le heads t₂ (word-free right)))
