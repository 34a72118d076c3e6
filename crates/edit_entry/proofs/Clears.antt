-- Freeing slots leaves the others as they were. One slot is freed where no file number stands on it; of all slots those whose mark
-- is 0, and a mark is 0 where no record names the slot and no file number stands on it.
-- Assumes nothing.
use mathlib.Core.Bool.{Bool, true, false, ◌||◌, cond, not, false≢true}
use mathlib.Core.List.{List, []}
use mathlib.Core.Path.{◌≡◌, refl, sym, ap, ◌∙◌}
use Prim.Native.Nat.{ℕ, zero, suc, ◌+◌, ◌-◌, ◌*◌, ◌≤◌, ◌<◌}
use native.Mathlib.Decide.{ℕ_discrete}
use native.Mathlib.Omega.{arith}
use lib.Dec.{eqb, ltb}
use lib.ListN.{length, take, get_or, set, length-set, get_or-eq_default}
use lib.Seq.{length-take-le, get_or-take, get_or-set_same, get_or-set_other}
use borrow.Author.Tests.{lt-ltb, ltb-true, ltb-false, eq-eqb, ne_eqb}
use Rattle.layout.specs.Fields.{slot_of}
use Rattle.layout.specs.Slots.{contents}
use Rattle.layout.specs.Store.{Store, lent}
use Rattle.layout.specs.Lawful.{held_from}
use Rattle.slots.specs.Uses.{uses_in, stands_from, Within, MarkedBy}
use Rattle.slots.specs.Put.{swept, swept_c, swept_by, Freed}
use Rattle.slots.proofs.Contents.{length-contents}
use Rattle.slots.proofs.Laws.{length-swept, get_d-swept}
use Rattle.edit_entry.specs.Clearing.{keeps_one, keeps_used, Cleared}

-- the words alone say on which slots the numbers of a store stand
pub stands-held : (st : Store) (ws : List ℕ) → ((i : ℕ) → get_or ws (5 + 3 * i) 0 ≡ get_or st.words (5 + 3 * i) 0) → (n i k : ℕ)
    → stands_from ws n i k ≡ held_from st n i k
unfolding stands_from held_from
stands-held st ws e zero i k = refl
stands-held st ws e (suc n) i k = rw (stands-held st ws e n (suc i) k, e i) refl

pub stands-asked : (ws : List ℕ) (s : ℕ) (b : Bool) → b ≡ held_from (lent ws [] [] [] [] []) 32 0 (s + 1 - 1) → stands_from ws 32 0 s ≡ b
stands-asked ws s b e =
    let one : s + 1 - 1 ≡ s = omega arith in
    stands-held (lent ws [] [] [] [] []) ws (λ i. refl) 32 0 s ∙ (ap (held_from (lent ws [] [] [] [] []) 32 0) (sym one) ∙ sym e)

-- ---- one slot

module _ (ws : List ℕ) (s : ℕ) where
  pub keep-here : (k : ℕ) → k ≡ s → keeps_one ws s k ≡ stands_from ws 32 0 k
  unfolding keeps_one
  keep-here k e = ap (λ (b : Bool). not b || stands_from ws 32 0 k) (eq-eqb k s e)

  pub keep_other : (k : ℕ) → (k ≡ s → ⊥) → keeps_one ws s k ≡ true
  unfolding keeps_one
  keep_other k e = ap (λ (b : Bool). not b || stands_from ws 32 0 k) (ne_eqb k s e)

  -- a file number stands on it
  pub one_held : (hs bs : List ℕ) → stands_from ws 32 0 s ≡ true → Cleared hs bs hs bs (keeps_one ws s)
  one_held hs bs t =
      record {
        heads = λ k _. refl;
        texts = λ k _. refl;
        freed = λ k h. absurd (false≢true (sym h ∙ all k (ℕ_discrete k s)));
        rest = λ m _. refl;
        room = omega arith;
        slots = refl;
        long = refl;
      }
    where
      all : (k : ℕ) → Dec (k ≡ s) → keeps_one ws s k ≡ true
      all k (yes e) = keep-here k e ∙ (ap (stands_from ws 32 0) e ∙ t)
      all k (no e) = keep_other k e

  -- none does
  pub one_freed : (hs bs hs' bs' : List ℕ) → s < length hs → stands_from ws 32 0 s ≡ false → Freed hs bs hs' bs' (set hs s 0) (set (contents hs bs) s [])
      → Cleared hs bs hs' bs' (keeps_one ws s)
  one_freed hs bs hs' bs' low t f =
      record {
        heads = λ k h. ap (λ (l : List ℕ). get_or l k 0) f.heads ∙ get_or-set_other hs s k 0 0 (apart k h);
        texts = λ k h. ap (λ (l : List (List ℕ)). get_or l k []) f.texts ∙ get_or-set_other (contents hs bs) s k [] [] (apart k h);
        freed = λ k h. freed k h (ℕ_discrete k s);
        rest = f.rest;
        room = f.room;
        slots = ap length f.heads ∙ length-set hs s 0;
        long = f.long;
      }
    where
      gone : (k : ℕ) → k ≡ s → keeps_one ws s k ≡ false
      gone k e = keep-here k e ∙ (ap (stands_from ws 32 0) e ∙ t)

      apart : (k : ℕ) → keeps_one ws s k ≡ true → k ≡ s → ⊥
      apart k h e = false≢true (sym (gone k e) ∙ h)

      freed : (k : ℕ) → keeps_one ws s k ≡ false → Dec (k ≡ s) → get_or hs' k 0 ≡ 0
      freed k h (yes e) =
          ap (λ (j : ℕ). get_or hs' j 0) e ∙ (ap (λ (l : List ℕ). get_or l s 0) f.heads ∙ get_or-set_same hs s 0 0 low)
      freed k h (no e) = absurd (false≢true (sym h ∙ keep_other k e))

-- ---- all that nothing uses

module _ (ws recs hs : List ℕ) (within : Within (length hs) recs) (once : (k : ℕ) → k < length hs → uses_in k recs ≤ 1) where
  -- no record is marked twice
  pub all_marked : (marks : List ℕ) (r : Bool) → MarkedBy recs marks r → MarkedBy recs marks true
  all_marked marks true m = m
  all_marked marks false m = absurd (omega (arith, m.2, once (slot_of (get_or recs m.0 0)) (within m.0 m.1)))

  module _ (first last : List ℕ) (f : MarkedBy recs first true) (g : (k : ℕ) → get_or last k 0 ≡ get_or first k 0 + cond (stands_from ws 32 0 k) 2 0)
      (long : length hs ≤ length last) where
    mark : (k : ℕ) → eqb (get_or last k 0) 0 ≡ not (keeps_used ws recs k)
    unfolding keeps_used
    mark k = ap (λ (m : ℕ). eqb m 0) (g k ∙ ap (λ (m : ℕ). m + cond (stands_from ws 32 0 k) 2 0) (f k).0) ∙ go (uses_in k recs) (stands_from ws 32 0 k)
      where
        go : (u : ℕ) (b : Bool) → eqb (u + cond b 2 0) 0 ≡ not (ltb 0 u || b)
        go zero true = refl
        go zero false = refl
        go (suc u) true = ne_eqb (suc u + 2) 0 (λ e. omega arith) ∙ ap (λ (t : Bool). not (t || true)) (sym (lt-ltb 0 (suc u) (omega arith)))
        go (suc u) false = ne_eqb (suc u + 0) 0 (λ e. omega arith) ∙ ap (λ (t : Bool). not (t || false)) (sym (lt-ltb 0 (suc u) (omega arith)))

    -- what a sweep leaves of the words, or of the bytes
    module _ {A : Type 0} (none : A) (l : List A) (same : length l ≡ length hs) where
      at_mark : (k : ℕ) → get_or (swept_by none (take (length hs) last) l) k none ≡ cond (eqb (get_or (take (length hs) last) k 0) 0) none (get_or l k none)
      at_mark k = get_d-swept none (take (length hs) last) l k (length-take-le (length hs) last long ∙ sym same)

      either : (b : Bool) → cond b none none ≡ none
      either true = refl
      either false = refl

      left : (k : ℕ) → get_or (swept_by none (take (length hs) last) l) k none ≡ cond (not (keeps_used ws recs k)) none (get_or l k none)
      left k = at_mark k ∙ go (ltb k (length hs)) refl
        where
          go : (t : Bool) → ltb k (length hs) ≡ t → cond (eqb (get_or (take (length hs) last) k 0) 0) none (get_or l k none) ≡ cond (not (keeps_used ws recs k)) none (get_or l k none)
          go true e = ap (λ (b : Bool). cond b none (get_or l k none)) (ap (λ (m : ℕ). eqb m 0) (get_or-take (length hs) last k 0 (ltb-true k (length hs) e)) ∙ mark k)
          go false e =
              let z : get_or l k none ≡ none = get_or-eq_default l none {n = k} (omega (arith, ltb-false k (length hs) e)) in
              rw z (either (eqb (get_or (take (length hs) last) k 0) 0) ∙ sym (either (not (keeps_used ws recs k))))

      swept_kept : (k : ℕ) → keeps_used ws recs k ≡ true → get_or (swept_by none (take (length hs) last) l) k none ≡ get_or l k none
      swept_kept k e = left k ∙ ap (λ (b : Bool). cond (not b) none (get_or l k none)) e

      swept-freed : (k : ℕ) → keeps_used ws recs k ≡ false → get_or (swept_by none (take (length hs) last) l) k none ≡ none
      swept-freed k e = left k ∙ ap (λ (b : Bool). cond (not b) none (get_or l k none)) e

    pub used-swept : (bs hs' bs' : List ℕ) → Freed hs bs hs' bs' (swept (take (length hs) last) hs) (swept_c (take (length hs) last) (contents hs bs))
        → Cleared hs bs hs' bs' (keeps_used ws recs)
    used-swept bs hs' bs' w =
        record {
          heads = λ k e. ap (λ (l : List ℕ). get_or l k 0) w.heads ∙ swept_kept 0 hs refl k e;
          texts = λ k e. ap (λ (l : List (List ℕ)). get_or l k []) w.texts ∙ swept_kept [] (contents hs bs) (length-contents hs bs) k e;
          freed = λ k e. ap (λ (l : List ℕ). get_or l k 0) w.heads ∙ swept-freed 0 hs refl k e;
          rest = w.rest;
          room = w.room;
          slots = ap length w.heads ∙ length-swept 0 (take (length hs) last) hs;
          long = w.long;
        }
