-- 15 and 16 before anything is edited: settle tests the sums of the state that the call would leave, and these are the sums of the
-- state before with what the edits add and take off; so testing those gives the same answer.
-- Assumes nothing.
use mathlib.Core.Bool.{Bool, true, false, cond}
use mathlib.Core.Path.{◌≡◌, refl, sym, ap, ◌∙◌}
use Prim.Native.Nat.{ℕ, zero, suc, ◌+◌, ◌≤◌, ◌<◌}
use native.Mathlib.Omega.{arith}
use lib.Dec.{leb}
use borrow.Author.Tests.{leb-true, leb-false, le-leb, lt-leb}
use Rattle.model.specs.Prog.{World, done}
use Rattle.model.specs.Operations.{Reply}
use Rattle.model.specs.Calls.{State, entries_used, bytes_used, state_of, accepted, refusal, Outcome, outcome, settle_by, settle, decide_by}
use Rattle.model.specs.Space.{room_for}
use Rattle.model.proofs.Space.States.{Uses}

-- ---- what settle says

-- a test of a number is that of a greater one against as much more
leb_more : (x y r k : ℕ) → x + k ≡ y → leb x r ≡ leb y (r + k)
leb_more x y r k e = at (leb x r) refl
  where
    at : (b : Bool) → leb x r ≡ b → b ≡ leb y (r + k)
    at true t = sym (le-leb y (r + k) (let h : x ≤ r = leb-true x r t in omega arith))
    at false t = sym (lt-leb y (r + k) (let h : r < x = leb-false x r t in omega arith))

-- both tests, as the number that room is asked for
tests-settle : (a b : Bool) (s : State) (r : Reply) (u : State) → settle_by a b s r u ≡ decide_by (cond a (cond b 0 16) 15) s (outcome (accepted r) u)
tests-settle false b s r u = refl
tests-settle true false s r u = refl
tests-settle true true s r u = refl

module _ (s : State) (r : Reply) (w : World) (grown freed : ℕ) where
  -- by the tests of the state left
  settle-by : (more : ℕ) → leb (entries_used (state_of s w)) s.most ≡ leb (entries_used s + more) s.most → bytes_used (state_of s w) + freed ≡ bytes_used s + grown
      → settle s (done r w) ≡ decide_by (room_for s more grown freed) s (outcome (accepted r) (state_of s w))
  unfolding settle room_for
  settle-by more x y =
      rw (x, leb_more (bytes_used (state_of s w)) (bytes_used s + grown) s.room freed y)
      (tests-settle (leb (entries_used s + more) s.most) (leb (bytes_used s + grown) (s.room + freed)) s r (state_of s w))

  -- where no entry goes: the call is accepted exactly where room_for answers 0, and else refused with the number
  pub room-settles : (more : ℕ) → Uses s (state_of s w) more 0 grown freed
      → settle s (done r w) ≡ decide_by (room_for s more grown freed) s (outcome (accepted r) (state_of s w))
  room-settles more h = settle-by more (let e : entries_used (state_of s w) ≡ entries_used s + more = omega (arith, h.entries) in ap (λ (k : ℕ). leb k s.most) e) h.bytes

  -- where entries go and none comes, of a state within its entry limit
  pub room-fewer : (fewer : ℕ) → entries_used s ≤ s.most → Uses s (state_of s w) 0 fewer grown freed
      → settle s (done r w) ≡ decide_by (room_for s 0 grown freed) s (outcome (accepted r) (state_of s w))
  room-fewer fewer k h =
      settle-by 0
      (le-leb (entries_used (state_of s w)) s.most (omega (arith, h.entries)) ∙ sym (le-leb (entries_used s + 0) s.most (omega arith))) h.bytes

-- what is decided by 0
pub decided-yes : (n : ℕ) (s : State) (o : Outcome) → n ≡ 0 → decide_by n s o ≡ o
decided-yes n s o e = ap (λ (k : ℕ). decide_by k s o) e

-- and by another number
pub decided_no : (n : ℕ) (s : State) (o : Outcome) → (n ≡ 0 → ⊥) → decide_by n s o ≡ outcome (refusal n) s
decided_no zero s o h = absurd (h refl)
decided_no (suc n) s o h = refl

-- ---- what an answer of room_for says

-- 0: the sums are within the limits
pub room-zero : (s : State) (more grown freed : ℕ) → room_for s more grown freed ≡ 0 → (entries_used s + more ≤ s.most) × (bytes_used s + grown ≤ s.room + freed)
unfolding room_for
room-zero s more grown freed e = at (leb (entries_used s + more) s.most) refl (leb (bytes_used s + grown) (s.room + freed)) refl e
  where
    at : (a : Bool) → leb (entries_used s + more) s.most ≡ a → (b : Bool) → leb (bytes_used s + grown) (s.room + freed) ≡ b → cond {A = ℕ} a (cond b 0 16) 15 ≡ 0
        → (entries_used s + more ≤ s.most) × (bytes_used s + grown ≤ s.room + freed)
    at true x true y z = (leb-true (entries_used s + more) s.most x, leb-true (bytes_used s + grown) (s.room + freed) y)
    at true x false y z = absurd (omega arith)
    at false x b y z = absurd (omega arith)

-- so the state that uses so much more fits, and so does every one on the way that uses no more than it
pub room_fits : {a b c d : ℕ} (s u : State) (more grown freed : ℕ) → room_for s more grown freed ≡ 0 → Uses s u a b c d → a ≤ more + b → c + freed ≤ grown + d
    → (entries_used u ≤ s.most) × (bytes_used u ≤ s.room)
room_fits s u more grown freed e x p q =
    let z = room-zero s more grown freed e in
    (omega (arith, z.0, x.entries), omega (arith, z.1, x.bytes))

-- two states that use the same within the same limits have the same room
pub room_same_lem : (s u : State) (more grown freed : ℕ) → entries_used s ≡ entries_used u → bytes_used s ≡ bytes_used u → s.most ≡ u.most → s.room ≡ u.room
    → room_for s more grown freed ≡ room_for u more grown freed
unfolding room_for
room_same_lem s u more grown freed e b m r = rw (e, b, m, r)

-- where nothing is gained, a state within its limits is left within them
pub room-given : (s : State) (freed : ℕ) → entries_used s ≤ s.most → bytes_used s ≤ s.room → room_for s 0 0 freed ≡ 0
unfolding room_for
room-given s freed e b = rw (le-leb (entries_used s + 0) s.most (omega arith), le-leb (bytes_used s + 0) (s.room + freed) (omega arith))
