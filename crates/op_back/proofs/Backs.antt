-- What is told of a state: a kept path is shown as it reads, the limits are the store's words, and the rest is asked.
-- Assumes nothing.
use mathlib.Core.List.{List, [], ◌∷◌, ◌++◌}
use mathlib.Core.Path.{◌≡◌, refl, sym, ap, ◌∙◌, subst}
use Prim.Native.Nat.{ℕ, ◌≤◌}
use native.Mathlib.Omega.{arith}
use lib.ListN.{length, drop}
use Rattle.text.specs.Utf8.{Bytes}
use Rattle.path.specs.Path.{names, render}
use Rattle.model.specs.Tree.{Path}
use Rattle.model.specs.Prog.{mask?, answer}
use Rattle.model.specs.Calls.States.{State, entries_used, bytes_used}
use Rattle.std.specs.Prelude.{Some, None, Result}
use Rattle.std.specs.Result.{IsErrAnd}
use Rattle.op.proofs.Doing.{passed_on}
use Rattle.refusal.specs.Numbers.{number_of, answered}
use Rattle.refusal.specs.declared.Refusal.{Refusal}
use Rattle.layout.specs.Store.{Store, most, room}
use Rattle.ask_entry.specs.Reads.{PathIs}
use Rattle.store.specs.Shows.{Shows, says, KeptIs}
use Rattle.store.specs.Shows as store
use Rattle.walk.specs.Meets.{Plain}
use Rattle.op.specs.Lending.{PutIs}
use Rattle.op.specs.Lending as lending
use Rattle.op.specs.Telling.{usage_of, UsageIs, Slot, in_slot, NumberIs, closed, opened, short}
use Rattle.op.specs.Telling as telling
use Rattle.op.proofs.Naming.{path-plain}

-- ---- paths

pub path-put : {out left : Bytes} {n m q : ℕ} (p : Path) (r : Bytes) → PathIs p r → PutIs (render (names r)) out n left m q → PutIs (render p) out n left m q
path-put {out = out} {left = left} {n = n} {m = m} {q = q} p r h x = subst (λ (y : Path). PutIs (render y) out n left m q) h.names x

-- ---- what is used and allowed

pub usage-told : (st : Store) (s : State) → Shows st s → (l copied : List ℕ) (mask entries used : ℕ) → 5 ≤ length l → copied ≡ mask ∷ most st ∷ room st ∷ entries ∷ used ∷ []
    → says mask? s ≡ mask → entries ≡ entries_used s → used ≡ bytes_used s → UsageIs l (copied ++ drop 5 l) 0 s
unfolding answer
usage-told st s h l copied mask entries used n c e f g =
    let z : copied ≡ usage_of s = c ∙ same (sym e) h.alike.entry_limit h.alike.byte_limit f g in
    telling.put n (ap (λ (x : List ℕ). x ++ drop 5 l) z) refl
  where
    same : {a b c d e a₂ b₂ c₂ d₂ e₂ : ℕ} → a ≡ a₂ → b ≡ b₂ → c ≡ c₂ → d ≡ d₂ → e ≡ e₂ → ◌≡◌ {A = List ℕ} (a ∷ b ∷ c ∷ d ∷ e ∷ []) (a₂ ∷ b₂ ∷ c₂ ∷ d₂ ∷ e₂ ∷ [])
    same i j k m o = cc

-- ---- file numbers

-- a refusal that is passed on
pub number-err : {s : State} {n : ℕ} {o after : Slot} (r : Result Unit Refusal) (e : Refusal) → IsErrAnd r (λ y. y ≡ e) → NumberIs n o after (number_of e) s → NumberIs n o after (answered r) s
number-err {s = s} {n = n} {o = o} {after = after} r e x h = passed_on x (λ (k : Result Unit Refusal). NumberIs n o after (answered k) s) h

pub number-closed : {s : State} {n : ℕ} {out : Bytes} {position size : ℕ} → store.NumberIs s n None → NumberIs n (in_slot out position size) (in_slot out position size) 4 s
number-closed h = closed h refl refl

module _ (s : State) (n k : ℕ) (o : store.NumberIs s n (Some k)) {t : Bytes} (g : KeptIs s n t) where
  pub number-plain : Plain t
  number-plain = path-plain o.0.kept t (g o.0 o.1)

  module _ (position : ℕ) {out left : Bytes} {size m q : ℕ} (x : PutIs (render (names t)) out size left m q) where
    shown : PutIs (render o.0.kept) out size left m q
    shown = path-put o.0.kept t (g o.0 o.1) x

    -- the path does not fit
    pub number_short : (q ≡ 0 → ⊥) → NumberIs n (in_slot out position size) (in_slot left position m) q s
    number_short z = go shown
      where
        go : PutIs (render o.0.kept) out size left m q → NumberIs n (in_slot out position size) (in_slot left position m) q s
        go (lending.put a b c d) = absurd (z d)
        go (lending.short a b c d) = short o.0 o.1 a (ap (λ (y : Bytes). in_slot y position m) b ∙ ap (in_slot out position) c) d

    -- it does
    pub number-told : q ≡ 0 → NumberIs n (in_slot out position size) (in_slot left k m) 0 s
    number-told z = go shown
      where
        same : {a a₂ : Bytes} {b b₂ c c₂ : ℕ} → a ≡ a₂ → b ≡ b₂ → c ≡ c₂ → in_slot a b c ≡ in_slot a₂ b₂ c₂
        same i j l = rw (i, j, l) refl

        go : PutIs (render o.0.kept) out size left m q → NumberIs n (in_slot out position size) (in_slot left k m) 0 s
        go (lending.short a b c d) = absurd (omega (arith, d, z))
        go (lending.put a b c d) = opened o.0 o.1 a (same b (sym o.2) c) refl
