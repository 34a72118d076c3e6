-- One slot more behind those so far, and the free slots at the end given up.
-- Assumes nothing.
use mathlib.Core.Bool.{Bool, true, false}
use mathlib.Core.List.{List}
use mathlib.Core.Path.{◌≡◌, refl, sym, ap, ◌∙◌, subst}
use Prim.Native.Nat.{ℕ, ◌+◌, ◌-◌, ◌≤◌, ◌<◌}
use native.Mathlib.Omega.{arith}
use lib.Dec.{ltb}
use lib.IntN.{ℤ}
use lib.ListN.{length, take, get_or, set, length-set, get_or-eq_default}
use lib.Seq.{get_or-take, get_or-set_same, get_or-set_other, length-take-le, take-take, take-set-le}
use borrow.Author.Tests.{ltb-true, ltb-false}
use Rattle.text.specs.Utf8.{Bytes}
use Rattle.layout.specs.Store.{Store, lent, most, slots_for}
use Rattle.slots.specs.Free.{HasFree}
use Rattle.slots.proofs.Frees.{full}
use Rattle.edit_room.specs.Extents.{trim, Roomy, Reserved, Released}
use Rattle.edit_room.proofs.Vacant.{not_full}
use Rattle.edit_room.proofs.Wider.{Wider, wider-state, wider-lawful, narrow-lawful}

module _ (ws rs hs : List ℕ) (ts : List ℤ) (ps bs : Bytes) (r : Roomy (lent ws rs hs ts ps bs)) where
  abbrev st : Store
  st = lent ws rs hs ts ps bs

  abbrev n : ℕ
  n = get_or ws 101 0

  long : 101 < length ws
  long = omega (arith, r.lawful.exact.words)

  -- a number of slots in word 101 is read back, and the other words stay
  stored : (m : ℕ) → get_or (set ws 101 m) 101 0 ≡ m
  stored m = get_or-set_same ws 101 m 0 long

  others : (m i : ℕ) → (i ≡ 101 → ⊥) → get_or (set ws 101 m) i 0 ≡ get_or ws i 0
  others m i h = get_or-set_other ws 101 i m 0 h

  within : n ≤ length hs
  within = omega (arith, r.lawful.slotted, r.room)

  so_far : length (take n hs) ≡ n
  so_far = length-take-le n hs within

  -- ---- no slot more

  pub reserved_none : slots_for (most st) ≤ n → Reserved st st
  reserved_none h = record {
    resized = record { roomy = r; same = refl; words = λ i x. refl };
    free = λ c. not_full (trim st) r.lawful h c;
    heads = λ k x. refl;
  }

  -- ---- one slot more

  module _ (h : n < slots_for (most st)) where
    abbrev one : Store
    one = lent (set ws 101 (n + 1)) rs (set hs n 0) ts ps bs

    low : n < length hs
    low = omega (arith, h, r.room)

    one-long : length (take (n + 1) (set hs n 0)) ≡ n + 1
    one-long = length-take-le (n + 1) (set hs n 0) (omega (arith, length-set hs n 0, low))

    one-heads : (trim one).heads ≡ take (n + 1) (set hs n 0)
    one-heads = ap (λ (m : ℕ). take m (set hs n 0)) (stored (n + 1))

    new_word : get_or (set hs n 0) n 0 ≡ 0
    new_word = get_or-set_same hs n 0 0 low

    zero-behind : (k : ℕ) → n ≤ k → get_or (take (n + 1) (set hs n 0)) k 0 ≡ 0
    zero-behind k g = go (ltb n k) refl
      where
        go : (t : Bool) → ltb n k ≡ t → get_or (take (n + 1) (set hs n 0)) k 0 ≡ 0
        go true e = get_or-eq_default (take (n + 1) (set hs n 0)) 0 (omega (arith, one-long, ltb-true n k e))
        go false e =
            let q : k ≡ n = omega (arith, ltb-false n k e, g) in
            ap (λ (i : ℕ). get_or (take (n + 1) (set hs n 0)) i 0) q ∙ get_or-take (n + 1) (set hs n 0) n 0 (omega arith) ∙ new_word

    wider : Wider (trim st) (trim one)
    wider = record {
      words = λ i g. others (n + 1) i (λ e. omega arith);
      long = length-set ws 101 (n + 1);
      records = refl;
      times = refl;
      paths = refl;
      bytes = refl;
      low = omega (arith, so_far, ap length one-heads, one-long);
      front =
          (λ j. take (so_far j) (one-heads j))
          ∙ (take-take n (n + 1) (set hs n 0) (omega arith) ∙ take-set-le n hs n 0 (omega arith));
      zeros = λ k g. ap (λ (l : List ℕ). get_or l k 0) one-heads ∙ zero-behind k (omega (arith, so_far));
    }

    pub reserved-one : Reserved st one
    reserved-one = record {
      resized = record {
        roomy = record {
          lawful = wider-lawful (trim st) (trim one) wider (stored (n + 1) ∙ sym (ap length one-heads ∙ one-long)) (omega (arith, h, ap length one-heads, one-long)) r.lawful;
          room = omega (arith, r.room, length-set hs n 0, others (n + 1) 0 (λ e. omega arith));
        };
        same = wider-state (trim st) (trim one) wider;
        words = others (n + 1);
      };
      free = λ c. subst HasFree (sym one-heads) (λ e. full (take (n + 1) (set hs n 0)) 0 n e (omega (arith, one-long)) (zero-behind n (omega arith)));
      heads = λ k x. get_or-set_other hs n k 0 0 x;
    }

  -- ---- fewer slots

  module _ (e : ℕ) (h : e ≤ length (take n hs)) (z : (k : ℕ) → e ≤ k → get_or (take n hs) k 0 ≡ 0) (u : 0 < e → get_or (take n hs) (e - 1) 0 ≡ 0 → ⊥) where
    abbrev less : Store
    less = lent (set ws 101 e) rs hs ts ps bs

    less-heads : (trim less).heads ≡ take e hs
    less-heads = ap (λ (m : ℕ). take m hs) (stored e)

    less-long : length (take e hs) ≡ e
    less-long = length-take-le e hs (omega (arith, so_far, h, within))

    narrower : Wider (trim less) (trim st)
    narrower = record {
      words = λ i g. sym (others e i (λ x. omega arith));
      long = sym (length-set ws 101 e);
      records = refl;
      times = refl;
      paths = refl;
      bytes = refl;
      low = omega (arith, ap length less-heads, less-long, h);
      front = ap (λ (m : ℕ). take m (take n hs)) (ap length less-heads ∙ less-long) ∙ (take-take e n hs (omega (arith, so_far, h)) ∙ sym less-heads);
      zeros = λ k g. z k (omega (arith, ap length less-heads, less-long));
    }

    pub released : Released st less
    released = record {
      resized = record {
        roomy = record {
          lawful = narrow-lawful (trim less) (trim st) narrower (stored e ∙ sym (ap length less-heads ∙ less-long)) r.lawful;
          room = omega (arith, r.room, others e 0 (λ x. omega arith));
        };
        same = sym (wider-state (trim less) (trim st) narrower);
        words = others e;
      };
      tight = λ p q.
          u (omega (arith, stored e))
          (get_or-take n hs (e - 1) 0 (omega (arith, stored e, so_far, h)) ∙ (ap (λ (m : ℕ). get_or hs (m - 1) 0) (sym (stored e)) ∙ q));
    }
