-- A text written to a buffer piece by piece: the bytes before index k and the text that is left are the whole, and from k on the
-- buffer is as it was.
-- Assumes nothing.
use mathlib.Core.List.{[], ◌∷◌, ◌++◌, append-nil, append_assoc}
use mathlib.Core.Path.{◌≡◌, refl, sym, ap, ◌∙◌}
use Prim.Native.Nat.{ℕ, suc, ◌+◌, ◌-◌, ◌≤◌, ◌<◌}
use native.Mathlib.Numerals.{add-one}
use native.Mathlib.Omega.{arith}
use lib.ListN.{length, take, drop, set, length-append, length-drop, take-append-drop}
use lib.Seq.{length-take-le, set_split, drop-drop, take_at, drop_at}
use borrow.Rule.Slice.PartMut.{put_mid, same_len_mid}
use Rattle.std.proofs.lemmas.Slice.{take-put_mid, drop-put_mid}
use Rattle.text.specs.Utf8.{Bytes}

-- a name with a zero byte behind it, at index k
abbrev pub with_name : Bytes → ℕ → Bytes → Bytes
with_name out k x = take k out ++ x ++ (0 ∷ drop (k + length x + 1) out)

pub put-zero : (out : Bytes) (k : ℕ) (x : Bytes) → k + length x < length out → set (put_mid k (k + length x - k) out x) (k + length x) 0 ≡ with_name out k x
put-zero out k x h =
    let n : ℕ = length x in
    let m : ℕ = k + n - k in
    let long : n ≡ length (take m (drop k out)) = omega (arith, length-take-le m (drop k out) (omega (arith, length-drop k out))) in
    let first : take (k + n) (put_mid k m out x) ≡ take k out ++ x = take-put_mid k m out x (k + n) refl (omega arith) in
    let last : drop (suc (k + n)) (put_mid k m out x) ≡ drop (k + n + 1) out =
    drop-put_mid k m out x (suc (k + n)) (omega arith) (omega arith) (omega arith) ∙ ap (λ (i : ℕ). drop i out) (sym (add-one (k + n))) in
    set_split (put_mid k m out x) (k + n) 0 (omega (arith, same_len_mid k m out x long)) ∙ (λ j. first j ++ (0 ∷ last j))

-- out is what was before, with as much of the whole as stands before index k
pub record Written (before whole out : Bytes) (k : ℕ) (left : Bytes) : Type 0 where
  pub within : k ≤ length out
  pub same : length out ≡ length before
  pub done : take k out ++ left ≡ whole
  pub rest : drop k out ≡ drop k before

pub written_start : (before whole : Bytes) → Written before whole before 0 whole
written_start before whole = record { within = omega arith; same = refl; done = refl; rest = refl }

module _ (before whole out : Bytes) (k : ℕ) where
  -- what is left in another form
  pub written_same : (left more : Bytes) → left ≡ more → Written before whole out k left → Written before whole out k more
  written_same left more e w = record { within = w.within; same = w.same; done = ap (λ (s : Bytes). take k out ++ s) (sym e) ∙ w.done; rest = w.rest }

  -- a buffer that has room for the whole has room for what is left
  pub written-room : (left : Bytes) → length whole ≤ length before → Written before whole out k left → k + length left ≤ length out
  written-room left h w = omega (arith, h, w.same, ap length w.done, length-append (take k out) left, length-take-le k out w.within)

  -- one name more
  written_on : (x left : Bytes) → length whole ≤ length before → Written before whole out k (x ++ (0 ∷ left)) → Written before whole (with_name out k x) (k + (length x + 1)) left
  written_on x left h w =
      let n : ℕ = length x in
      let r = written-room (x ++ (0 ∷ left)) h w in
      let s : k + (n + 1) ≤ length out = omega (arith, r, length-append x (0 ∷ left)) in
      let p : Bytes = take k out ++ x ++ (0 ∷ []) in
      let z : Bytes = drop (k + n + 1) out in
      let e : with_name out k x ≡ p ++ z = sym (append_assoc (take k out ++ x) (0 ∷ []) z) in
      let a : length p ≡ k + (n + 1) = omega (arith, length-append (take k out ++ x) (0 ∷ []), length-append (take k out) x, length-take-le k out w.within) in
      let b : length z + (k + (n + 1)) ≡ length out = omega (arith, length-drop (k + n + 1) out, s) in
      let c : length (with_name out k x) ≡ length out = ap length e ∙ omega (arith, length-append p z, a, b) in
      let i : k + n + 1 ≡ k + (n + 1) = omega arith in
      record {
        within = omega (arith, c, s);
        same = c ∙ w.same;
        done = ap (λ (t : Bytes). t ++ left) (ap (take (k + (n + 1))) e ∙ take_at p z (k + (n + 1)) a)
            ∙ (append_assoc (take k out ++ x) (0 ∷ []) left ∙ (append_assoc (take k out) x (0 ∷ left) ∙ w.done));
        rest = ap (drop (k + (n + 1))) e ∙ drop_at p z (k + (n + 1)) a ∙ ap (λ (m : ℕ). drop m out) i
            ∙ sym (drop-drop (n + 1) k out) ∙ ap (drop (n + 1)) w.rest ∙ drop-drop (n + 1) k before;
      }

  -- the same, by what was written and how much
  pub written_next : (x y left new : Bytes) (m : ℕ) → length whole ≤ length before → y ≡ x → new ≡ with_name out k y → m ≡ length x
      → Written before whole out k (x ++ (0 ∷ left)) → Written before whole new (k + (m + 1)) left
  written_next x y left new m h e f g w = rw (f, e, g) (written_on x left h w)

  -- nothing is left
  pub written-end : Written before whole out k [] → out ≡ whole ++ drop (length whole) before
  written-end w =
      let e : take k out ≡ whole = sym (append-nil (take k out)) ∙ w.done in
      let n : k ≡ length whole = sym (length-take-le k out w.within) ∙ ap length e in
      sym (take-append-drop k out) ∙ ((λ j. e j ++ w.rest j) ∙ ap (λ (m : ℕ). whole ++ drop m before) n)
