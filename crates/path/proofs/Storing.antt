-- Names stored in a buffer from the right: each goes in front of what is stored, and the rest of the buffer stays.
-- Assumes nothing.
use mathlib.Core.List.{List, [], ◌∷◌, ◌++◌, append_assoc}
use mathlib.Core.Path.{◌≡◌, refl, sym, ap, ◌∙◌}
use Prim.Native.Nat.{ℕ, ◌+◌, ◌≤◌}
use native.Mathlib.Omega.{arith}
use lib.ListN.{length, take, drop}
use lib.Seq.{take_at, take-take, drop_at, length-take-le}
use Rattle.text.specs.Utf8.{Bytes}
use Rattle.path.specs.Path.{Name, body}
use Rattle.path.proofs.Reading.{body-cons-length}

-- what is stored so far: the names `kept` from `at` to `end`
pub record Stored (before out : Bytes) (at end : ℕ) (kept : List Name) : Type 0 where
  pub width : at + length (body kept) ≡ end
  pub front : take at out ≡ take at before
  pub back : drop at out ≡ body kept ++ drop end before

pub stored_none : (out : Bytes) (end : ℕ) → Stored out out end end []
unfolding body
stored_none out end = record { width = omega arith; front = refl; back = refl }

module _ (before out : Bytes) (at end : ℕ) (kept : List Name) (w : Stored before out at end kept) where
  -- a name more
  pub stored_more : (out' : Bytes) (at' : ℕ) (n : Name) → at ≤ length out → at' + 1 + length n ≡ at
      → out' ≡ take at' out ++ ((47 ∷ n) ++ drop (at' + 1 + length n) out) → Stored before out' at' end (n ∷ kept)
  unfolding body
  stored_more out' at' n room e put =
      let l : length (take at' out) ≡ at' = length-take-le at' out (omega arith) in
      let m : at' ≤ at = omega arith in
      record {
        width = omega (arith, w.width, body-cons-length n kept);
        front = ap (λ (x : Bytes). take at' x) put ∙ take_at (take at' out) ((47 ∷ n) ++ drop (at' + 1 + length n) out) at' l
            ∙ sym (take-take at' at out m) ∙ ap (λ (x : Bytes). take at' x) w.front ∙ take-take at' at before m;
        back = ap (λ (x : Bytes). drop at' x) put ∙ drop_at (take at' out) ((47 ∷ n) ++ drop (at' + 1 + length n) out) at' l
            ∙ ap (λ (x : ℕ). (47 ∷ n) ++ drop x out) e ∙ ap (λ (x : Bytes). (47 ∷ n) ++ x) w.back
            ∙ sym (append_assoc (47 ∷ n) (body kept) (drop end before));
      }
