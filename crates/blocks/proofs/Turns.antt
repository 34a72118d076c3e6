-- Rotations of lists by their parts: a rotation exchanges two parts that stand one behind the other. Assumes nothing.
use mathlib.Core.Path.{◌≡◌, sym, ap, ◌∙◌}
use mathlib.Core.List.{List, ◌++◌, append_assoc}
use Prim.Native.Nat.{ℕ, ◌+◌, ◌-◌, ◌≤◌}
use native.Mathlib.Omega.{arith}
use lib.ListN.{length, take, drop, length-append}
use lib.Seq.{take_at, drop_at, take-append-le, drop-append-le, take-take, drop-drop}
use Rattle.std.proofs.lemmas.Slice.{between_is}
use Rattle.blocks.specs.Turn.{turned}

module _ {A : Type 0} where
  -- a list whose parts are known, turned
  pub turned-parts : (p x y z : List A) (a m e : ℕ) → length p ≡ a → a + length x ≡ m → m + length y ≡ e → turned (p ++ (x ++ (y ++ z))) a m e ≡ p ++ (y ++ (x ++ z))
  unfolding turned
  turned-parts p x y z a m e ha hm he =
      let s : List A = p ++ (x ++ (y ++ z)) in
      let s₁ : s ≡ (p ++ x) ++ (y ++ z) = sym (append_assoc p x (y ++ z)) in
      let s₂ : s ≡ ((p ++ x) ++ y) ++ z = s₁ ∙ sym (append_assoc (p ++ x) y z) in
      let lpx : length (p ++ x) ≡ m = length-append p x ∙ omega arith in
      let lpy : length ((p ++ x) ++ y) ≡ e = length-append (p ++ x) y ∙ omega arith in
      let te : drop m (take e s) ≡ y = ap (λ (l : List A). drop m (take e l)) s₂ ∙ ap (drop m) (take_at ((p ++ x) ++ y) z e lpy) ∙ drop_at (p ++ x) y m lpx in
      let tm : drop a (take m s) ≡ x = ap (λ (l : List A). drop a (take m l)) s₁ ∙ ap (drop a) (take_at (p ++ x) (y ++ z) m lpx) ∙ drop_at p x a ha in
      let de : drop e s ≡ z = ap (drop e) s₂ ∙ drop_at ((p ++ x) ++ y) z e lpy in
      λ i. take_at p (x ++ (y ++ z)) a ha i ++ (te i ++ (tm i ++ de i))

  -- what stands behind the parts stays
  pub turned-append : (p q : List A) (a m e : ℕ) → a ≤ m → m ≤ e → e ≤ length p → turned (p ++ q) a m e ≡ turned p a m e ++ q
  unfolding turned
  turned-append p q a m e h₁ h₂ h₃ =
      let P : List A = take a p in
      let X : List A = drop a (take m p) in
      let Y : List A = drop m (take e p) in
      let Z : List A = drop e p in
      let tm : take m (p ++ q) ≡ take m p = take-append-le m p q (omega arith) in
      let te : take e (p ++ q) ≡ take e p = take-append-le e p q h₃ in
      (λ i. take-append-le a p q (omega arith) i ++ (drop m (te i) ++ (drop a (tm i) ++ drop-append-le e p q h₃ i)))
      ∙ ap (λ (l : List A). P ++ (Y ++ l)) (sym (append_assoc X Z q))
      ∙ ap (λ (l : List A). P ++ l) (sym (append_assoc Y (X ++ Z) q))
      ∙ sym (append_assoc P (Y ++ (X ++ Z)) q)

  -- the part from a to e turned left by the length of its first part
  pub turned_by : (s t : List A) (a m e : ℕ) → a ≤ m → m ≤ e → t ≡ drop (m - a) (take (e - a) (drop a s)) ++ take (m - a) (take (e - a) (drop a s))
      → take a s ++ (t ++ drop (e - a) (drop a s)) ≡ turned s a m e
  unfolding turned
  turned_by s t a m e h k q =
      let on : a + (m - a) ≡ m = omega arith in
      let to : a + (e - a) ≡ e = omega arith in
      let second : drop (m - a) (take (e - a) (drop a s)) ≡ drop m (take e s) =
      ap (drop (m - a)) (between_is s a e) ∙ drop-drop (m - a) a (take e s) ∙ ap (λ (j : ℕ). drop j (take e s)) on in
      let first : take (m - a) (take (e - a) (drop a s)) ≡ drop a (take m s) = take-take (m - a) (e - a) (drop a s) (omega arith) ∙ between_is s a m in
      let rest : drop (e - a) (drop a s) ≡ drop e s = drop-drop (e - a) a s ∙ ap (λ (j : ℕ). drop j s) to in
      (λ i. take a s ++ ((q ∙ (λ j. second j ++ first j)) i ++ rest i))
      ∙ ap (λ (l : List A). take a s ++ l) (append_assoc (drop m (take e s)) (drop a (take m s)) (drop e s))
