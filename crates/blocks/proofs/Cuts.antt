-- Lists by their parts, and what a move makes of the parts: a list is its part up to a, that from a to m, that from m to e and the
-- rest, and each law follows by taking and dropping whole parts. Assumes nothing.
use mathlib.Core.Path.{◌≡◌, refl, sym, ap, ◌∙◌}
use mathlib.Core.List.{List, [], ◌∷◌, ◌++◌, append_assoc}
use Prim.Native.Nat.{ℕ, zero, suc, ◌+◌, ◌≤◌}
use native.Mathlib.Omega.{arith}
use lib.ListN.{length, take, drop, length-append, take-append-drop}
use lib.Seq.{paste, take_at, drop_at, take-append-le, drop-append-le, take-take, take-add, take-length, drop-drop}
pub use Rattle.std.proofs.lemmas.List.{drop-take}
use Rattle.blocks.specs.Moved.{moved}

module _ {A : Type 0} where
  -- a list up to a, then on to m
  pub up_to : (s : List A) (a m : ℕ) → a ≤ m → take a s ++ drop a (take m s) ≡ take m s
  up_to s a m h = ap (λ (l : List A). l ++ drop a (take m s)) (sym (take-take a m s h)) ∙ take-append-drop a (take m s)

  -- nothing stands between a and a
  pub none_between : (s : List A) (a : ℕ) → drop a (take a s) ≡ []
  none_between s zero = refl
  none_between [] (suc a) = refl
  none_between (x ∷ s) (suc a) = none_between s a

  -- in three parts
  pub thirds : (s : List A) (a m : ℕ) → a ≤ m → s ≡ take a s ++ (drop a (take m s) ++ drop m s)
  thirds s a m h =
      sym (take-append-drop m s) ∙ ap (λ (l : List A). l ++ drop m s) (sym (up_to s a m h)) ∙ append_assoc (take a s) (drop a (take m s)) (drop m s)

  -- in four
  pub quarter : (s : List A) (a m e : ℕ) → a ≤ m → m ≤ e → s ≡ take a s ++ (drop a (take m s) ++ (drop m (take e s) ++ drop e s))
  quarter s a m e h k =
      let X : List A = take a s in
      let Y : List A = drop a (take m s) in
      thirds s m e k ∙ ap (λ (l : List A). l ++ (drop m (take e s) ++ drop e s)) (sym (up_to s a m h)) ∙ append_assoc X Y (drop m (take e s) ++ drop e s)

  -- a part moved down over the g elements before it
  pub down : (p g m q : List A) (a n k : ℕ) → length p ≡ a → length g ≡ n → length m ≡ k
      → moved (p ++ (g ++ (m ++ q))) (a + n) a k ≡ p ++ (m ++ (drop k (g ++ m) ++ q))
  unfolding moved
  down p g m q a n k ha hn hk =
      let s : List A = p ++ (g ++ (m ++ q)) in
      let one : take a s ≡ p = take_at p (g ++ (m ++ q)) a ha in
      let two : take k (drop (a + n) s) ≡ m =
      ap (take k) (sym (drop-drop n a s) ∙ ap (drop n) (drop_at p (g ++ (m ++ q)) a ha) ∙ drop_at g (m ++ q) n hn) ∙ take_at m q k hk in
      let three : drop (a + k) s ≡ drop k (g ++ m) ++ q =
      sym (drop-drop k a s) ∙ ap (drop k) (drop_at p (g ++ (m ++ q)) a ha ∙ sym (append_assoc g m q)) ∙ drop-append-le k (g ++ m) q (rw length-append (omega arith)) in
      (λ i. one i ++ two i ++ three i) ∙ append_assoc p m (drop k (g ++ m) ++ q)

  -- a part moved up over the g elements behind it
  pub up : (p m g q : List A) (a n k : ℕ) → length p ≡ a → length g ≡ n → length m ≡ k
      → moved (p ++ (m ++ (g ++ q))) a (a + n) k ≡ p ++ (take n (m ++ g) ++ (m ++ q))
  unfolding moved
  up p m g q a n k ha hn hk =
      let s : List A = p ++ (m ++ (g ++ q)) in
      let one : take (a + n) s ≡ p ++ take n (m ++ g) =
      take-add a n s ∙ (λ i. take_at p (m ++ (g ++ q)) a ha i ++ take n (drop_at p (m ++ (g ++ q)) a ha i))
      ∙ ap (λ (l : List A). p ++ take n l) (sym (append_assoc m g q)) ∙ ap (λ (l : List A). p ++ l) (take-append-le n (m ++ g) q (rw length-append (omega arith))) in
      let two : take k (drop a s) ≡ m = ap (take k) (drop_at p (m ++ (g ++ q)) a ha) ∙ take_at m (g ++ q) k hk in
      let e : a + n + k ≡ a + (k + n) = omega arith in
      let three : drop (a + n + k) s ≡ q =
      ap (λ (j : ℕ). drop j s) e ∙ sym (drop-drop (k + n) a s) ∙ ap (drop (k + n)) (drop_at p (m ++ (g ++ q)) a ha)
      ∙ sym (drop-drop n k (m ++ (g ++ q))) ∙ ap (drop n) (drop_at m (g ++ q) k hk) ∙ drop_at g q n hn in
      (λ i. one i ++ two i ++ three i) ∙ ap (λ (l : List A). l ++ q) (append_assoc p (take n (m ++ g)) m) ∙ append_assoc p (take n (m ++ g) ++ m) q
      ∙ ap (λ (l : List A). p ++ l) (append_assoc (take n (m ++ g)) m q)

  -- x put over as many elements
  pub over : (p o x z : List A) (a : ℕ) → length p ≡ a → length o ≡ length x → paste (p ++ (o ++ z)) a x (length x) ≡ p ++ (x ++ z)
  over p o x z a h l =
      let s : List A = p ++ (o ++ z) in
      let high : drop (a + length x) s ≡ z = ap (drop (a + length x)) (sym (append_assoc p o z)) ∙ drop_at (p ++ o) z (a + length x) (length-append p o ∙ omega arith) in
      (λ i. take_at p (o ++ z) a h i ++ take-length x i ++ high i) ∙ append_assoc p x z
