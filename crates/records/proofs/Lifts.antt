-- A part of a list changed element by element. The depth of a word changes alone: it stands in the low bits. Assumes nothing.
use mathlib.Core.Path.{◌≡◌, sym, ap, ◌∙◌}
use mathlib.Core.List.{List, ◌++◌, map, append-nil}
use Prim.Native.Nat.{ℕ, suc, ◌+◌, ◌-◌, ◌^◌, ◌≤◌, ◌<◌}
use native.Mathlib.Omega.{arith}
use lib.ListN.{length, take, drop, get_or, length-map, length-take, take-append-drop}
use lib.Seq.{take_all, length-take-le, drop-drop, drop-cons, get_or-take, get_or-drop, get_or_at}
use Rattle.std.proofs.lemmas.List.{drop_all}
use Rattle.std.proofs.lemmas.Slice.{between_is}
use Rattle.blocks.proofs.Cuts.{none_between}
use Rattle.layout.specs.Fields.{depth_of, nlen_of, slot_of}
use Rattle.records.specs.Blocks.{changed, lift, Liftable, Liftables}

-- none is
pub change_none : (f : ℕ → ℕ) (s : List ℕ) (a : ℕ) → s ≡ changed f s a a
change_none f s a = sym (ap (λ (l : List ℕ). take a s ++ (map f l ++ drop a s)) (none_between s a) ∙ take-append-drop a s)

-- each of the part from a to b is changed
pub change-part : {A : Type 0} (f : A → A) (s t : List A) (a b n : ℕ) → a ≤ b → length (take (b - a) (drop a s)) ≤ n
    → t ≡ map f (take n (take (b - a) (drop a s))) ++ drop n (take (b - a) (drop a s)) → take a s ++ (t ++ drop (b - a) (drop a s)) ≡ changed f s a b
change-part {A = A} f s t a b n h l e =
    let p : List A = take (b - a) (drop a s) in
    let to : a + (b - a) ≡ b = omega arith in
    let all : t ≡ map f (drop a (take b s)) =
    e ∙ (λ i. map f (take_all n p l i) ++ drop_all n p l i) ∙ append-nil (map f p) ∙ ap (map f) (between_is s a b) in
    λ i. take a s ++ (all i ++ (drop-drop (b - a) a s ∙ ap (λ (j : ℕ). drop j s) to) i)

-- the word that is read next is still as it was, so its depth may change
pub next-liftable : (f : ℕ → ℕ) (ws t : List ℕ) (a b j u d : ℕ) → j < length (take (b - a) (drop a ws))
    → t ≡ map f (take j (take (b - a) (drop a ws))) ++ drop j (take (b - a) (drop a ws)) → Liftables ws a b u d → Liftable (get_or t j 0) u d
next-liftable f ws t a b j u d l e h =
    let p : List ℕ = take (b - a) (drop a ws) in
    let within : j < b - a = omega (arith, l, length-take (b - a) (drop a ws)) in
    let read : get_or t j 0 ≡ get_or ws (a + j) 0 =
    ap (λ (r : List ℕ). get_or r j 0) (e ∙ ap (λ (r : List ℕ). map f (take j p) ++ r) (drop-cons p j 0 l))
    ∙ get_or_at (map f (take j p)) (get_or p j 0) (drop (suc j) p) 0 j (length-map (take j p) f ∙ length-take-le j p (omega arith))
    ∙ get_or-take (b - a) (drop a ws) j 0 within
    ∙ get_or-drop a ws j 0 in
    rw read (h (a + j) (omega arith) (omega arith))

-- the fields of a word whose depth changes
module _ (w u d : ℕ) (l : Liftable w u d) where
  pub depth-lift : depth_of (lift u d w) ≡ depth_of w + u - d
  depth-lift = omega (arith, l.low, l.high)

  pub nlen-lift : nlen_of (lift u d w) ≡ nlen_of w
  nlen-lift = omega (arith, l.low, l.high)

  pub slot-lift : slot_of (lift u d w) ≡ slot_of w
  slot-lift = omega (arith, l.low, l.high)

  -- and it still fits
  pub word-lift : w < 2 ^ 64 → lift u d w < 2 ^ 64
  word-lift h = omega (arith, l.low, l.high)
