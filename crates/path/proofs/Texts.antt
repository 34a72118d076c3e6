-- Laws of `is_absolute` and of a text's lengths.
-- Assumes nothing.
use mathlib.Core.Bool.{Bool, true, false, ◌&&◌}
use mathlib.Core.List.{List, [], ◌∷◌, ◌++◌}
use mathlib.Core.Path.{◌≡◌, refl, sym, ap, ◌∙◌}
use Prim.Native.Nat.{ℕ, ◌+◌, ◌≤◌, ◌<◌}
use native.Mathlib.Numerals.{add-one}
use native.Mathlib.Omega.{arith}
use lib.Dec.{leb}
use lib.ListN.{length, take, drop, get_or, length-append, length-take, take-append-drop}
use lib.Seq.{drop-cons, get_or-take, length-take-le}
use borrow.Author.Tests.{eq-eqb, ne_eqb, le-leb, lt-leb}
use Rattle.text.specs.Utf8.{Bytes}
use Rattle.path.specs.Path.{Name, pieces, is_absolute, body, all_short, lengths_ok}
use Rattle.path.proofs.Cutting.{NoSlash, first, no_slash-reads, pieces-append, pieces-join}
use Rattle.path.proofs.Dropping.{body-pieces}
use Rattle.path.proofs.Following.{never}
use Rattle.path.proofs.Reading.{body-cons-length}

pub absolute-empty : (s : Bytes) → length s ≡ 0 → false ≡ is_absolute s
unfolding is_absolute
absolute-empty [] l = refl
absolute-empty (b ∷ s) l = absurd (omega arith)

pub absolute-slash : (s : Bytes) → 0 < length s → get_or s 0 0 ≡ 47 → true ≡ is_absolute s
unfolding is_absolute
absolute-slash [] l h = absurd (omega arith)
absolute-slash (b ∷ s) l h = sym (eq-eqb b 47 h)

pub absolute-other : (s : Bytes) → (get_or s 0 0 ≡ 47 → ⊥) → false ≡ is_absolute s
unfolding is_absolute
absolute-other [] h = refl
absolute-other (b ∷ s) h = sym (ne_eqb b 47 h)

-- whether a text is absolute
pub ruleset absolutes = (absolute-empty, absolute-slash, absolute-other)

-- ---- lengths

-- names whose text is short are short
short-body : (ns : List Name) → length (body ns) ≤ 256 → all_short ns ≡ true
unfolding all_short
short-body [] l = refl
short-body (n ∷ ns) l =
    let g : length (body (n ∷ ns)) ≡ length n + 1 + length (body ns) = body-cons-length n ns in
    rw (le-leb (length n) 255 (omega arith)) (short-body ns (omega arith))

-- the pieces of a short text
pub short-text : (t : Bytes) → length t ≤ 255 → all_short (pieces t) ≡ true
short-text t l = short-body (pieces t) (omega (arith, ap length (body-pieces t)))

-- short names in front decide nothing
short-append : (x y : List Name) → all_short x ≡ true → all_short (x ++ y) ≡ all_short y
unfolding all_short
short-append [] y h = refl
short-append (n ∷ x) y h = go (short-append x y) (leb (length n) 255) h
  where
    go : (all_short x ≡ true → all_short (x ++ y) ≡ all_short y) → (t : Bool) → t && all_short x ≡ true → t && all_short (x ++ y) ≡ all_short y
    go ih true e = ih e
    go ih false e = never e

-- what the first 256 bytes tell, `head`
module _ (t head : Bytes) (e : head ≡ take 256 t) where
  -- a slash stands in them: the pieces before it are short
  pub short-on : (i : ℕ) → i < length head → get_or head i 0 ≡ 47 → all_short (pieces t) ≡ all_short (pieces (drop (i + 1) t))
  short-on i h q =
      let n : i < 256 = omega (arith, ap length e, length-take 256 t) in
      let l : i < length t = omega (arith, ap length e, length-take 256 t) in
      let b : get_or t i 0 ≡ 47 = sym (get_or-take 256 t i 0 n) ∙ ap (λ (x : Bytes). get_or x i 0) (sym e) ∙ q in
      let c : t ≡ take i t ++ (47 ∷ drop (i + 1) t) = sym (take-append-drop i t) ∙ ap (λ (x : Bytes). take i t ++ x) (rw (add-one, ← b) (drop-cons t i 0 l)) in
      ap (λ (x : Bytes). all_short (pieces x)) c ∙ ap all_short (pieces-append (take i t) (drop (i + 1) t))
      ∙ short-append (pieces (take i t)) (pieces (drop (i + 1) t)) (short-text (take i t) (omega (arith, length-take i t)))

  -- none does: a name has more than 255 bytes
  pub short-none : 256 ≤ length t → ((k : ℕ) → k < length head → get_or head k 0 ≡ 47 → ⊥) → all_short (pieces t) ≡ false
  unfolding all_short
  short-none l h =
      let none : NoSlash head = no_slash-reads head h in
      let f = first (drop 256 t) in
      let long : leb (length (head ++ f.0)) 255 ≡ false =
      lt-leb (length (head ++ f.0)) 255 (omega (arith, ap length e, length-take-le 256 t l, length-append head f.0)) in
      ap (λ (x : Bytes). all_short (pieces x)) (sym (take-append-drop 256 t) ∙ ap (λ (x : Bytes). x ++ drop 256 t) (sym e))
      ∙ ap all_short (pieces-join head (drop 256 t) f.0 f.1 none f.2) ∙ ap (λ (b : Bool). b && all_short f.1) long

-- of a text that is not too long the pieces decide
pub lengths-pieces : (s : Bytes) → length s ≤ 1024 → all_short (pieces s) ≡ lengths_ok s
unfolding lengths_ok
lengths-pieces s l = rw (le-leb (length s) 1024 l)

pub too_long : (s : Bytes) → 1024 < length s → false ≡ lengths_ok s
unfolding lengths_ok
too_long s h = rw (lt-leb (length s) 1024 h)
