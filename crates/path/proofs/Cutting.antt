-- The pieces of a text: a text cut at a slash has the pieces of both sides, and a stretch without a slash is one piece.
-- Assumes nothing.
use mathlib.Core.Bool.{Bool, true, false}
use mathlib.Core.List.{List, [], ◌∷◌, ◌++◌}
use mathlib.Core.Path.{◌≡◌, refl, sym, ap, ◌∙◌}
use Prim.Native.Nat.{ℕ, zero, suc, ◌+◌, ◌-◌, ◌≤◌, ◌<◌}
use native.Mathlib.Numerals.{add-one}
use native.Mathlib.Omega.{arith}
use lib.Dec.{eqb}
use lib.ListN.{length, take, drop, get_or, length-take, length-drop, take-append-drop}
use lib.Seq.{append_snoc, take_all, drop-cons, drop-drop, take-add, take-suc, get_or-take, get_or-drop, length-take-le}
use borrow.Author.Tests.{ne_eqb, eqb-false}
use Rattle.text.specs.Utf8.{Bytes}
use Rattle.path.specs.Path.{Name, cut, pieces}
use Rattle.path.specs.Backward.{front, part}
use Rattle.path.specs.Answer.{PieceIs, WholeIs}
use Rattle.path.proofs.Every.{Every}

-- ---- cutting

-- there is always a first piece
pub first : (s : Bytes) → (h : Name) × (r : List Name) × (pieces s ≡ h ∷ r)
unfolding pieces
first [] = ([], [], refl)
first (b ∷ s) = go (first s) (eqb b 47)
  where
    go : (h : Name) × (r : List Name) × (pieces s ≡ h ∷ r) → (t : Bool) → (h : Name) × (r : List Name) × (cut t b (pieces s) ≡ h ∷ r)
    go f true = ([], pieces s, refl)
    go f false = (b ∷ f.0, f.1, ap (λ (ps : List Name). cut false b ps) f.2)

cut-append : (t : Bool) (b : ℕ) (x : Bytes) (qs : List Name) → cut t b (pieces x ++ qs) ≡ cut t b (pieces x) ++ qs
cut-append true b x qs = refl
cut-append false b x qs = rw (first x).2

-- a text cut at a slash
pub pieces-append : (x y : Bytes) → pieces (x ++ (47 ∷ y)) ≡ pieces x ++ pieces y
unfolding pieces
pieces-append [] y = refl
pieces-append (b ∷ x) y = ap (λ (ps : List Name). cut (eqb b 47) b ps) (pieces-append x y) ∙ cut-append (eqb b 47) b x (pieces y)

-- a stretch without a slash
abbrev pub NoSlash : Name → Type 0
NoSlash [] = Unit {0}
NoSlash (b ∷ n) = (b ≡ 47 → ⊥) × NoSlash n

pub whole : (n : Name) → NoSlash n → pieces n ≡ n ∷ []
unfolding pieces
whole [] h = refl
whole (b ∷ n) h = rw (ne_eqb b 47 h.0, whole n h.1)

-- a stretch that is read byte by byte
pub no_slash-reads : (n : Name) → ((k : ℕ) → k < length n → get_or n k 0 ≡ 47 → ⊥) → NoSlash n
no_slash-reads [] h = tt
no_slash-reads (b ∷ n) h = (h 0 (omega arith), no_slash-reads n (λ k l. h (suc k) (omega arith)))

-- it joins the first piece of what follows
pub pieces-join : (n t : Bytes) (h : Name) (r : List Name) → NoSlash n → pieces t ≡ h ∷ r → pieces (n ++ t) ≡ (n ++ h) ∷ r
unfolding pieces
pieces-join [] t h r w e = e
pieces-join (b ∷ n) t h r w e = rw (ne_eqb b 47 w.0, pieces-join n t h r w.1 e)

-- no piece holds a slash
pub pieces_no_slash : (s : Bytes) → Every NoSlash (pieces s)
unfolding pieces
pieces_no_slash [] = (tt, tt)
pieces_no_slash (b ∷ s) = go (pieces s) (pieces_no_slash s) (eqb b 47) refl
  where
    go : (ps : List Name) → Every NoSlash ps → (t : Bool) → eqb b 47 ≡ t → Every NoSlash (cut t b ps)
    go ps h true e = (tt, h)
    go [] h false e = ((eqb-false b 47 e, tt), tt)
    go (p ∷ ps) h false e = ((eqb-false b 47 e, h.0), h.1)

-- ---- parts

pub part-empty : (e : ℕ) (s : Bytes) → part e e s ≡ []
part-empty e s = let z : e - e ≡ 0 = omega arith in rw z

pub part-cons : (a e : ℕ) (s : Bytes) → a < e → e ≤ length s → part a e s ≡ get_or s a 0 ∷ part (suc a) e s
part-cons a e s h k =
    let n : e - a ≡ suc (e - suc a) = omega arith in
    let l : a < length s = omega arith in
    rw (n, drop-cons s a 0 l)

pub part_length : (a e : ℕ) (s : Bytes) → e ≤ length s → length (part a e s) ≡ e - a
part_length a e s k = simp (length-take, length-drop) (omega arith)

pub take_part : (a e : ℕ) (s : Bytes) → a ≤ e → take e s ≡ take a s ++ part a e s
take_part a e s h =
    let n : e ≡ a + (e - a) = omega arith in
    ap (λ (k : ℕ). take k s) n ∙ take-add a (e - a) s

-- what is taken and then dropped, dropped first
pub drop_of_take : {A : Type 0} (m n : ℕ) (l : List A) → drop m (take n l) ≡ take (n - m) (drop m l)
drop_of_take zero n l = let e : n ≡ n - 0 = omega arith in ap (λ (k : ℕ). take k l) e
drop_of_take (suc m) zero l = let e : 0 ≡ 0 - suc m = omega arith in ap (λ (k : ℕ). take k (drop (suc m) l)) e
drop_of_take (suc m) (suc n) [] = sym (take_all (suc n - suc m) [] (omega arith))
drop_of_take (suc m) (suc n) (a ∷ l) = let e : n - m ≡ suc n - suc m = omega arith in drop_of_take m n l ∙ ap (λ (k : ℕ). take k (drop m l)) e

-- the text behind a, cut at b
pub part-behind : (s : Bytes) (a b : ℕ) → a ≤ b → drop a s ≡ part a b s ++ drop b s
part-behind s a b h =
    let e : a + (b - a) ≡ b = omega arith in
    sym (take-append-drop (b - a) (drop a s)) ∙ ap (λ (t : Bytes). part a b s ++ t) (drop-drop (b - a) a s ∙ ap (λ (k : ℕ). drop k s) e)

-- a part cut in two
pub part-append : (a b e : ℕ) (s : Bytes) → a ≤ b → b ≤ e → part a e s ≡ part a b s ++ part b e s
part-append a b e s h k =
    let n : e - a - (b - a) ≡ e - b = omega arith in
    let m : a + (b - a) ≡ b = omega arith in
    take_part (b - a) (e - a) (drop a s) (omega arith) ∙ rw (drop-drop, n, m)

-- a part cut in two at a slash
pub part_cut : (a b e : ℕ) (s : Bytes) → a ≤ b → b < e → e ≤ length s → get_or s b 0 ≡ 47
    → pieces (part a e s) ≡ pieces (part a b s) ++ pieces (part (suc b) e s)
part_cut a b e s h k l q = rw (part-append a b e s h (omega arith), part-cons b e s k l, q) (pieces-append (part a b s) (part (suc b) e s))

pub part_step : (a e : ℕ) (s : Bytes) → 0 < a → a ≤ e → e ≤ length s → part (a - 1) e s ≡ get_or s (a - 1) 0 ∷ part a e s
part_step a e s z h k =
    let q : suc (a - 1) ≡ a = omega arith in
    rw q at (part-cons (a - 1) e s (omega arith) k)

-- ---- the last pieces

-- what stands in front of a slash, or of the whole text, and then the pieces from there on
pub front-part : (s : Bytes) (a e : ℕ) → a ≤ e → e ≤ length s → (0 < a → get_or s (a - 1) 0 ≡ 47)
    → front (suc e) s ≡ front a s ++ pieces (part a e s)
unfolding front
front-part s zero e h l f = rw (take_part 0 e s h)
front-part s (suc k) e h l f =
    let i : k < length s = omega arith in
    let m : suc k - 1 ≡ k = omega arith in
    let q : get_or s k 0 ≡ 47 = rw m at (f (omega arith)) in
    rw (take_part (suc k) e s h, take-suc s k 0 i, q, append_snoc) (pieces-append (take k s) (part (suc k) e s))

-- a stretch without a slash, behind one or at the start
pub piece_is : (s : Bytes) (a e : ℕ) → a ≤ e → e ≤ length s → NoSlash (part a e s) → (0 < a → get_or s (a - 1) 0 ≡ 47) → PieceIs s a e
piece_is s a e h l w f =
    let o = whole (part a e s) w in
    record { fits = h; last = rw add-one (front-part s a e h l f ∙ ap (λ (r : List Name). front a s ++ r) o); one = o; slash = f }

-- ---- found from its end, in the first e bytes

module _ (s : Bytes) (e : ℕ) (l : e ≤ length s) where
  -- behind their last slash
  pub piece_behind : (i : ℕ) → i < length (take e s) → get_or (take e s) i 0 ≡ 47
      → ((k : ℕ) → i + 1 ≤ k → k < length (take e s) → get_or (take e s) k 0 ≡ 47 → ⊥) → PieceIs s (i + 1) e
  piece_behind i h q w =
      let n : length (take e s) ≡ e = length-take-le e s l in
      let m : i < e = omega arith in
      let z : i + 1 - 1 ≡ i = omega arith in
      piece_is s (i + 1) e (omega arith) l
      (no_slash-reads (part (i + 1) e s) (λ k b p.
      let o : k < e - (i + 1) = omega (arith, part_length (i + 1) e s l) in
      let j : i + 1 + k < e = omega arith in
      w (i + 1 + k) (omega arith) (omega arith)
      (get_or-take e s (i + 1 + k) 0 j ∙ sym (get_or-drop (i + 1) s k 0) ∙ sym (get_or-take (e - (i + 1)) (drop (i + 1) s) k 0 o) ∙ p)))
      (λ _. rw z (sym (get_or-take e s i 0 m) ∙ q))

  -- there is none
  pub piece_first : ((k : ℕ) → k < length (take e s) → get_or (take e s) k 0 ≡ 47 → ⊥) → PieceIs s 0 e
  piece_first w =
      let z : e - 0 ≡ e = omega arith in
      piece_is s 0 e (omega arith) l (rw z (no_slash-reads (take e s) w)) (λ h. absurd (omega arith))

-- ---- found from its front, in what stands from a on

module _ (s : Bytes) (a : ℕ) (l : a ≤ length s) where
  pub whole_is : (j : ℕ) → a + j ≤ length s → ((k : ℕ) → k < j → get_or (take (length s - a) (drop a s)) k 0 ≡ 47 → ⊥)
      → (0 < a → get_or s (a - 1) 0 ≡ 47) → (a + j < length s → get_or s (a + j) 0 ≡ 47) → WholeIs s a (a + j)
  whole_is j h w f g =
      let n : a + j - a ≡ j = omega arith in
      let none : NoSlash (take j (drop a s)) = no_slash-reads (take j (drop a s)) (λ k b p.
      let o : k < j = omega (arith, length-take j (drop a s)) in
      let i : k < length s - a = omega arith in
      w k o (get_or-take (length s - a) (drop a s) k 0 i ∙ sym (get_or-take j (drop a s) k 0 o) ∙ p)) in
      record { piece = piece_is s a (a + j) (omega arith) h (rw n none) f; fits = h; stop = g }

  -- up to its first slash
  pub whole_before : (i : ℕ) → i < length (take (length s - a) (drop a s)) → get_or (take (length s - a) (drop a s)) i 0 ≡ 47
      → ((k : ℕ) → k < i → get_or (take (length s - a) (drop a s)) k 0 ≡ 47 → ⊥) → (0 < a → get_or s (a - 1) 0 ≡ 47) → WholeIs s a (a + i)
  whole_before i h q w f =
      let o : i < length s - a = omega (arith, length-take (length s - a) (drop a s)) in
      whole_is i (omega arith) w f (λ _. sym (get_or-drop a s i 0) ∙ sym (get_or-take (length s - a) (drop a s) i 0 o) ∙ q)

  -- there is none
  pub whole_last : ((k : ℕ) → k < length (take (length s - a) (drop a s)) → get_or (take (length s - a) (drop a s)) k 0 ≡ 47 → ⊥)
      → (0 < a → get_or s (a - 1) 0 ≡ 47) → WholeIs s a (length s)
  whole_last w f =
      let n : a + (length s - a) ≡ length s = omega arith in
      let m : length (take (length s - a) (drop a s)) ≡ length s - a = length-take-le (length s - a) (drop a s) (omega (arith, length-drop a s)) in
      rw n at (whole_is (length s - a) (omega arith) (λ k h. w k (omega arith)) f (λ h. absurd (omega arith)))
