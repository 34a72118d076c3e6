-- A path in a buffer, cut where a name ends: the names before the cut and those behind it, as text and as names.
-- Assumes nothing.
use mathlib.Core.List.{List, [], ◌∷◌, ◌++◌, append-nil, append_assoc}
use mathlib.Core.Path.{◌≡◌, refl, sym, ap, ◌∙◌, subst}
use Prim.Native.Nat.{ℕ, suc, ◌+◌, ◌-◌, ◌≤◌, ◌<◌}
use native.Mathlib.Numerals.{add-one}
use native.Mathlib.Omega.{arith}
use lib.ListN.{length, take, drop, get_or, length-drop}
use lib.Seq.{drop-cons, drop-drop, drop_at}
use Rattle.text.specs.Utf8.{Bytes}
use Rattle.path.specs.Path.{Name, pieces, names, body}
use Rattle.path.specs.Backward.{part}
use Rattle.path.specs.Answer.{WholeIs}
use Rattle.path.proofs.Cutting.{NoSlash, pieces-append, pieces-join, part_length, take_part, part-behind}
use Rattle.path.proofs.Dropping.{pieces-body}
use Rattle.path.proofs.Every.{Every, every_first, every-second}
use Rattle.path.proofs.Laws.{Shown, every_map, names-shown, names-body}
use Rattle.path.proofs.Reading.{body-append}

-- the piece that begins at a is the first of the rest
first_piece : (s : Bytes) (a b : ℕ) → WholeIs s a b → (y : Name) (ys : List Name) → pieces (drop a s) ≡ y ∷ ys → part a b s ≡ y
first_piece s a b w y ys e = go (drop b s) refl
  where
    all : (t : Bytes) → drop b s ≡ t → pieces (part a b s ++ t) ≡ y ∷ ys
    all t z = ap (λ (u : Bytes). pieces (part a b s ++ u)) (sym z) ∙ ap pieces (sym (part-behind s a b w.piece.fits)) ∙ e

    go : (t : Bytes) → drop b s ≡ t → part a b s ≡ y
    go [] z =
        let q : part a b s ∷ [] ≡ y ∷ ys = sym w.piece.one ∙ ap pieces (sym (append-nil (part a b s))) ∙ all [] z in
        cc
    go (c ∷ t) z =
        let h : b < length s = omega (arith, length-drop b s, ap length z) in
        let k : c ∷ t ≡ get_or s b 0 ∷ drop (suc b) s = sym z ∙ drop-cons s b 0 h in
        let f : 47 ≡ c = (let g = w.stop h in cc) in
        let q : part a b s ∷ pieces t ≡ y ∷ ys =
        ap (λ (l : List Name). l ++ pieces t) (sym w.piece.one) ∙ sym (pieces-append (part a b s) t) ∙ ap (λ (n : ℕ). pieces (part a b s ++ (n ∷ t))) f ∙ all (c ∷ t) z in
        cc

-- the first e bytes are the names d, the others the names r
pub record Cut (s : Bytes) (e : ℕ) (d r : List Name) : Type 0 where
  pub whole : names s ≡ d ++ r
  pub here : take e s ≡ body d
  pub there : drop e s ≡ body r

pub cut_none : (s : Bytes) → body (names s) ≡ s → Cut s 0 [] (names s)
unfolding body
cut_none s p = record { whole = refl; here = refl; there = sym p }

module _ (s : Bytes) (e : ℕ) (d r : List Name) (c : Cut s e d r) where
  shown : Every Shown (d ++ r)
  shown = subst (Every Shown) c.whole (names-shown s)

  pub cut-before : names (take e s) ≡ d
  cut-before = ap names c.here ∙ names-body d (every_first Shown d r shown)

  pub cut-behind : names (drop e s) ≡ r
  cut-behind = ap names c.there ∙ names-body r (every-second Shown d r shown)

  -- at the end no name is left
  pub cut-end : length s ≤ e → r ≡ []
  unfolding body
  cut-end h = go r c.there
    where
      go : (l : List Name) → drop e s ≡ body l → l ≡ []
      go [] z = refl
      go (n ∷ l) z = absurd (omega (arith, ap length z, length-drop e s, h))

  -- the name behind the cut, which ends at b
  pub record Next (b : ℕ) : Type 0 where
    pub name : Name
    pub more : List Name
    pub rest : r ≡ name ∷ more
    pub is : part (e + 1) b s ≡ name
    pub cut : Cut s b (d ++ (name ∷ [])) more

  module _ (h : e < length s) where
    first_byte : (l : List Name) → drop e s ≡ body l → (n : Name) × (m : List Name) × (l ≡ n ∷ m) × (get_or s e 0 ≡ 47) × (drop (suc e) s ≡ n ++ body m)
    unfolding body
    first_byte [] z = absurd (omega (arith, ap length z, length-drop e s, h))
    first_byte (n ∷ m) z =
        let q : get_or s e 0 ∷ drop (suc e) s ≡ 47 ∷ (n ++ body m) = sym (drop-cons s e 0 h) ∙ z in
        (n, m, refl, cc, cc)

    pub cut-slash : get_or s e 0 ≡ 47
    cut-slash = (first_byte r c.there).3

    pub cut-next : (b : ℕ) → WholeIs s (e + 1) b → Next b
    unfolding body
    cut-next b w =
        let f = first_byte r c.there in
        let n = f.0 in
        let m = f.1 in
        let all : Every NoSlash (n ∷ m) = every_map (λ x z. z.plain) (n ∷ m) (subst (Every Shown) f.2 (every-second Shown d r shown)) in
        let tail : drop (e + 1) s ≡ n ++ body m = ap (λ (k : ℕ). drop k s) (add-one e) ∙ f.4 in
        let ps : pieces (drop (e + 1) s) ≡ n ∷ m = ap pieces tail ∙ pieces-join n (body m) [] m all.0 (pieces-body m all.1) ∙ ap (λ (x : Name). x ∷ m) (append-nil n) in
        let p : part (e + 1) b s ≡ n = first_piece s (e + 1) b w n m ps in
        let long : length n ≡ b - (e + 1) = sym (ap length p) ∙ part_length (e + 1) b s w.fits in
        let k : e + 1 + (b - (e + 1)) ≡ b = omega (arith, w.piece.fits) in
        let back : drop b s ≡ body m = ap (λ (j : ℕ). drop j s) (sym k) ∙ sym (drop-drop (b - (e + 1)) (e + 1) s) ∙ ap (drop (b - (e + 1))) tail ∙ drop_at n (body m) (b - (e + 1)) long in
        let one : take (e + 1) s ≡ body d ++ (47 ∷ []) =
        take_part e (e + 1) s (omega arith) ∙ ap (λ (t : Bytes). take e s ++ t) (let j : e + 1 - e ≡ 1 = omega arith in ap (λ (i : ℕ). take i (drop e s)) j ∙ ap (take 1) (drop-cons s e 0 h) ∙ ap (λ (x : ℕ). x ∷ []) f.3) ∙ ap (λ (t : Bytes). t ++ (47 ∷ [])) c.here in
        let front : take b s ≡ body (d ++ (n ∷ [])) =
        take_part (e + 1) b s w.piece.fits ∙ ap (λ (t : Bytes). t ++ part (e + 1) b s) one ∙ ap (λ (t : Bytes). (body d ++ (47 ∷ [])) ++ t) p
        ∙ append_assoc (body d) (47 ∷ []) n ∙ ap (λ (t : Bytes). body d ++ (47 ∷ t)) (sym (append-nil n)) ∙ sym (body-append d (n ∷ [])) in
        record {
          name = n;
          more = m;
          rest = f.2;
          is = p;
          cut = record { whole = c.whole ∙ ap (λ (l : List Name). d ++ l) f.2 ∙ sym (append_assoc d (n ∷ []) m); here = front; there = back };
        }
