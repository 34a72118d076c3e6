-- The text of a path without its last names: the piece that is read from the end is the last name.
-- Assumes nothing.
use mathlib.Core.List.{List, [], ◌∷◌, ◌++◌, drop_last, append-nil, cons-ne-nil}
use mathlib.Core.Path.{◌≡◌, refl, sym, ap, ◌∙◌}
use Prim.Native.Nat.{ℕ, zero, suc, ◌+◌, ◌-◌, ◌≤◌, ◌<◌}
use native.Mathlib.Numerals.{add-one}
use native.Mathlib.Omega.{arith}
use lib.Dec.{eqb}
use lib.ListN.{length, take}
use lib.Seq.{length-take-le}
use mathlib.Core.Bool.{Bool, true, false}
use borrow.Author.Tests.{eqb-true}
use Rattle.text.specs.Utf8.{Bytes}
use Rattle.path.specs.Path.{Name, cut, pieces, names, body}
use Rattle.path.specs.Backward.{front, part, drop_n}
use Rattle.path.proofs.Cutting.{NoSlash, first, pieces-join, pieces_no_slash}
use Rattle.path.proofs.Every.{Every, every-keep}
use Rattle.path.proofs.Reading.{drop_last-snoc}

-- the pieces, a slash before each, are the text behind a slash
pub body-pieces : (s : Bytes) → body (pieces s) ≡ 47 ∷ s
unfolding pieces body
body-pieces [] = refl
body-pieces (b ∷ s) = go (body-pieces s) (eqb b 47) refl
  where
    go : body (pieces s) ≡ 47 ∷ s → (t : Bool) → eqb b 47 ≡ t → body (cut t b (pieces s)) ≡ 47 ∷ (b ∷ s)
    go ih true e = ap (λ (x : Bytes). 47 ∷ x) (ih ∙ ap (λ (x : ℕ). x ∷ s) (sym (eqb-true b 47 e)))
    go ih false e =
        let f = first s in
        let q : 47 ∷ (f.0 ++ body f.1) ≡ 47 ∷ s = sym (ap body f.2) ∙ ih in
        let r : f.0 ++ body f.1 ≡ s = cc in
        ap (λ (ps : List Name). body (cut false b ps)) f.2 ∙ ap (λ (x : Bytes). 47 ∷ (b ∷ x)) r

-- no name of a text holds a slash
pub names_no_slash : (s : Bytes) → Every NoSlash (names s)
unfolding names
names_no_slash s = every-keep NoSlash (pieces s) (pieces_no_slash s)

-- the text of a path reads back as its names, behind the empty piece before the first slash
pub pieces-body : (ns : List Name) → Every NoSlash ns → pieces (body ns) ≡ [] ∷ ns
unfolding pieces body
pieces-body [] h = refl
pieces-body (n ∷ ns) h =
    ap (λ (ps : List Name). [] ∷ ps) (pieces-join n (body ns) [] ns h.0 (pieces-body ns h.1) ∙ ap (λ (x : Name). x ∷ ns) (append-nil n))

module _ (s : Bytes) (h : ℕ) (n : Name) (ns : List Name) (all : Every NoSlash (n ∷ ns)) (text : take h s ≡ body (n ∷ ns)) where
  -- what stands before the last piece
  before : (a : ℕ) → front (h + 1) s ≡ front a s ++ (part a h s ∷ []) → front a s ≡ [] ∷ drop_last (n ∷ ns)
  unfolding front
  before a last =
      let e : pieces (take h s) ≡ front a s ++ (part a h s ∷ []) = rw add-one at last in
      sym (drop_last-snoc (front a s) (part a h s)) ∙ ap drop_last (sym e ∙ ap pieces text ∙ pieces-body (n ∷ ns) all)

  pub drop-step-name : (a : ℕ) → front (h + 1) s ≡ front a s ++ (part a h s ∷ []) → (0 < a) × (take (a - 1) s ≡ body (drop_last (n ∷ ns)))
  unfolding front body
  drop-step-name zero last = absurd (cons-ne-nil [] (drop_last (n ∷ ns)) (sym (before zero last)))
  drop-step-name (suc k) last =
      let e : pieces (take k s) ≡ [] ∷ drop_last (n ∷ ns) = before (suc k) last in
      let q : 47 ∷ take k s ≡ 47 ∷ body (drop_last (n ∷ ns)) = sym (body-pieces (take k s)) ∙ ap body e in
      let m : suc k - 1 ≡ k = omega arith in
      (omega arith, rw m (cc))

-- a turn of the loop
pub drop-step : (s : Bytes) (h a : ℕ) (cur : List Name) → 0 < h → h ≤ length s → Every NoSlash cur → take h s ≡ body cur
    → front (h + 1) s ≡ front a s ++ (part a h s ∷ []) → (0 < a) × (take (a - 1) s ≡ body (drop_last cur))
unfolding body
drop-step s h a [] z fits all t last = absurd (omega (arith, ap length t, length-take-le h s fits))
drop-step s h a (n ∷ ns) z fits all t last = drop-step-name s h n ns all t a last

body-nil : (ns : List Name) → body ns ≡ [] → ns ≡ []
unfolding body
body-nil [] h = refl
body-nil (n ∷ ns) h = absurd (cons-ne-nil 47 (n ++ body ns) h)

pub drop_n-nil : (k : ℕ) → drop_n k [] ≡ []
unfolding drop_n
drop_n-nil zero = refl
drop_n-nil (suc k) = drop_n-nil k

-- at the root nothing is left to drop
pub drop_all : (s : Bytes) (h j : ℕ) (cur ns : List Name) → h ≡ 0 → take h s ≡ body cur → ns ≡ drop_n j cur → [] ≡ body ns
unfolding body
drop_all s h j cur ns z t e =
    let b : [] ≡ body cur = rw z at t in
    sym (ap body (e ∙ ap (λ (r : List Name). drop_n j r) (body-nil cur (sym b)) ∙ drop_n-nil j))

pub drop-done : (j : ℕ) (cur ns : List Name) → j ≡ 0 → ns ≡ drop_n j cur → ns ≡ cur
unfolding drop_n
drop-done j cur ns z e = e ∙ ap (λ (k : ℕ). drop_n k cur) z

pub drop_next : (j : ℕ) (cur ns : List Name) → 0 < j → ns ≡ drop_n j cur → ns ≡ drop_n (j - 1) (drop_last cur)
unfolding drop_n
drop_next j cur ns z e =
    let q : j ≡ suc (j - 1) = omega arith in
    e ∙ ap (λ (k : ℕ). drop_n k cur) q
