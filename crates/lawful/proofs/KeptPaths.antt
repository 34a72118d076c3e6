-- A kept path: nothing, or a slash and pieces behind it that are names.
-- Assumes nothing.
use mathlib.Core.Bool.{Bool, true, false, ◌&&◌, not, cond}
use mathlib.Core.List.{List, [], ◌∷◌}
use mathlib.Core.Path.{◌≡◌, refl, sym, ap, ◌∙◌, subst}
use Prim.Native.Nat.{ℕ, ◌≤◌}
use native.Mathlib.Omega.{arith}
use lib.Dec.{T, eqb, leb, le→leb}
use lib.ListN.{length}
use borrow.Author.Tests.{ne_eqb}
use Rattle.std.specs.List.{list_all, slice_split, onto_first}
use Rattle.text.specs.Utf8.{Bytes, text}
use Rattle.path.specs.Path.{Name, cut, pieces, keep, vanishes, is_up, no_slash, proper, names, body, same, path_fits}
use Rattle.path.proofs.Cutting.{NoSlash, pieces_no_slash}
use Rattle.path.proofs.Dropping.{body-pieces, names_no_slash, pieces-body}
use Rattle.path.proofs.Every.{Every}
use Rattle.path.proofs.Laws.{and_left, and_right, and_both, same_equal, same_refl, no_slash_lem, Shown, proper-shown, names-body}
use Rattle.model.proofs.Entries.{is_true, of_true}
use Rattle.model.specs.Rules.{name_ok, names_ok, path_ok}
use Rattle.layout.specs.Lawful.{cell_ok}
use Rattle.lawful_entries.specs.Fits.{form_ok}
use Rattle.lawful.specs.Parts.{piece_ok}

-- ---- names

-- a piece without a slash is a name
pub piece-name : (n : Name) → NoSlash n → T (piece_ok n) → T (name_ok n)
unfolding name_ok proper
piece-name n w t =
    let f = and_left (form_ok n) (leb (length n) 255 && text n) t in
    and_both (proper n) (leb (length n) 255 && text n)
    (and_both (not (vanishes n)) (not (is_up n) && no_slash n) (and_left (not (vanishes n)) (not (is_up n)) f)
    (and_both (not (is_up n)) (no_slash n) (and_right (not (vanishes n)) (not (is_up n)) f) (no_slash_lem n w)))
    (and_right (form_ok n) (leb (length n) 255 && text n) t)

name-piece : (n : Name) → T (name_ok n) → T (piece_ok n)
unfolding name_ok proper
name-piece n t =
    let p = and_left (proper n) (leb (length n) 255 && text n) t in
    and_both (form_ok n) (leb (length n) 255 && text n)
    (and_both (not (vanishes n)) (not (is_up n)) (and_left (not (vanishes n)) (not (is_up n) && no_slash n) p)
    (and_left (not (is_up n)) (no_slash n) (and_right (not (vanishes n)) (not (is_up n) && no_slash n) p)))
    (and_right (proper n) (leb (length n) 255 && text n) t)

shown_all : (ns : List Name) → T (names_ok ns) → Every Shown ns
unfolding names_ok name_ok
shown_all [] h = tt
shown_all (n ∷ ns) h =
    (proper-shown n (and_left (proper n) (leb (length n) 255 && text n) (and_left (name_ok n) (names_ok ns) h)), shown_all ns (and_right (name_ok n) (names_ok ns) h))

-- pieces without a slash are names, where the test of each holds
names-tested : (ns : List Name) → Every NoSlash ns → list_all piece_ok ns ≡ true → T (names_ok ns)
unfolding names_ok
names-tested [] w e = tt
names-tested (n ∷ ns) w e =
    let t = of_true e in
    and_both (name_ok n) (names_ok ns) (piece-name n w.0 (and_left (piece_ok n) (list_all piece_ok ns) t)) (names-tested ns w.1 (is_true (list_all piece_ok ns) (and_right (piece_ok n) (list_all piece_ok ns) t)))

tested-names : (ns : List Name) → T (names_ok ns) → list_all piece_ok ns ≡ true
unfolding names_ok
tested-names [] h = refl
tested-names (n ∷ ns) h = rw (is_true (piece_ok n) (name-piece n (and_left (name_ok n) (names_ok ns) h)), tested-names ns (and_right (name_ok n) (names_ok ns) h))

-- ---- reading

-- the pieces are the parts between slashes
pub pieces-split : (s : Bytes) → slice_split (λ b. eqb b 47) s ≡ pieces s
unfolding pieces
pieces-split [] = refl
pieces-split (b ∷ s) = go (eqb b 47) (pieces-split s)
  where
    first : (ps : List Name) → onto_first b ps ≡ cut false b ps
    first [] = refl
    first (p ∷ ps) = refl

    go : (t : Bool) → slice_split (λ b. eqb b 47) s ≡ pieces s → cond t ([] ∷ slice_split (λ b. eqb b 47) s) (onto_first b (slice_split (λ b. eqb b 47) s)) ≡ cut t b (pieces s)
    go true e = ap (λ (ps : List Name). [] ∷ ps) e
    go false e = ap (onto_first b) e ∙ first (pieces s)

-- a kept path has one piece more than names
pub cell-pieces : (s : Bytes) → T (cell_ok s) → (pieces s ≡ [] ∷ names s) × T (names_ok (names s))
unfolding cell_ok path_ok
cell-pieces s h =
    let b : body (names s) ≡ s = same_equal (body (names s)) s (and_right (path_ok (names s)) (same (body (names s)) s) h) in
    (ap pieces (sym b) ∙ pieces-body (names s) (names_no_slash s), and_left (names_ok (names s)) (path_fits (names s)) (and_left (path_ok (names s)) (same (body (names s)) s) h))

fails : (t : Bool) → (T t → ⊥) → false ≡ t
fails true h = absurd (h tt)
fails false h = refl

pub root-kept : true ≡ cell_ok []
unfolding cell_ok path_ok names_ok path_fits names pieces keep vanishes same body
root-kept = refl

-- a text that does not begin with a slash
pub relative-kept : (b : ℕ) (s : Bytes) → (b ≡ 47 → ⊥) → false ≡ cell_ok (b ∷ s)
unfolding pieces
relative-kept b s n = fails (cell_ok (b ∷ s)) (λ t. other (pieces s) (sym (ap (λ (x : Bool). cut x b (pieces s)) (ne_eqb b 47 n)) ∙ (cell-pieces (b ∷ s) t).0))
  where
    other : (ps : List Name) → cut false b ps ≡ [] ∷ names (b ∷ s) → ⊥
    other [] e = absurd (let x : b ∷ [] ≡ [] = cc in cc)
    other (p ∷ ps) e = absurd (let x : b ∷ p ≡ [] = cc in cc)

module _ (s : Bytes) (l : length (47 ∷ s) ≤ 1024) where
  kept-all : list_all piece_ok (pieces s) ≡ true → true ≡ cell_ok (47 ∷ s)
  unfolding cell_ok path_ok path_fits pieces body
  kept-all e =
      let ns = pieces s in
      let h : T (names_ok ns) = names-tested ns (pieces_no_slash s) e in
      let b : 47 ∷ body ns ≡ 47 ∷ (47 ∷ s) = body-pieces (47 ∷ s) in
      let t : body ns ≡ 47 ∷ s = cc in
      let n : names (47 ∷ s) ≡ ns = ap names (sym t) ∙ names-body ns (shown_all ns h) in
      let f : leb (length (body ns)) 1024 ≡ true = is_true (leb (length (body ns)) 1024) (le→leb (length (body ns)) 1024 (omega (arith, ap length t))) in
      let g : same (body ns) (47 ∷ s) ≡ true = ap (λ (x : Bytes). same x (47 ∷ s)) t ∙ is_true (same (47 ∷ s) (47 ∷ s)) (same_refl (47 ∷ s)) in
      sym (ap (λ (x : List Name). (names_ok x && leb (length (body x)) 1024) && same (body x) (47 ∷ s)) n ∙ rw (is_true (names_ok ns) h, f, g))

  kept-some : list_all piece_ok (pieces s) ≡ false → false ≡ cell_ok (47 ∷ s)
  unfolding pieces
  kept-some e = fails (cell_ok (47 ∷ s)) (λ t.
      let c = cell-pieces (47 ∷ s) t in
      let q : pieces s ≡ names (47 ∷ s) = (let x : [] ∷ pieces s ≡ [] ∷ names (47 ∷ s) = c.0 in cc) in
      subst T (sym (tested-names (names (47 ∷ s)) c.1) ∙ ap (list_all piece_ok) (sym q) ∙ e) tt)

  -- one that does is kept where its pieces are names
  pub slash-kept : (t : Bool) → t ≡ list_all piece_ok (pieces s) → t ≡ cell_ok (47 ∷ s)
  slash-kept true e = kept-all (sym e)
  slash-kept false e = kept-some (sym e)
