-- A path read from its end gives what reading it from the front gives: a `..` counts a name to drop, and the next name
-- met on the way to the front is dropped instead of kept.
-- Assumes nothing.
use mathlib.Core.Bool.{Bool, true, false, cond}
use mathlib.Core.List.{List, [], ◌∷◌, ◌++◌, drop_last, append-nil, append_assoc}
use mathlib.Core.Path.{◌≡◌, refl, sym, ap, ◌∙◌, subst}
use Prim.Native.Nat.{ℕ, zero, suc, ◌+◌, ◌-◌, ◌≤◌, ◌<◌}
use native.Mathlib.Nat.{le_refl, le_trans}
use native.Mathlib.Numerals.{add-one}
use native.Mathlib.Omega.{arith}
use lib.ListN.{length, length-append}
use lib.Seq.{append_snoc, take-length}
use Rattle.std.specs.Prelude.{Option, Some, None}
use Rattle.text.specs.Utf8.{Bytes}
use Rattle.path.specs.Path.{Name, pieces, vanishes, is_up, keep, names, norm, body}
use Rattle.path.specs.Backward.{kind_by, kind_of, Sifted, mk, keep_one, sift_one, sift, sifted, front, part, drop_n}
use Rattle.path.specs.Answer.{PieceIs, NextIs}
use Rattle.path.specs.declared.pieces.Piece.{Piece}
use Rattle.path.specs.declared.pieces.Piece.TheVariants as kind

-- ---- sift

pub sift-append : (strike : Bool) (x y : List Name) (z : Sifted) → sift strike (x ++ y) z ≡ sift strike x (sift strike y z)
unfolding sift
sift-append strike [] y z = refl
sift-append strike (n ∷ x) y z = ap (λ (r : Sifted). sift_one (kind_of strike n) n r) (sift-append strike x y z)

-- pieces that keep no name were read
pub record Passed (strike : Bool) (s : Bytes) (rest0 skip0 rest skip : ℕ) : Type 0 where
  pub same : (ns : List Name) → sift strike (front rest0 s) (mk skip0 ns) ≡ sift strike (front rest s) (mk skip ns)
  pub low : rest ≤ rest0
  pub few : skip + rest ≤ skip0 + rest0

pub pass_none : (strike : Bool) (s : Bytes) (rest skip : ℕ) → Passed strike s rest skip rest skip
pass_none strike s rest skip = record { same = λ ns. refl; low = le_refl rest; few = le_refl (skip + rest) }

pub pass_all : (strike : Bool) (s : Bytes) (rest0 skip0 skip : ℕ) → Passed strike s rest0 skip0 0 skip → NextIs strike s rest0 skip0 None 0 skip
unfolding sift front
pass_all strike s rest0 skip0 skip w = (refl, omega (arith, w.few), w.same)

-- the same of what equals the text and what is left of it
pub next_same : (strike t : Bool) (s u : Bytes) (rest0 rest skip0 skip : ℕ) (r : Option (ℕ × ℕ)) (rest' skip' : ℕ)
    → s ≡ u → strike ≡ t → rest0 ≡ rest → skip0 ≡ skip → NextIs strike s rest0 skip0 r rest' skip' → NextIs t u rest skip r rest' skip'
next_same strike t s u rest0 rest skip0 skip r rest' skip' a b c d n =
    subst (λ (x : Bytes). NextIs t x rest skip r rest' skip') a
    (subst (λ (x : Bool). NextIs x s rest skip r rest' skip') b
    (subst (λ (x : ℕ). NextIs strike s x skip r rest' skip') c (subst (λ (x : ℕ). NextIs strike s rest0 x r rest' skip') d n)))

-- the last piece is read first
module _ (strike : Bool) (s : Bytes) (rest a : ℕ) (pos : 0 < rest) (piece : PieceIs s a (rest - 1)) where
  sift_last : (z : Sifted) (k : Piece) → kind_of strike (part a (rest - 1) s) ≡ k
      → sift strike (front rest s) z ≡ sift strike (front a s) (sift_one k (part a (rest - 1) s) z)
  unfolding sift
  sift_last z k q =
      let p : rest ≡ rest - 1 + 1 = omega arith in
      ap (λ (x : ℕ). sift strike (front x s) z) p ∙ ap (λ (x : List Name). sift strike x z) piece.last
      ∙ sift-append strike (front a s) (part a (rest - 1) s ∷ []) z
      ∙ ap (λ (x : Piece). sift strike (front a s) (sift_one x (part a (rest - 1) s) z)) q

  -- what was passed with that piece
  module _ (rest0 skip0 skip : ℕ) (w : Passed strike s rest0 skip0 rest skip) where
    on : (k : Piece) → kind_of strike (part a (rest - 1) s) ≡ k → (ns : List Name)
        → sift strike (front rest0 s) (mk skip0 ns) ≡ sift strike (front a s) (sift_one k (part a (rest - 1) s) (mk skip ns))
    on k q ns = w.same ns ∙ sift_last (mk skip ns) k q

    pub pass-vanished : kind_of strike (part a (rest - 1) s) ≡ kind.Vanishes → Passed strike s rest0 skip0 a skip
    pass-vanished q = record { same = on kind.Vanishes q; low = omega (arith, piece.fits, w.low); few = omega (arith, piece.fits, w.few) }

    pub pass_up : kind_of strike (part a (rest - 1) s) ≡ kind.Drops → Passed strike s rest0 skip0 a (skip + 1)
    pass_up q = record { same = λ ns. rw add-one (on kind.Drops q ns); low = omega (arith, piece.fits, w.low); few = omega (arith, piece.fits, w.few) }

    pub pass-dropped : kind_of strike (part a (rest - 1) s) ≡ kind.Name → 0 < skip → Passed strike s rest0 skip0 a (skip - 1)
    pass-dropped q h =
        let p : skip ≡ suc (skip - 1) = omega arith in
        record {
          same = λ ns. on kind.Name q ns ∙ ap (λ (x : ℕ). sift strike (front a s) (keep_one x (part a (rest - 1) s) ns)) p;
          low = omega (arith, piece.fits, w.low);
          few = omega (arith, piece.fits, w.few);
        }

    pub pass_kept : kind_of strike (part a (rest - 1) s) ≡ kind.Name → skip ≡ 0 → NextIs strike s rest0 skip0 (Some (a, rest - 1)) a skip
    pass_kept q h = (
      refl,
      piece.fits,
      omega (arith, w.low),
      omega (arith, piece.fits, w.few),
      λ ns. on kind.Name q ns ∙ ap (λ (x : ℕ). sift strike (front a s) (keep_one x (part a (rest - 1) s) ns)) h
          ∙ ap (λ (x : ℕ). sift strike (front a s) (mk x (part a (rest - 1) s ∷ ns))) (sym h),
    )

-- ---- what reading from the end has to do with `norm` and `names`

pub drop_last-snoc : (l : List Name) (n : Name) → drop_last (l ++ (n ∷ [])) ≡ l
drop_last-snoc [] n = refl
drop_last-snoc (m ∷ []) n = refl
drop_last-snoc (m ∷ k ∷ l) n = ap (λ (r : List Name). m ∷ r) (drop_last-snoc (k ∷ l) n)

keep-norm : (k : ℕ) (n : Name) (base ns : List Name)
    → drop_n k (base ++ (n ∷ [])) ++ ns ≡ drop_n (keep_one k n ns).skip base ++ (keep_one k n ns).kept
unfolding drop_n
keep-norm zero n base ns = append_snoc base n ns
keep-norm (suc k) n base ns = ap (λ (r : List Name). drop_n k r ++ ns) (drop_last-snoc base n)

module _ (ps : List Name) (k : ℕ) (z : Sifted) (ih : (base : List Name) → drop_n k (norm base (keep ps)) ≡ drop_n z.skip base ++ z.kept) where
  one_norm : (n : Name) (base : List Name) (v u : Bool) → is_up n ≡ u
      → drop_n k (norm base (cond v [] (n ∷ []) ++ keep ps)) ≡ drop_n (sift_one (kind_by true v u) n z).skip base ++ (sift_one (kind_by true v u) n z).kept
  unfolding norm drop_n
  one_norm n base true u e = ih base
  one_norm n base false true e = ap (λ (t : Bool). drop_n k (norm (cond t (drop_last base) (base ++ (n ∷ []))) (keep ps))) e ∙ ih (drop_last base)
  one_norm n base false false e =
      ap (λ (t : Bool). drop_n k (norm (cond t (drop_last base) (base ++ (n ∷ []))) (keep ps))) e
      ∙ (ih (base ++ (n ∷ [])) ∙ keep-norm z.skip n base z.kept)

sift-norm : (ps : List Name) (k : ℕ) (base : List Name)
    → drop_n k (norm base (keep ps)) ≡ drop_n (sift true ps (mk k [])).skip base ++ (sift true ps (mk k [])).kept
unfolding norm keep sift kind_of
sift-norm [] k base = sym (append-nil (drop_n k base))
sift-norm (n ∷ ps) k base = one_norm ps k (sift true ps (mk k [])) (sift-norm ps k) n base (vanishes n) (is_up n) refl

-- a path behind a directory, less its last k names: the directory without what the path drops, and then what the path keeps
pub norm-sifted : (k : ℕ) (base : List Name) (s : Bytes)
    → drop_n k (norm base (names s)) ≡ drop_n (sifted true k s).skip base ++ (sifted true k s).kept
unfolding names sifted
norm-sifted k base s = sift-norm (pieces s) k base

one_raw : (n : Name) (ns : List Name) (v u : Bool) → sift_one (kind_by false v u) n (mk 0 ns) ≡ mk 0 (cond v [] (n ∷ []) ++ ns)
one_raw n ns true u = refl
one_raw n ns false true = refl
one_raw n ns false false = refl

sift-raw : (ps : List Name) → sift false ps (mk 0 []) ≡ mk 0 (keep ps)
unfolding sift keep kind_of
sift-raw [] = refl
sift-raw (n ∷ ps) = ap (λ (z : Sifted). sift_one (kind_of false n) n z) (sift-raw ps) ∙ one_raw n (keep ps) (vanishes n) (is_up n)

-- where `..` is a name, all names are kept
pub raw-sifted : (s : Bytes) → sifted false 0 s ≡ mk 0 (names s)
unfolding names sifted
raw-sifted s = sift-raw (pieces s)

-- ---- reading on

-- what was read: the text from `rest` on keeps `kept`, and `skip` names before it are dropped
pub record Read (strike : Bool) (s : Bytes) (k rest skip : ℕ) (kept : List Name) : Type 0 where
  pub same : sifted strike k s ≡ sift strike (front rest s) (mk skip kept)
  pub room : rest ≤ length s + 1
  pub few : skip + rest ≤ k + length s + 1

module _ (strike : Bool) (s : Bytes) (k : ℕ) where
  pub read_none : Read strike s k (length s + 1) k []
  unfolding sifted front
  read_none = record { same = rw (add-one, take-length); room = omega arith; few = omega arith }

  module _ (rest skip : ℕ) (kept : List Name) (r : Read strike s k rest skip kept) where
    pub read-next : (a e rest' skip' : ℕ) → NextIs strike s rest skip (Some (a, e)) rest' skip' → Read strike s k rest' skip' (part a e s ∷ kept)
    read-next a e rest' skip' n = record { same = r.same ∙ n.4 kept; room = omega (arith, r.room, n.0, n.1, n.2); few = omega (arith, r.few, n.3) }

    pub read_end : (rest' skip' : ℕ) → NextIs strike s rest skip None rest' skip' → (sifted strike k s ≡ mk skip' kept) × (skip' ≤ k + length s + 1)
    read_end rest' skip' n = (r.same ∙ n.2 kept, omega (arith, r.few, n.1))

-- ---- lengths

pub body-append : (x y : List Name) → body (x ++ y) ≡ body x ++ body y
unfolding body
body-append [] y = refl
body-append (n ∷ x) y = ap (λ (r : Bytes). 47 ∷ r) (ap (λ (r : Bytes). n ++ r) (body-append x y) ∙ sym (append_assoc n (body x) (body y)))

pub body_none : 0 ≡ length (body [])
unfolding body
body_none = refl

pub body-cons-length : (n : Name) (ns : List Name) → length (body (n ∷ ns)) ≡ length n + 1 + length (body ns)
unfolding body
body-cons-length n ns = simp length-append (omega arith)

keep-grows : (k : ℕ) (n : Name) (ns : List Name) → length (body ns) ≤ length (body (keep_one k n ns).kept)
keep-grows zero n ns = omega (arith, body-cons-length n ns)
keep-grows (suc k) n ns = le_refl _

one_grows : (k : Piece) (n : Name) (z : Sifted) → length (body z.kept) ≤ length (body (sift_one k n z).kept)
one_grows kind.Vanishes n z = le_refl _
one_grows kind.Drops n z = le_refl _
one_grows kind.Name n z = keep-grows z.skip n z.kept

sift-grows : (strike : Bool) (ps : List Name) (z : Sifted) → length (body z.kept) ≤ length (body (sift strike ps z).kept)
unfolding sift
sift-grows strike [] z = le_refl _
sift-grows strike (n ∷ ps) z = le_trans (sift-grows strike ps z) (one_grows (kind_of strike n) n (sift strike ps z))

-- what was kept stays
pub read_fits : (strike : Bool) (s : Bytes) (k rest skip : ℕ) (kept : List Name) → Read strike s k rest skip kept
    → length (body kept) ≤ length (body (sifted strike k s).kept)
read_fits strike s k rest skip kept r = rw r.same (sift-grows strike (front rest s) (mk skip kept))

-- ---- the last name

one_passive : (k : Piece) (n : Name) (z : Sifted) (ns : List Name)
    → sift_one k n (mk z.skip (z.kept ++ ns)) ≡ mk (sift_one k n z).skip ((sift_one k n z).kept ++ ns)
one_passive kind.Vanishes n z ns = refl
one_passive kind.Drops n z ns = refl
one_passive kind.Name n z ns = go z.skip
  where
    go : (j : ℕ) → keep_one j n (z.kept ++ ns) ≡ mk (keep_one j n z.kept).skip ((keep_one j n z.kept).kept ++ ns)
    go zero = refl
    go (suc j) = refl

-- what is kept already stays behind
pub sift-passive : (strike : Bool) (ps : List Name) (k : ℕ) (ns : List Name)
    → sift strike ps (mk k ns) ≡ mk (sift strike ps (mk k [])).skip ((sift strike ps (mk k [])).kept ++ ns)
unfolding sift
sift-passive strike [] k ns = refl
sift-passive strike (n ∷ ps) k ns =
    ap (λ (z : Sifted). sift_one (kind_of strike n) n z) (sift-passive strike ps k ns) ∙ one_passive (kind_of strike n) n (sift strike ps (mk k [])) ns

pub read_last : (strike : Bool) (s : Bytes) (k rest skip : ℕ) (n : Name) → Read strike s k rest skip (n ∷ [])
    → (init : List Name) × ((sifted strike k s).kept ≡ init ++ (n ∷ []))
read_last strike s k rest skip n r =
    ((sift strike (front rest s) (mk skip [])).kept, ap (λ (z : Sifted). z.kept) (r.same ∙ sift-passive strike (front rest s) skip (n ∷ [])))
