-- The bytes of all names at once: a byte is one of the names' where it is one of some name's.
-- Assumes nothing.
use mathlib.Core.Bool.{Bool, true, false, ◌&&◌, ◌||◌, not, and-false}
use mathlib.Core.List.{List, [], ◌∷◌}
use mathlib.Core.Path.{◌≡◌, refl, sym, ap, ◌∙◌}
use Prim.Native.Nat.{ℕ, zero, suc, ◌+◌, ◌-◌, ◌≤◌, ◌<◌}
use native.Mathlib.Numerals.{add-one}
use native.Mathlib.Omega.{arith}
use lib.Dec.{eqb, leb}
use lib.ListN.{length, take, drop, get_or, length-take, drop_of_length-le}
use lib.Seq.{take-add, drop-cons, drop-drop}
use borrow.Author.Tests.{le-leb}
use Rattle.std.specs.List.{list_any}
use Rattle.std.proofs.lemmas.List.Folds.{list_any-append}
use Rattle.text.specs.Utf8.{Bytes, text}
use Rattle.text.specs.Looks.{odd}
use Rattle.text.proofs.Looking.{or_left, or_right, plain-text}
use Rattle.path.specs.Path.{Name, no_slash}
use Rattle.layout.specs.Fields.{nlen_of}
use Rattle.layout.specs.Rows.{Row, rows, name_total}
use Rattle.lawful_entries.specs.Fits.{row_at}
use Rattle.lawful_entries.specs.Looks.{slash, clean_name, clean_rows, text_rows}

-- where the test holds of no byte
none_at : (f : ℕ → Bool) (s : Bytes) → list_any f s ≡ false → (k : ℕ) → k < length s → f (get_or s k 0) ≡ false
none_at f [] e k h = absurd (omega arith)
none_at f (b ∷ s) e zero h = or_left (f b) (list_any f s) e
none_at f (b ∷ s) e (suc k) h = none_at f s (or_right (f b) (list_any f s) e) k (omega arith)

-- the test holds of some byte of some name
unfoldable any_row : (ℕ → Bool) → List Row → Bool
any_row f [] = false
any_row f (r ∷ rs) = list_any f r.name || any_row f rs

any_rows : (f : ℕ → Bool) (ws : List ℕ) (bs : Bytes) → list_any f (take (name_total ws) bs) ≡ any_row f (rows ws bs)
unfolding name_total rows any_row
any_rows f [] bs = refl
any_rows f (w ∷ ws) bs =
    ap (list_any f) (take-add (nlen_of w) (name_total ws) bs) ∙ list_any-append f (take (nlen_of w) bs) (take (name_total ws) (drop (nlen_of w) bs))
    ∙ ap (λ (x : Bool). list_any f (take (nlen_of w) bs) || x) (any_rows f ws (drop (nlen_of w) bs))

-- no slash, said by a look
slash-look : (n : Name) → no_slash n ≡ not (list_any slash n)
unfolding no_slash
slash-look [] = refl
slash-look (b ∷ n) = go (eqb b 47) (slash-look n)
  where
    go : (t : Bool) → no_slash n ≡ not (list_any slash n) → not t && no_slash n ≡ not (t || list_any slash n)
    go true e = refl
    go false e = e

-- a name with a slash
slash-row : (rs : List Row) → any_row slash rs ≡ true → clean_rows rs ≡ false
unfolding any_row clean_rows
slash-row [] e = sym e
slash-row (r ∷ rs) e = go (list_any slash r.name) refl e (slash-row rs)
  where
    go : (t : Bool) → list_any slash r.name ≡ t → t || any_row slash rs ≡ true → (any_row slash rs ≡ true → clean_rows rs ≡ false) → clean_name r.name && clean_rows rs ≡ false
    go true q e ih = ap (λ (t : Bool). (t && (leb (length r.name) 255 && text r.name)) && clean_rows rs) (slash-look r.name ∙ ap not q)
    go false q e ih = ap (λ (t : Bool). clean_name r.name && t) (ih e) ∙ and-false (clean_name r.name)

-- names without one
no_slash-rows : (ws : List ℕ) (bs : Bytes) → any_row slash (rows ws bs) ≡ false → text_rows (rows ws bs) ≡ clean_rows (rows ws bs)
unfolding rows any_row clean_rows text_rows
no_slash-rows [] bs e = refl
no_slash-rows (w ∷ ws) bs e =
    let n = take (nlen_of w) bs in
    let a : no_slash n ≡ true = slash-look n ∙ ap not (or_left (list_any slash n) (any_row slash (rows ws (drop (nlen_of w) bs))) e) in
    let l : leb (length n) 255 ≡ true = le-leb (length n) 255 (rw length-take (omega arith)) in
    let c : clean_name n ≡ text n = rw (a, l) in
    let t = no_slash-rows ws (drop (nlen_of w) bs) (or_right (list_any slash n) (any_row slash (rows ws (drop (nlen_of w) bs))) e) in
    rw (c, t)

-- names of plain bytes
plain_rows : (rs : List Row) → any_row odd rs ≡ false → text_rows rs ≡ true
unfolding any_row text_rows
plain_rows [] e = refl
plain_rows (r ∷ rs) e = rw (plain-text r.name (λ k h _. none_at odd r.name (or_left (list_any odd r.name) (any_row odd rs) e) k h)) (plain_rows rs (or_right (list_any odd r.name) (any_row odd rs) e))

module _ (ws : List ℕ) (bs : Bytes) (n : ℕ) (q : n ≡ name_total ws) where
  seen : (f : ℕ → Bool) (t : Bool) → t ≡ list_any f (take n bs) → any_row f (rows ws bs) ≡ t
  seen f t e = sym (e ∙ ap (λ (k : ℕ). list_any f (take k bs)) q ∙ any_rows f ws bs)

  pub clean-slash : (t : Bool) → t ≡ list_any slash (take n bs) → t ≡ true → false ≡ clean_rows (rows ws bs)
  clean-slash t e z = sym (slash-row (rows ws bs) (seen slash t e ∙ z))

  pub clean-text : (t : Bool) → t ≡ list_any slash (take n bs) → t ≡ false → text_rows (rows ws bs) ≡ clean_rows (rows ws bs)
  clean-text t e z = no_slash-rows ws bs (seen slash t e ∙ z)

  pub clean-plain : (t u : Bool) → t ≡ list_any slash (take n bs) → t ≡ false → u ≡ list_any odd (take n bs) → u ≡ false → true ≡ clean_rows (rows ws bs)
  clean-plain t u e z f y = sym (plain_rows (rows ws bs) (seen odd u f ∙ y)) ∙ clean-text t e z

-- ---- name by name

module _ (ws : List ℕ) (i : ℕ) (h : i < length ws) where
  -- the entry of the next record
  row_next : (bs : Bytes) → rows (drop i ws) bs ≡ row_at bs (get_or ws i 0) 0 ∷ rows (drop (suc i) ws) (drop (nlen_of (get_or ws i 0)) bs)
  unfolding rows
  row_next bs = rw (drop-cons ws i 0 h)

  pub rows_at : (bs : Bytes) (off : ℕ) → rows (drop i ws) (drop off bs) ≡ row_at bs (get_or ws i 0) off ∷ rows (drop (suc i) ws) (drop (off + nlen_of (get_or ws i 0)) bs)
  rows_at bs off = row_next (drop off bs) ∙ ap (λ (t : Bytes). row_at bs (get_or ws i 0) off ∷ rows (drop (suc i) ws) t) (drop-drop (nlen_of (get_or ws i 0)) off bs)

  -- the bytes of the names from there on
  pub total_at : name_total (drop i ws) ≡ nlen_of (get_or ws i 0) + name_total (drop (suc i) ws)
  unfolding name_total
  total_at = rw (drop-cons ws i 0 h)

  -- a name s, which is text or not, and t behind it
  pub text_step : (bs s t : Bytes) (b : Bool) → s ≡ take (nlen_of (get_or ws i 0)) bs → t ≡ drop (nlen_of (get_or ws i 0)) bs → b ≡ text s
      → text_rows (rows (drop i ws) bs) ≡ b && text_rows (rows (drop (i + 1) ws) t)
  unfolding text_rows
  text_step bs s t b e f q = rw (add-one, q, e, f) (ap text_rows (row_next bs))

pub rows_end : (ws : List ℕ) (bs : Bytes) (i : ℕ) → length ws ≤ i → rows (drop i ws) bs ≡ []
unfolding rows
rows_end ws bs i h = rw (drop_of_length-le ws {i = i} h)

pub text-end : (ws : List ℕ) (bs : Bytes) (i : ℕ) → length ws ≤ i → text_rows (rows (drop i ws) bs) ≡ true
unfolding text_rows
text-end ws bs i h = ap text_rows (rows_end ws bs i h)

-- a part of known length
pub part-name : (bs : Bytes) (a e n : ℕ) → e ≡ a + n → take (e - a) (drop a bs) ≡ take n (drop a bs)
part-name bs a e n q = let z : e - a ≡ n = omega arith in rw z
