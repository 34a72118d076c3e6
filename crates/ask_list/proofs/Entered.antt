-- The entries of a directory record by record: one that is less deep ends them, one that is deeper is passed. Their names stand within
-- the bytes, and are those of the rows.
-- Assumes nothing.
use mathlib.Core.Path.{◌≡◌, refl, ap}
use mathlib.Core.List.{List, [], ◌∷◌, ◌++◌, map}
use Prim.Native.Nat.{ℕ, suc, ◌+◌, ◌*◌, ◌≤◌, ◌<◌, zero-le}
use native.Mathlib.Omega.{arith}
use lib.ListN.{length, take, drop, length-append, length-drop}
use lib.Seq.{drop-drop, length-take-le}
use borrow.Author.Tests.{le-leb, lt-leb, le-ltb, lt-ltb, eq-eqb, ne_eqb}
use Rattle.std.specs.List.{sum_by}
use Rattle.std.proofs.lemmas.List.Sums.{sum_by-cons}
use Rattle.text.specs.Utf8.{Bytes}
use Rattle.model.proofs.Ordering.{Sides, less, equal, more, sides}
use Rattle.layout.specs.Fields.{depth_of, nlen_of}
use Rattle.layout.specs.Rows.{Row, name_total, rows}
use Rattle.ask_find.specs.declared.Spot.{Spot}
use Rattle.ask_list.specs.declared.entries.Entry.{Entry}
use Rattle.ask_list.specs.declared.entries.Entries.{Entries}
use Rattle.ask_list.specs.Entries.{entries_at, next_spot}
use Rattle.ask_list.specs.Listed.{entries_in, row_names}

-- those that an iterator has left
abbrev pub left_in : Entries → List Entry
left_in e = entries_at e.depth e.left.now e.spot

-- ---- one record

pub entries-end : (m : ℕ) (ws : List ℕ) (s : Spot) → length ws ≡ 0 → entries_at m ws s ≡ []
unfolding entries_at
entries-end m [] s h = refl
entries-end m (w ∷ ws) s h = absurd (omega arith)

module _ (m w : ℕ) (ws : List ℕ) (s : Spot) where
  -- the entry of the record
  abbrev pub first : Entry
  first = record { spot = s; size = nlen_of w }

  -- and what is behind it
  abbrev pub behind : List Entry
  behind = entries_at m ws (next_spot s w)

  pub data Step : Type 0 where
    out : depth_of w < m → entries_at m (w ∷ ws) s ≡ [] → Step
    on : depth_of w ≡ m → entries_at m (w ∷ ws) s ≡ first ∷ behind → Step
    past : m < depth_of w → entries_at m (w ∷ ws) s ≡ behind → Step

  pub step : Step
  unfolding entries_at
  step = go (sides (depth_of w) m)
    where
      go : Sides (depth_of w) m → Step
      go (less h) = out h (rw (lt-ltb (depth_of w) m h))
      go (equal h) = on h (rw (le-ltb (depth_of w) m (omega arith), eq-eqb (depth_of w) m h))
      go (more h) = past h (rw (le-ltb (depth_of w) m (omega arith), ne_eqb (depth_of w) m (λ e. omega arith)))

  pub entries_out : depth_of w < m → entries_at m (w ∷ ws) s ≡ []
  entries_out h = go step
    where
      go : Step → entries_at m (w ∷ ws) s ≡ []
      go (out g e) = e
      go (on g e) = absurd (omega arith)
      go (past g e) = absurd (omega arith)

  pub entries_on : depth_of w ≡ m → entries_at m (w ∷ ws) s ≡ first ∷ behind
  entries_on h = go step
    where
      go : Step → entries_at m (w ∷ ws) s ≡ first ∷ behind
      go (out g e) = absurd (omega arith)
      go (on g e) = e
      go (past g e) = absurd (omega arith)

  pub entries-past : m < depth_of w → entries_at m (w ∷ ws) s ≡ behind
  entries-past h = go step
    where
      go : Step → entries_at m (w ∷ ws) s ≡ behind
      go (out g e) = absurd (omega arith)
      go (on g e) = absurd (omega arith)
      go (past g e) = e

-- the names of one more record
pub total_on : (w : ℕ) (ws : List ℕ) → name_total (w ∷ ws) ≡ nlen_of w + name_total ws
unfolding name_total
total_on w ws = refl

-- a name has at most 255 bytes
pub total-le : (ws : List ℕ) → name_total ws ≤ 255 * length ws
unfolding name_total
total-le [] = zero-le
total-le (w ∷ ws) = omega (arith, total-le ws)

-- ---- all of them

-- the bytes that an entry takes up in the text
abbrev pub text_size : Entry → ℕ
text_size e = e.size + 1

-- the names stand within the bytes
abbrev pub Fits : Bytes → List Entry → Type 0
Fits bs [] = Unit {0}
Fits bs (e ∷ es) = (e.spot.off + e.size ≤ length bs) × Fits bs es

-- they are few, and their names short
pub record Few (es : List Entry) (n : ℕ) : Type 0 where
  pub count : length es ≤ n
  pub sizes : sum_by text_size es ≤ 256 * n

pub few : (m : ℕ) (ws : List ℕ) (s : Spot) → Few (entries_at m ws s) (length ws)
few m [] s = rw (entries-end m [] s refl) (record { count = zero-le; sizes = zero-le })
few m (w ∷ ws) s = go (step m w ws s) (few m ws (next_spot s w))
  where
    go : Step m w ws s → Few (behind m w ws s) (length ws) → Few (entries_at m (w ∷ ws) s) (length (w ∷ ws))
    go (out g e) f = rw e (record { count = zero-le; sizes = zero-le })
    go (on g e) f = rw e (record { count = omega (arith, f.count); sizes = omega (arith, f.sizes, sum_by-cons text_size (first m w ws s) (behind m w ws s)) })
    go (past g e) f = rw e (record { count = omega (arith, f.count); sizes = omega (arith, f.sizes) })

pub fits : (bs : Bytes) (m : ℕ) (ws : List ℕ) (s : Spot) → s.off + name_total ws ≤ length bs → Fits bs (entries_at m ws s)
fits bs m [] s h = rw (entries-end m [] s refl) tt
fits bs m (w ∷ ws) s h = go (step m w ws s) (fits bs m ws (next_spot s w) (omega (arith, total_on w ws)))
  where
    go : Step m w ws s → Fits bs (behind m w ws s) → Fits bs (entries_at m (w ∷ ws) s)
    go (out g e) f = rw e tt
    go (on g e) f = rw e (omega (arith, h, total_on w ws), f)
    go (past g e) f = rw e f

-- ---- their names

-- the name of an entry
abbrev pub name_in : Bytes → Entry → Bytes
name_in bs e = take e.size (drop e.spot.off bs)

-- names, each with a zero byte behind it
unfoldable pub texts : List Bytes → Bytes
texts [] = []
texts (x ∷ xs) = x ++ (0 ∷ texts xs)

-- the text of the names of some entries
abbrev pub text_of : Bytes → List Entry → Bytes
text_of bs es = texts (map (name_in bs) es)

pub text-end : (bs : Bytes) → text_of bs [] ≡ []
unfolding texts
text-end bs = refl

pub text_on : (bs : Bytes) (e : Entry) (es : List Entry) → text_of bs (e ∷ es) ≡ name_in bs e ++ (0 ∷ text_of bs es)
unfolding texts
text_on bs e es = refl

pub name-long : (bs : Bytes) (e : Entry) → e.spot.off + e.size ≤ length bs → length (name_in bs e) ≡ e.size
name-long bs e h = length-take-le e.size (drop e.spot.off bs) (omega (arith, length-drop e.spot.off bs))

pub text-size : (bs : Bytes) (es : List Entry) → Fits bs es → length (text_of bs es) ≡ sum_by text_size es
unfolding texts
text-size bs [] h = refl
text-size bs (e ∷ es) h =
    omega (
      arith,
      text-size bs es h.1,
      length-append (name_in bs e) (0 ∷ text_of bs es),
      name-long bs e h.0,
      sum_by-cons text_size e es,
    )

-- the rows of a directory of depth d have them
pub names-are : (d : ℕ) (ws : List ℕ) (bs : Bytes) (s : Spot) → map (λ (r : Row). r.name) (entries_in d (rows ws (drop s.off bs))) ≡ map (name_in bs) (entries_at (suc d) ws s)
unfolding rows entries_in
names-are d [] bs s = rw (entries-end (suc d) [] s refl) refl
names-are d (w ∷ ws) bs s = go (step (suc d) w ws s) (names-are d ws bs (next_spot s w))
  where
    go : Step (suc d) w ws s → map (λ (r : Row). r.name) (entries_in d (rows ws (drop (s.off + nlen_of w) bs))) ≡ map (name_in bs) (behind (suc d) w ws s)
        → map (λ (r : Row). r.name) (entries_in d (rows (w ∷ ws) (drop s.off bs))) ≡ map (name_in bs) (entries_at (suc d) (w ∷ ws) s)
    go (out g e) f = rw (e, le-leb (depth_of w) d (omega arith)) refl
    go (on g e) f = rw (e, lt-leb (depth_of w) d (omega arith), eq-eqb (depth_of w) (suc d) g, drop-drop) (ap (λ (l : List Bytes). name_in bs (first (suc d) w ws s) ∷ l) f)
    go (past g e) f = rw (e, lt-leb (depth_of w) d (omega arith), ne_eqb (depth_of w) (suc d) (λ z. omega arith), drop-drop) f

pub row-names : (rs : List Row) → row_names rs ≡ texts (map (λ (r : Row). r.name) rs)
unfolding row_names texts
row-names [] = refl
row-names (r ∷ rs) = ap (λ (s : Bytes). r.name ++ (0 ∷ s)) (row-names rs)
